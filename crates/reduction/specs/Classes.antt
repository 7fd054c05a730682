-- The grouping that classes and the factors in a work list stand for.
use Rattle.std.specs.Prelude.{ℕ, Bool, cond, List, is_some, Some, None, Option, nat_lt, slice_index_or}
use Rattle.std.specs.Option.{unwrap_or}
use Rattle.kinds.specs.Weights.{Weights}
use Rattle.automata.specs.Runs.{At}
use Rattle.automata.specs.Merging.{Grouping}
use Rattle.rules.specs.declared.place.Place.{Place}
use Rattle.rules.specs.declared.side.Side.TheVariants.{First}
use Rattle.rules.specs.Running.{run_at}
use Rattle.reduction.specs.declared.classes.Classes.{Classes}

-- the class of a state that stays; none from 48 on does
abbrev pub class_at : Classes → ℕ → Option ℕ
class_at c q = cond (nat_lt q 48) (slice_index_or c.of q None) None

abbrev pub member_in : Classes → ℕ → Bool
member_in c q = is_some (class_at c q)

abbrev pub class_in : Classes → ℕ → ℕ
class_in c q = unwrap_or (class_at c q) 0

-- the weight of a run, and one if there is none
abbrev pub weight_or_one : {W : Type 0} → Weights W → Option (At W) → W
weight_or_one K None = K.one
weight_or_one K (Some a) = a.weight

-- the factor of a state: the weight of the run that its place holds on the first side
abbrev pub factor_at : {V W : Type 0} → (V → W) → Weights W → List (Place V) → ℕ → W
factor_at stands K work q = weight_or_one K (run_at stands First work q)

abbrev pub grouping : {V W : Type 0} → (V → W) → Weights W → Classes → List (Place V) → Grouping W
grouping stands K c work = record {
  member = member_in c;
  class = class_in c;
  factor = factor_at stands K work;
  count = c.count;
}
