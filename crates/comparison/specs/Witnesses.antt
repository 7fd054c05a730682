-- An entry of a work list whose tree two automata weigh differently.
use Rattle.std.specs.Prelude.{◌≡◌, ℕ, ◌+◌, ◌*◌, ◌<◌, ◌≤◌, List, length, Some, None, Option}
use Rattle.kinds.specs.Weights.{Weights}
use Rattle.automata.specs.Automata.{Automaton}
use Rattle.automata.specs.Runs.{At, weight_of, Alike}
use Rattle.automata.specs.Contexts.{Live}
use Rattle.rules.specs.declared.place.Place.{Place}
use Rattle.rules.specs.declared.side.Side.{Side}
use Rattle.rules.specs.declared.side.Side.TheVariants.{First, Second}
use Rattle.rules.specs.Running.{run_at}
use Rattle.liveness.specs.Living.{Life}
use Rattle.comparison.specs.declared.survey.Survey.{Survey}
use Rattle.comparison.specs.Forest.{tree_in, Forest}
use Rattle.comparison.specs.Access.{sided}
use Rattle.comparison.specs.Climbing.{EndsLive}
use Rattle.comparison.specs.Scanning.{other_side}
use Rattle.comparison.specs.Surveying.{Matched, Known}

-- how many places a comparison needs
abbrev pub places_needed : {W : Type 0} → Automaton W → Automaton W → ℕ
places_needed A B = 2 * ((A.states + 1) * (B.states + 1))

-- the two weigh the tree of the entry top differently, and there are at most limit entries
pub record Found {V W : Type 0} (K : Weights W) (stands : V → W) (A B : Automaton W) (limit : ℕ) (work : List (Place V)) (top : ℕ) : Type 0 where
  pub len : ℕ
  pub forest : Forest K stands A B work len
  pub below : top < len
  pub few : len ≤ limit
  pub apart : weight_of K A (tree_in A.ranks work len top) ≡ weight_of K B (tree_in A.ranks work len top) → ⊥

-- the run of the entry ends in a live state on this side only
pub record Lonely {V W : Type 0} (K : Weights W) (stands : V → W) (A B : Automaton W) (side : Side) (L : Life) (work : List (Place V)) (entry : ℕ) : Type 0 where
  pub there : EndsLive stands side L work entry
  pub no_other : (b : At W) → run_at stands (other_side side) work entry ≡ Some b → Live K (sided (other_side side) A B) b.state → ⊥

-- a search behind the surveys of both sides ended with len entries
pub record Searched {V W : Type 0} (K : Weights W) (stands : V → W) (A B : Automaton W) (one two : Survey) (work : List (Place V)) (len : ℕ) : Type 0 where
  pub matched : Matched A B
  pub forest : Forest K stands A B work len
  pub first_known : Known stands A B First one work len
  pub second_known : Known stands A B Second two work len
  pub few : len ≤ A.states + B.states + A.states * B.states + 1
  pub room : places_needed A B ≤ length work

-- no entry if every tree weighs alike, and otherwise one that tells the two apart
abbrev pub Witnessed : {V W : Type 0} → Weights W → (V → W) → Automaton W → Automaton W → List (Place V) → Option ℕ → Type 0
Witnessed K stands A B work None = Alike K A B
Witnessed K stands A B work (Some top) = Found K stands A B (places_needed A B) work top
