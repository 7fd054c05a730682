-- What the two runs of an entry of a forest weigh is what its tree weighs.
use Rattle.std.proofs.Common.{◌≡◌, ℕ, ◌<◌, List, Some, None, Option, refl, ap, ◌∙◌}
use Rattle.kinds.specs.Weights.{Weights}
use Rattle.automata.specs.Automata.{Automaton}
use Rattle.automata.specs.Runs.{At, accepted, weight_of}
use Rattle.rules.specs.declared.place.Place.{Place}
use Rattle.rules.specs.declared.side.Side.TheVariants.{First, Second}
use Rattle.rules.specs.Running.{run_at}
use Rattle.comparison.specs.Differing.{weight_by}
use Rattle.comparison.specs.Forest.{tree_in, Forest}

accepted_by : {W : Type 0} (A : Automaton W) (o : Option (At W)) → weight_by A.accepting o ≡ accepted A o
accepted_by A None = refl
accepted_by A (Some a) = refl

module _ {V W : Type 0} (K : Weights W) (stands : V → W) (A B : Automaton W) (work : List (Place V)) (len : ℕ) (f : Forest K stands A B work len) (i : ℕ) (h : i < len) where
  pub first_weight : weight_by A.accepting (run_at stands First work i) ≡ weight_of K A (tree_in A.ranks work len i)
  first_weight = ap (weight_by A.accepting) (f.first_runs i h) ∙ accepted_by A _

  pub second_weight : weight_by B.accepting (run_at stands Second work i) ≡ weight_of K B (tree_in B.ranks work len i)
  second_weight = ap (weight_by B.accepting) (f.second_runs i h) ∙ accepted_by B _
