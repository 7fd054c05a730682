-- What weighing says of a tree.
use Rattle.std.specs.Prelude.{◌≡◌, ℕ, Bool, true, false, Some, None, Option}
use Rattle.std.specs.Option.{option_map}
use Rattle.kinds.specs.Weights.{Weights}
use Rattle.automata.specs.Trees.{Tree, Over}
use Rattle.automata.specs.Automata.{Automaton}
use Rattle.automata.specs.Runs.{At, run}
use Rattle.rules.specs.declared.weighing.Weighing.{Weighing}
use Rattle.rules.specs.declared.weighing.Weighing.TheVariants.{NoRun, Ended, Weighs}

-- no run; or a run to a state that is not accepting; or to an accepting one, with the run weight
abbrev pub Said : {V W : Type 0} → (V → W) → (ℕ → Bool) → Option (At W) → Weighing V → Type 0
Said stands accepting ran NoRun = ran ≡ None
Said stands accepting ran (Ended q) = (accepting q ≡ false) × (option_map (λ a. a.state) ran ≡ Some q)
Said stands accepting ran (Weighs q v) = (accepting q ≡ true) × (ran ≡ Some (record { state = q; weight = stands v }))

abbrev pub Says : {V W : Type 0} → (V → W) → Weights W → Automaton W → Tree → Weighing V → Type 0
Says stands K A t w = Said stands A.accepting (run K A t) w

-- what was weighed is a tree over the alphabet, and this is said of it
pub record Weighed {V W : Type 0} (stands : V → W) (K : Weights W) (A : Automaton W) (t : Tree) (w : Weighing V) : Type 0 where
  pub over : Over A.ranks t
  pub says : Says stands K A t w

-- the weight that is said; nothing if there is no run, or none to an accepting state
abbrev pub weight_said : {V W : Type 0} → (V → W) → Weighing V → Option W
weight_said stands NoRun = None
weight_said stands (Ended q) = None
weight_said stands (Weighs q v) = Some (stands v)
