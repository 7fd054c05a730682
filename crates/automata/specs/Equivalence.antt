-- Equivalence of states up to a factor is an equivalence relation and a congruence.
use Rattle.std.specs.Prelude.{◌≡◌, ℕ, List, ◌∷◌, ◌++◌, Some}
use Rattle.std.specs.List.{AllByRecursion}
use Rattle.kinds.specs.Weights.{Weights}
use Rattle.automata.specs.Automata.{Transition, Automaton, find}
use Rattle.automata.specs.Contexts.{Live, Equivalent}

-- a rule for the left side s(qs) with a live target, equivalent to r's by the factor that the two weights and a force
pub record Congruent {W : Type 0} (K : Weights W) (A : Automaton W) (a : W) (r : Transition W) (s : ℕ) (qs : List ℕ) : Type 0 where
  pub other : Transition W
  pub there : find A.rules s qs ≡ Some other
  pub live_target : Live K A other.target
  pub equivalent : Equivalent K A (K.times a (K.times other.weight (K.inverse r.weight))) r.target other.target

pub record Equivalences {W : Type 0} (K : Weights W) (A : Automaton W) : Type 0 where
  pub reflexive : (p : ℕ) → Equivalent K A K.one p p
  pub symmetric : (a : W) (p q : ℕ) → Equivalent K A a p q → Equivalent K A (K.inverse a) q p
  pub transitive : (a b : W) (p q r : ℕ) → Equivalent K A a p q → Equivalent K A b q r → Equivalent K A (K.times a b) p r
  pub unique : (a b : W) (p q : ℕ) → Live K A q → Equivalent K A a p q → Equivalent K A b p q → a ≡ b
  pub congruent : (s : ℕ) (before after : List ℕ) (a : W) (p q : ℕ) (r : Transition W) → find A.rules s (before ++ p ∷ after) ≡ Some r → AllByRecursion (Live K A) r.children → Live K A r.target → Live K A q → Equivalent K A a p q → Congruent K A a r s (before ++ q ∷ after)
