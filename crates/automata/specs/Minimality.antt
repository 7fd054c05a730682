-- The lower bound on the number of states, and the automaton that meets it.
use Rattle.std.specs.Prelude.{◌≡◌, ℕ, ◌<◌, true, ◌↔◌}
use Rattle.kinds.specs.Weights.{Weights}
use Rattle.automata.specs.Automata.{Automaton}
use Rattle.automata.specs.Runs.{Alike, Minimal}
use Rattle.automata.specs.Contexts.{Live, Equivalent}
use Rattle.automata.specs.Merging.{Grouping, Admissible, merged}

-- every state is live, and no two are equivalent
pub record Reduced {W : Type 0} (K : Weights W) (A : Automaton W) : Type 0 where
  pub live : (q : ℕ) → q < A.states → Live K A q
  pub apart : (p q : ℕ) → p < A.states → q < A.states → (a : W) → Equivalent K A a p q → p ≡ q

abbrev pub LowerBound : {W : Type 0} → Weights W → Type 0
LowerBound {W} K = (A : Automaton W) → Reduced K A → Minimal K A

-- the members of a grouping are the live states, and equivalent ones share a class
pub record ByEquivalence {W : Type 0} (K : Weights W) (A : Automaton W) (G : Grouping W) : Type 0 where
  pub live_members : (q : ℕ) → (G.member q ≡ true) ↔ Live K A q
  pub shared : (p q : ℕ) → G.member p ≡ true → G.member q ≡ true → (a : W) → Equivalent K A a p q → G.class p ≡ G.class q

-- classes without a gap, one at accepting states, and within a class the quotient of two factors makes the states equivalent
pub record Quotients {W : Type 0} (K : Weights W) (A : Automaton W) (G : Grouping W) : Type 0 where
  pub class_within : (q : ℕ) → G.member q ≡ true → G.class q < G.count
  pub no_gap : (c : ℕ) → c < G.count → (q : ℕ) × (G.member q ≡ true) × (G.class q ≡ c)
  pub accepting_one : (q : ℕ) → G.member q ≡ true → A.accepting q ≡ true → G.factor q ≡ K.one
  pub quotient : (p q : ℕ) → G.member p ≡ true → G.member q ≡ true → G.class p ≡ G.class q → Equivalent K A (K.times (G.factor p) (K.inverse (G.factor q))) p q

-- classes of equivalent live states are admissible, and their merge is the smallest automaton that weighs alike
pub record Reducing {W : Type 0} (K : Weights W) (A : Automaton W) (G : Grouping W) : Type 0 where
  pub admissible : Quotients K A G → Admissible K A G
  pub reduced : Admissible K A G → Reduced K (merged K G A)
  pub alike : Admissible K A G → Alike K A (merged K G A)
  pub minimal : Admissible K A G → Minimal K (merged K G A)
