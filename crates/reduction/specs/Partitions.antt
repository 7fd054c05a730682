-- The classes of equivalent live states, numbered by their least members.
use Rattle.std.specs.Prelude.{◌≡◌, ℕ, ◌<◌, ◌≤◌, true, ◌↔◌}
use Rattle.kinds.specs.Weights.{Weights}
use Rattle.automata.specs.Automata.{Automaton}
use Rattle.automata.specs.Contexts.{Live, Equivalent}
use Rattle.automata.specs.Merging.{Grouping, Admissible}

-- the classes of equivalent live states, each with its least member, numbered by these; and factors that make the rules of equivalent states equal
pub record Partition {W : Type 0} (K : Weights W) (A : Automaton W) (G : Grouping W) : Type 0 where
  pub live_members : (q : ℕ) → (G.member q ≡ true) ↔ Live K A q
  pub equivalent_class : (p q : ℕ) → G.member p ≡ true → G.member q ≡ true → (G.class p ≡ G.class q) ↔ ((a : W) × Equivalent K A a p q)
  pub admissible : Admissible K A G
  pub least : ℕ → ℕ
  pub least_member : (c : ℕ) → c < G.count → (G.member (least c) ≡ true) × (G.class (least c) ≡ c)
  pub least_below : (q : ℕ) → G.member q ≡ true → least (G.class q) ≤ q
  pub ascending : (c d : ℕ) → c < d → d < G.count → least c < least d
