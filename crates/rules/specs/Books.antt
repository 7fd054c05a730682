-- The book of a table: what it must mean, kept from its calls alone, and what accept and add do to it.
use Rattle.std.specs.Prelude.{◌≡◌, ℕ, min, true, false, cond, not, ◌&&◌, ltb, List, [], ◌∷◌, ◌++◌, length, take, is_some, ◌==◌, nat_le, nat_lt}
use Rattle.automata.specs.Trees.{rank}
use Rattle.automata.specs.Automata.{Transition, Automaton, find}
use Rattle.automata.specs.Merging.{all_in}
use Rattle.trees.specs.declared.refusal.Refusal.TheVariants.{State, Symbol, Children, Taken, Full}
use Rattle.trees.specs.Refusals.{Check}
use Rattle.rules.specs.declared.rule.Rule.{Rule}
use Rattle.rules.specs.declared.shape.Shape.{Shape}
use Rattle.rules.specs.Shapes.{automaton}

-- ranks, number of states, accepting states and rules, and how many places the rule memory has
pub record Book (W : Type 0) : Type 0 where
  pub places : ℕ
  pub content : Automaton W

-- the book of a table that was just opened
abbrev pub opened : {W : Type 0} → List ℕ → ℕ → ℕ → Book W
opened ranks states places =
    record { places = places; content = record { ranks = ranks; states = states; accepting = λ q. false; rules = [] } }

-- b is that book, place by place
pub record Opens {W : Type 0} (ranks : List ℕ) (states places : ℕ) (b : Book W) : Type 0 where
  pub same_places : b.places ≡ places
  pub same_ranks : b.content.ranks ≡ ranks
  pub same_states : b.content.states ≡ states
  pub no_accepting : (q : ℕ) → b.content.accepting q ≡ false
  pub no_rules : b.content.rules ≡ []

-- accept is refused for a state that is none
abbrev pub accept_checks : {W : Type 0} → Book W → ℕ → List Check
accept_checks b q = record { met = nat_le b.content.states q; refusal = State } ∷ []

-- the state is accepting from now on
abbrev pub accepted : {W : Type 0} → Book W → ℕ → Book W
accepted b q =
    record { places = b.places; content = record { ranks = b.content.ranks; states = b.content.states; accepting = λ p. cond (p == q) true (b.content.accepting p); rules = b.content.rules } }

-- b' is that book, place by place
pub record Accepts {W : Type 0} (q : ℕ) (b b' : Book W) : Type 0 where
  pub same_places : b'.places ≡ b.places
  pub same_ranks : b'.content.ranks ≡ b.content.ranks
  pub same_states : b'.content.states ≡ b.content.states
  pub marks : (p : ℕ) → b'.content.accepting p ≡ cond (p == q) true (b.content.accepting p)
  pub same_rules : b'.content.rules ≡ b.content.rules

-- the tests of add, in order: the symbol, the number of children, the states, the left side, the memory
abbrev pub add_checks : {W : Type 0} → Book W → ℕ → List ℕ → ℕ → List Check
add_checks b s qs t =
    record { met = nat_le (length b.content.ranks) s; refusal = Symbol }
    ∷ record { met = not (length qs == rank b.content.ranks s); refusal = Children }
    ∷ record { met = not (nat_lt t b.content.states && all_in (λ q. ltb q b.content.states) qs); refusal = State }
    ∷ record { met = is_some (find b.content.rules s qs); refusal = Taken }
    ∷ record { met = nat_le (min b.places 1024) (length b.content.rules); refusal = Full }
    ∷ []

-- the rule stands last from now on
abbrev pub added : {W : Type 0} → Book W → Transition W → Book W
added b r =
    record { places = b.places; content = record { ranks = b.content.ranks; states = b.content.states; accepting = b.content.accepting; rules = b.content.rules ++ r ∷ [] } }

-- what a shape and the first rules of a memory hold
abbrev pub holding : {V W : Type 0} → (V → W) → Shape → List (Rule V) → ℕ → Book W
holding stands shape memory count = record { places = length memory; content = automaton stands shape (take count memory) }
