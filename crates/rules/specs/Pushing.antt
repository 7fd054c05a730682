-- Pushing one state: its tests, and the factor for each state.
use Rattle.std.specs.Prelude.{◌≡◌, ℕ, cond, List, [], ◌∷◌, map, length, take, drop, ◌==◌, nat_le}
use Rattle.kinds.specs.Weights.{Weights}
use Rattle.automata.specs.Runs.{Alike}
use Rattle.automata.specs.Pushing.{reweighed, pushed}
use Rattle.trees.specs.declared.refusal.Refusal.TheVariants.{State, Accepting}
use Rattle.trees.specs.Refusals.{Check}
use Rattle.rules.specs.declared.rule.Rule.{Rule}
use Rattle.rules.specs.declared.shape.Shape.{Shape}
use Rattle.rules.specs.Books.{Book, holding}
use Rattle.rules.specs.Shapes.{transition}

-- the factor f at the state q, and one elsewhere
abbrev pub at_state : {W : Type 0} → Weights W → ℕ → W → ℕ → W
at_state K q f p = cond (p == q) f K.one

-- the product of b, once for every place that holds q
abbrev pub at_places : {W : Type 0} → Weights W → ℕ → W → List ℕ → W
at_places K q b [] = K.one
at_places K q b (p ∷ ps) = K.times (at_state K q b p) (at_places K q b ps)

-- a push is refused at a state that is none, and at an accepting one
abbrev pub push_checks : {W : Type 0} → Book W → ℕ → List Check
push_checks b q =
    record { met = nat_le b.content.states q; refusal = State } ∷ record { met = b.content.accepting q; refusal = Accepting } ∷ []

-- what a table holds after its state q was pushed by f
abbrev pub pushed_book : {W : Type 0} → Weights W → Book W → ℕ → W → Book W
pushed_book K b q f = record { places = b.places; content = pushed K (at_state K q f) b.content }

-- a memory pushed up to a place: its rules before it stand for the pushed ones, and the rest is as it was
pub record PushedTo {V W : Type 0} (K : Weights W) (stands : V → W) (ranks : List ℕ) (q : ℕ) (f : W) (before after : List (Rule V)) (i : ℕ) : Type 0 where
  pub same_length : length after ≡ length before
  pub pushed_rules : map (transition stands ranks) (take i after) ≡ map (reweighed K (at_state K q f)) (map (transition stands ranks) (take i before))
  pub same_rest : drop i after ≡ drop i before

-- what an accepted push leaves: the pushed rules, the memory beyond them, and the weight of every tree
pub record Pushes {V W : Type 0} (K : Weights W) (stands : V → W) (shape : Shape) (count q : ℕ) (f : W) (before after : List (Rule V)) : Type 0 where
  pub rules : holding stands shape after count ≡ pushed_book K (holding stands shape before count) q f
  pub beyond : drop count after ≡ drop count before
  pub alike : Alike K (holding stands shape before count).content (holding stands shape after count).content
