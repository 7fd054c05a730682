-- Plugging a tree into a context, and pushing: weight moved along the states by a factor for each.
use Rattle.std.specs.Prelude.{◌≡◌, ℕ, true, List, [], ◌∷◌, map, Some, None, Option}
use Rattle.kinds.specs.Weights.{Weights}
use Rattle.automata.specs.Trees.{Tree}
use Rattle.automata.specs.Automata.{Transition, Automaton}
use Rattle.automata.specs.Runs.{At, run, weight_of, Alike}
use Rattle.automata.specs.Contexts.{Context, plug, value, scaled}

-- what a context gives for a run in its hole
abbrev pub given : {W : Type 0} → Weights W → Automaton W → Context → Option (At W) → Option W
given K A c None = None
given K A c (Some a) = scaled K a.weight (value K A c a.state)

-- a tree in a context weighs its run weight times what its state gives there
abbrev pub Plugging : {W : Type 0} → Weights W → Type 0
Plugging {W} K = (A : Automaton W) (c : Context) (t : Tree) → weight_of K A (plug c t) ≡ given K A c (run K A t)

-- the inverses of the factors of child states, once for every place
abbrev pub undone : {W : Type 0} → Weights W → (ℕ → W) → List ℕ → W
undone K f [] = K.one
undone K f (q ∷ qs) = K.times (K.inverse (f q)) (undone K f qs)

-- a rule's weight times its target's factor and the inverse of the factor at each child place
abbrev pub reweighed : {W : Type 0} → Weights W → (ℕ → W) → Transition W → Transition W
reweighed K f r = record {
  symbol = r.symbol;
  children = r.children;
  target = r.target;
  weight = K.times (K.times r.weight (f r.target)) (undone K f r.children);
}

abbrev pub pushed : {W : Type 0} → Weights W → (ℕ → W) → Automaton W → Automaton W
pushed K f A = record { ranks = A.ranks; states = A.states; accepting = A.accepting; rules = map (reweighed K f) A.rules }

-- a run times the factor of its state
abbrev pub gained : {W : Type 0} → Weights W → (ℕ → W) → Option (At W) → Option (At W)
gained K f None = None
gained K f (Some a) = Some (record { state = a.state; weight = K.times a.weight (f a.state) })

-- a push moves no tree's weight if the factors of accepting states are one; a run to q gains q's factor
pub record Pushing {W : Type 0} (K : Weights W) (A : Automaton W) (f : ℕ → W) : Type 0 where
  pub run_gains : (t : Tree) → run K (pushed K f A) t ≡ gained K f (run K A t)
  pub alike : ((q : ℕ) → A.accepting q ≡ true → f q ≡ K.one) → Alike K A (pushed K f A)
