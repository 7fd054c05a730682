-- The run of a tree, from the leaves up, and what the tree weighs.
use Rattle.std.specs.Prelude.{◌≡◌, ℕ, ◌≤◌, cond, List, [], ◌∷◌, Some, None, Option}
use Rattle.kinds.specs.Weights.{Weights}
use Rattle.automata.specs.Trees.{Tree, Row, node, none, ◌▹◌, Over}
use Rattle.automata.specs.Automata.{Transition, Automaton, find, Sound}

-- the state of a tree and its run weight
pub record At (W : Type 0) : Type 0 where
  pub state : ℕ
  pub weight : W

-- the states of a row of trees, and the product of their run weights
pub record Ats (W : Type 0) : Type 0 where
  pub states : List ℕ
  pub weight : W

-- a run before the runs of a row
abbrev pub beside : {W : Type 0} → Weights W → Option (At W) → Option (Ats W) → Option (Ats W)
beside K None bs = None
beside K (Some a) None = None
beside K (Some a) (Some b) = Some (record { states = a.state ∷ b.states; weight = K.times a.weight b.weight })

-- a rule applied to children of run weight w
abbrev pub applied : {W : Type 0} → Weights W → W → Option (Transition W) → Option (At W)
applied K w None = None
applied K w (Some r) = Some (record { state = r.target; weight = K.times w r.weight })

-- the symbol s over a row
abbrev pub step : {W : Type 0} → Weights W → Automaton W → ℕ → Option (Ats W) → Option (At W)
step K A s None = None
step K A s (Some b) = applied K b.weight (find A.rules s b.states)

-- the state is the target of the rule for the symbol and the states of the subtrees;
-- the run weight is the product of the subtrees' run weights and the rule's weight
abbrev mutual
  pub run : {W : Type 0} → Weights W → Automaton W → Tree → Option (At W)
  run K A (node s ts) = step K A s (runs K A ts)

  pub runs : {W : Type 0} → Weights W → Automaton W → Row → Option (Ats W)
  runs K A none = Some (record { states = []; weight = K.one })
  runs K A (t ▹ ts) = beside K (run K A t) (runs K A ts)

-- a run to an accepting state weighs its run weight; None is nothing, the absence of a weight
abbrev pub accepted : {W : Type 0} → Automaton W → Option (At W) → Option W
accepted A None = None
accepted A (Some a) = cond (A.accepting a.state) (Some a.weight) None

abbrev pub weight_of : {W : Type 0} → Weights W → Automaton W → Tree → Option W
weight_of K A t = accepted A (run K A t)

-- every tree over the alphabet weighs the same in both, or nothing in both
pub record Alike {W : Type 0} (K : Weights W) (A B : Automaton W) : Type 0 where
  pub alphabet : A.ranks ≡ B.ranks
  pub weights : (t : Tree) → Over A.ranks t → weight_of K A t ≡ weight_of K B t

-- no automaton of any size that weighs every tree alike has fewer states
abbrev pub Minimal : {W : Type 0} → Weights W → Automaton W → Type 0
Minimal {W} K A = (B : Automaton W) → Sound B → Alike K A B → A.states ≤ B.states
