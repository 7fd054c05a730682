-- A work list as a growing list of tree entries, each with the runs of its tree in two tables.
use Rattle.std.specs.Prelude.{◌≡◌, ℕ, ◌<◌, ◌≤◌, List, map, length, take}
use Rattle.kinds.specs.Weights.{Weights}
use Rattle.automata.specs.Trees.{Tree}
use Rattle.automata.specs.Automata.{Automaton}
use Rattle.automata.specs.Runs.{run}
use Rattle.trees.specs.declared.node.Node.{Node}
use Rattle.trees.specs.Lists.{GoodAt, tree_at}
use Rattle.rules.specs.declared.place.Place.{Place}
use Rattle.rules.specs.declared.side.Side.TheVariants.{First, Second}
use Rattle.rules.specs.Running.{run_at}

-- the nodes of the first places
abbrev pub nodes : {V : Type 0} → List (Place V) → ℕ → List Node
nodes work len = map (λ p. p.node) (take len work)

-- the tree of the entry i
abbrev pub tree_in : {V : Type 0} → List ℕ → List (Place V) → ℕ → ℕ → Tree
tree_in ranks work len i = tree_at ranks (nodes work len) i

-- the first places hold tree entries, and the runs of their trees
pub record Forest {V W : Type 0} (K : Weights W) (stands : V → W) (A B : Automaton W) (work : List (Place V)) (len : ℕ) : Type 0 where
  pub room : len ≤ length work
  pub good : (i : ℕ) → i < len → GoodAt A.ranks (nodes work len) i
  pub first_runs : (i : ℕ) → i < len → run_at stands First work i ≡ run K A (tree_in A.ranks work len i)
  pub second_runs : (i : ℕ) → i < len → run_at stands Second work i ≡ run K B (tree_in B.ranks work len i)
