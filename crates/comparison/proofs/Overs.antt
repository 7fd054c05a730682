-- Every entry of a forest stands for a tree over the alphabet.
use Rattle.std.proofs.Common.{◌≡◌, ℕ, ◌<◌, ◌≤◌, List, length, arith}
use Rattle.kinds.specs.Weights.{Weights}
use Rattle.automata.specs.Trees.{rank, Over}
use Rattle.automata.specs.Automata.{Automaton}
use Rattle.trees.proofs.Entries.{trees_over}
use Rattle.rules.specs.declared.place.Place.{Place}
use Rattle.comparison.specs.Forest.{nodes, tree_in, Forest}
use Rattle.comparison.proofs.Plants.{length_nodes}

pub forest_over : {V W : Type 0} (K : Weights W) (stands : V → W) (A B : Automaton W) (work : List (Place V)) (len : ℕ) → ((s : ℕ) → rank A.ranks s ≤ 4) → Forest K stands A B work len → (i : ℕ) → i < len → Over A.ranks (tree_in A.ranks work len i)
forest_over K stands A B work len small f i h =
    let long : length (nodes work len) ≡ len = length_nodes work len f.room in
    trees_over A.ranks (nodes work len) small (λ j l. f.good j (omega arith)) i (omega arith)
