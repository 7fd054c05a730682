-- Writing the tree of one entry of a work list to a tree list.
use Rattle.std.specs.Prelude.{◌≡◌, ℕ, ◌+◌, ◌<◌, ◌≤◌, List, length, take, drop, slice_index_or}
use Rattle.std.specs.List.{ContainsAt}
use Rattle.trees.specs.declared.node.Node.{Node}
use Rattle.trees.specs.Lists.{blank, children_of, IsTreeList, tree_of}
use Rattle.rules.specs.declared.place.Place.{Place}
use Rattle.comparison.specs.Forest.{tree_in}

-- the first k places of the list became a list of the tree of the entry top, and each but the last is a child of a later one
pub record Written {V : Type 0} (ranks : List ℕ) (work : List (Place V)) (top : ℕ) (list list' : List Node) (k : ℕ) : Type 0 where
  pub some : 1 ≤ k
  pub few : k ≤ top + 1
  pub is_list : IsTreeList ranks (take k list')
  pub tree : tree_of ranks (take k list') ≡ tree_in ranks work (top + 1) top
  pub used : (i : ℕ) → i + 1 < k → (j : ℕ) × (i < j) × (j < k) × ContainsAt (children_of ranks (slice_index_or list' j blank)) i
  pub beyond : drop k list' ≡ drop k list
  pub same_length : length list' ≡ length list
