-- Tree lists: which lists of nodes are one, and which tree one stands for.
use Rattle.std.specs.Prelude.{◌≡◌, ℕ, ◌-◌, ◌<◌, ◌≤◌, ◌⊎◌, List, [], ◌∷◌, ◌++◌, length, get_or, take, Result, slice_index, slice_index_or}
use Rattle.automata.specs.Trees.{Tree, Row, node, none, ◌▹◌, rank}
use Rattle.trees.specs.declared.node.Node.{Node}
use Rattle.trees.specs.declared.refusal.Refusal.{Refusal}
use Rattle.trees.specs.declared.refusal.Refusal.TheVariants.{TreeList}
use Rattle.trees.specs.Refusals.{Test, Answers}

-- what stands past the end of a list
abbrev pub blank : Node
blank = record { symbol = 0; children = [] }

-- the numbers of an entry's children, in order
abbrev pub children_of : List ℕ → Node → List ℕ
children_of ranks n = take (rank ranks n.symbol) n.children

-- what the child place k of the entry i may hold: a smaller number below the rank, and 0 from there on
pub record Placed (rank i k child : ℕ) : Type 0 where
  pub earlier : k < rank → child < i
  pub padded : rank ≤ k → child ≡ 0

-- an entry with the number i: four places, a symbol of the alphabet, children by smaller numbers, and 0 in the other places
pub record Good (ranks : List ℕ) (i : ℕ) (n : Node) : Type 0 where
  pub four : length n.children ≡ 4
  pub symbol_within : n.symbol < length ranks
  pub places : (k : ℕ) → k < 4 → Placed (rank ranks n.symbol) i k (slice_index n.children k)

abbrev pub GoodAt : List ℕ → List Node → ℕ → Type 0
GoodAt ranks ns i = Good ranks i (slice_index_or ns i blank)

pub record IsTreeList (ranks : List ℕ) (ns : List Node) : Type 0 where
  pub some : 1 ≤ length ns
  pub few : length ns ≤ 8192
  pub good : (i : ℕ) → i < length ns → GoodAt ranks ns i

-- i is the first bad entry, or 0 if the length is wrong
pub record FirstBad (ranks : List ℕ) (ns : List Node) (i : ℕ) : Type 0 where
  pub within : i < length ns
  pub few : length ns ≤ 8192
  pub bad : GoodAt ranks ns i → ⊥
  pub before : (k : ℕ) → k < i → GoodAt ranks ns k

abbrev pub WrongLength : List Node → Type 0
WrongLength ns = (length ns ≡ 0) ⊎ (8192 < length ns)

-- not a tree list; the refusal names the entry
abbrev pub bad_list : List ℕ → List Node → Test
bad_list ranks ns e = (WrongLength ns × (e ≡ TreeList 0)) ⊎ ((i : ℕ) × (e ≡ TreeList i) × FirstBad ranks ns i)

-- what the test of a tree list answers
abbrev pub Tested : List ℕ → List Node → Result (Unit {0}) Refusal → Type 0
Tested ranks ns r = Answers (bad_list ranks ns ∷ []) (λ _. IsTreeList ranks ns) (Unit {0}) r

-- the trees of the numbered entries among those that stand so far
abbrev pub row_of : List Tree → List ℕ → Row
row_of ts [] = none
row_of ts (i ∷ is) = get_or ts i (node 0 none) ▹ row_of ts is

-- the tree of an entry is its symbol over the trees of its children
abbrev pub grown : List ℕ → List Tree → List Node → List Tree
grown ranks ts [] = ts
grown ranks ts (n ∷ ns) = grown ranks (ts ++ (node n.symbol (row_of ts (children_of ranks n)) ∷ [])) ns

-- the trees of all entries, in order
abbrev pub trees_of : List ℕ → List Node → List Tree
trees_of ranks ns = grown ranks [] ns

-- the tree of the entry i
abbrev pub tree_at : List ℕ → List Node → ℕ → Tree
tree_at ranks ns i = slice_index_or (trees_of ranks ns) i (node 0 none)

-- the tree of a list is that of its last entry
abbrev pub tree_of : List ℕ → List Node → Tree
tree_of ranks ns = tree_at ranks ns (length ns - 1)
