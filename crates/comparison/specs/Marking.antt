-- Marks on the entries of a work list: which entries a tree uses, and their numbers once only those are written.
use Rattle.std.specs.Prelude.{◌≡◌, ℕ, ◌+◌, ◌-◌, ◌<◌, ◌≤◌, List, [], ◌∷◌, map, length, Some, None, Option, slice_index, slice_index_or, slice_set}
use Rattle.std.specs.List.{ContainsAt, AllByRecursion}
use Rattle.automata.specs.Trees.{rank}
use Rattle.trees.specs.declared.node.Node.{Node}
use Rattle.trees.specs.Lists.{blank, children_of, GoodAt}
use Rattle.rules.specs.declared.place.Place.{Place}
use Rattle.comparison.specs.Forest.{nodes}

-- 0 for no mark, and one more than the number for a mark with a number
abbrev pub sign : Option ℕ → ℕ
sign None = 0
sign (Some n) = n + 1

abbrev pub marks : {V : Type 0} → List (Place V) → List ℕ
marks work = map (λ p. sign p.mark) work

-- all that a place holds but its mark
abbrev pub unmarked : {V : Type 0} → Place V → Place V
unmarked p = record { node = p.node; first = p.first; second = p.second; mark = None }

-- the work list differs in its marks alone
abbrev pub Kept : {V : Type 0} → List (Place V) → List (Place V) → Type 0
Kept work work' = map unmarked work' ≡ map unmarked work

-- the places up to top hold tree entries
pub record Entries {V : Type 0} (ranks : List ℕ) (work : List (Place V)) (top : ℕ) : Type 0 where
  pub within : top < length work
  pub good : (i : ℕ) → i < top + 1 → GoodAt ranks (nodes work (top + 1)) i

-- the numbered places marked by 1
abbrev pub marked_at : List ℕ → List ℕ → List ℕ
marked_at m [] = m
marked_at m (c ∷ cs) = marked_at (slice_set m c 1) cs

-- top is marked, an entry below it only as a child of a marked one, and from the entry e on the children of what is marked are
pub record Marking (ranks : List ℕ) (ns : List Node) (top : ℕ) (m : List ℕ) (e : ℕ) : Type 0 where
  pub top_marked : 0 < slice_index m top
  pub needed : (i : ℕ) → i < top → 0 < slice_index m i → (j : ℕ) × (i < j) × (j < top + 1) × (0 < slice_index m j) × ContainsAt (children_of ranks (slice_index_or ns j blank)) i
  pub closed : (j : ℕ) → e ≤ j → j < top + 1 → 0 < slice_index m j → AllByRecursion (λ c. 0 < slice_index m c) (children_of ranks (slice_index_or ns j blank))

-- the number of a marked entry
abbrev pub number : List ℕ → ℕ → ℕ
number m e = slice_index m e - 1

-- r is the node n with each child by its number
pub record Renumbered (ranks m : List ℕ) (n r : Node) : Type 0 where
  pub four : length r.children ≡ 4
  pub same_symbol : r.symbol ≡ n.symbol
  pub children : children_of ranks r ≡ map (number m) (children_of ranks n)
  pub full : length (children_of ranks r) ≡ rank ranks r.symbol
  pub padded : (k : ℕ) → rank ranks r.symbol ≤ k → slice_index r.children k ≡ 0

-- of the entries before e, the marked ones stand in the list as its first k, each at its number
pub record Numbering (ranks : List ℕ) (ns : List Node) (top : ℕ) (m : List ℕ) (list : List Node) (e k : ℕ) : Type 0 where
  pub marking : Marking ranks ns top m 0
  pub few : k ≤ e
  pub bound : (j : ℕ) → j < e → slice_index m j ≤ k
  pub order : (i j : ℕ) → i < j → j < e → 0 < slice_index m j → slice_index m i < slice_index m j
  pub onto : (i : ℕ) → i < k → (j : ℕ) × (j < e) × (slice_index m j ≡ i + 1)
  pub written : (j : ℕ) → j < e → 0 < slice_index m j → Renumbered ranks m (slice_index_or ns j blank) (slice_index_or list (number m j) blank)
