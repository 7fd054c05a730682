-- The steps of marking and of writing, over a work list.
use Rattle.std.proofs.Common.{◌≡◌, ℕ, ◌+◌, ◌<◌, ◌≤◌, List, length, get_or, set, sym, ap, ◌∙◌, subst, arith}
use Rattle.std.specs.List.{AllByRecursion}
use Rattle.std.proofs.lemmas.List.{get_or-take, length-take}
use Rattle.std.proofs.ByRecursion.{All-weaker, All-get_or}
use Rattle.automata.specs.Trees.{rank}
use Rattle.trees.specs.declared.node.Node.{Node}
use Rattle.trees.specs.Lists.{blank, children_of}
use Rattle.trees.proofs.Entries.{children_earlier}
use Rattle.rules.specs.declared.place.Place.{Place}
use Rattle.comparison.specs.Forest.{nodes}
use Rattle.comparison.specs.Marking.{marks, Kept, Entries, marked_at, Marking, Renumbered, Numbering}
use Rattle.comparison.proofs.Kept.{length_marks, kept_nodes}
use Rattle.comparison.proofs.Marks.{marking_more}
use Rattle.comparison.proofs.Numbers.{numbering_more}

-- what holds of the children holds of the one in the place k
pub child_read : (P : ℕ → Type 0) (ranks : List ℕ) (n : Node) (k : ℕ) → k < length n.children → k < rank ranks n.symbol → AllByRecursion P (children_of ranks n) → P (get_or n.children k 0)
child_read P ranks n k h l all =
    subst P (get_or-take (rank ranks n.symbol) n.children k 0 l) (All-get_or P (children_of ranks n) k 0 (omega (arith, length-take (rank ranks n.symbol) n.children)) all)

module _ {V : Type 0} (ranks : List ℕ) (small : (s : ℕ) → rank ranks s ≤ 4) (work : List (Place V)) (top : ℕ) (E : Entries ranks work top) where
  entry_earlier : (j : ℕ) → j < top + 1 → AllByRecursion (λ c. c < j) (children_of ranks (get_or (nodes work (top + 1)) j blank))
  entry_earlier j h =
      let n = get_or (nodes work (top + 1)) j blank in
      children_earlier ranks j n (small n.symbol) (E.good j h)

  -- the entry e, with the node n
  module _ (e : ℕ) (n : Node) (h : e < top + 1) (is : n ≡ get_or (nodes work (top + 1)) e blank) where
    pub entry_within : AllByRecursion (λ c. c < length work) (children_of ranks n)
    entry_within =
        All-weaker (λ c. c < e) (λ c. c < length work) (λ c l. omega (arith, E.within)) (children_of ranks n)
        (subst (λ (m : Node). AllByRecursion (λ c. c < e) (children_of ranks m)) (sym is) (entry_earlier e h))

    pub entry_closed : 0 < get_or (marks work) e 0 → Marking ranks (nodes work (top + 1)) top (marks work) 0 → AllByRecursion (λ c. 0 < get_or (marks work) c 0) (children_of ranks n)
    entry_closed g M = subst (λ (m : Node). AllByRecursion (λ c. 0 < get_or (marks work) c 0) (children_of ranks m)) (sym is) (M.closed e (omega arith) h g)

    pub entry_marked : (work' : List (Place V)) → 0 < get_or (marks work) e 0 → marks work' ≡ marked_at (marks work) (children_of ranks n) → Kept work work' → Marking ranks (nodes work (top + 1)) top (marks work) (e + 1) → Marking ranks (nodes work' (top + 1)) top (marks work') e
    entry_marked work' g same kept M =
        subst (λ (m : List ℕ). Marking ranks (nodes work' (top + 1)) top m e) (sym (same ∙ ap (λ (m : Node). marked_at (marks work) (children_of ranks m)) is))
        (subst (λ (ns : List Node). Marking ranks ns top (marked_at (marks work) (children_of ranks (get_or (nodes work (top + 1)) e blank))) e) (sym (kept_nodes work work' kept (top + 1)))
        (marking_more ranks (nodes work (top + 1)) top (marks work) e h (omega (arith, length_marks work, E.within)) g (entry_earlier e h) M))

    pub entry_numbered : (work' : List (Place V)) (list : List Node) (k : ℕ) (r : Node) → 0 < get_or (marks work) e 0 → k < length list → Renumbered ranks (marks work) n r → marks work' ≡ set (marks work) e (k + 1) → Kept work work' → Numbering ranks (nodes work (top + 1)) top (marks work) list e k → Numbering ranks (nodes work' (top + 1)) top (marks work') (set list k r) (e + 1) (k + 1)
    entry_numbered work' list k r g long R same kept N =
        subst (λ (m : List ℕ). Numbering ranks (nodes work' (top + 1)) top m (set list k r) (e + 1) (k + 1)) (sym same)
        (subst (λ (ns : List Node). Numbering ranks ns top (set (marks work) e (k + 1)) (set list k r) (e + 1) (k + 1)) (sym (kept_nodes work work' kept (top + 1)))
        (numbering_more ranks (nodes work (top + 1)) top (marks work) list e k r g long (λ j l. entry_earlier j (omega arith)) (subst (λ (m : Node). Renumbered ranks (marks work) m r) is R) N))
