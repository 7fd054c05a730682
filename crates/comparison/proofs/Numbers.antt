-- Numbering the marked entries in order, each written with its children by their new numbers.
use Rattle.std.proofs.Common.{◌≡◌, ℕ, ◌+◌, ◌-◌, ◌<◌, ◌≤◌, ◌≢◌, List, [], ◌∷◌, ◌++◌, map, length, get_or, take, drop, set, sym, refl, ap, ◌∙◌, subst, ⊎_elim, arith}
use Rattle.std.specs.List.{AllByRecursion}
use Rattle.std.proofs.lemmas.List.{get_or-set_same, get_or-set_other, drop-drop, take_more_set, map_more, length-take-le}
use Rattle.std.proofs.ByRecursion.{All-weaker}
use Rattle.std.proofs.lemmas.Bool.{cases_eq}
use Rattle.automata.specs.Trees.{rank}
use Rattle.trees.specs.declared.node.Node.{Node}
use Rattle.trees.specs.Lists.{blank, children_of}
use Rattle.rules.proofs.Entries.{map_same}
use Rattle.comparison.specs.Marking.{number, Marking, Renumbered, Numbering}
use Rattle.comparison.proofs.Marks.{marking_same, marked_within}

-- what is equal from one place on is so from a later one
pub drop_later : {X : Type 0} (xs ys : List X) (i j : ℕ) → i ≤ j → drop i xs ≡ drop i ys → drop j xs ≡ drop j ys
drop_later xs ys i j h e =
    let up : i + (j - i) ≡ j = omega arith in
    ap (λ n. drop n xs) (sym up) ∙ sym (drop-drop (j - i) i xs) ∙ ap (drop (j - i)) e ∙ drop-drop (j - i) i ys ∙ ap (λ n. drop n ys) up

-- a mark at e does not change how an entry is written whose children stand before e
renumbered_kept : (ranks m : List ℕ) (e v : ℕ) (n r : Node) → AllByRecursion (λ c. c < e) (children_of ranks n) → Renumbered ranks m n r → Renumbered ranks (set m e v) n r
renumbered_kept ranks m e v n r earlier R = record {
  four = R.four;
  same_symbol = R.same_symbol;
  children = R.children ∙ map_same (number m) (number (set m e v)) e (children_of ranks n) (λ c h. ap (λ x. x - 1) (sym (get_or-set_other m e c v 0 (λ s. omega arith)))) earlier;
  full = R.full;
  padded = R.padded;
}

-- the children of a node read one by one
module _ (m : List ℕ) (n : Node) (places : List ℕ) (long : length places ≡ 4) (wide : length n.children ≡ 4) where
  pub children_more : (k v : ℕ) → k < 4 → v ≡ number m (get_or n.children k 0) → take k places ≡ map (number m) (take k n.children) → take (k + 1) (set places k v) ≡ map (number m) (take (k + 1) n.children)
  children_more k v h e before =
      take_more_set places k v (omega arith) ∙ ap (λ xs. xs ++ v ∷ []) before ∙ ap (λ x. map (number m) (take k n.children) ++ x ∷ []) e
      ∙ sym (map_more (number m) n.children k 0 (omega arith))

  pub padding_more : (k v : ℕ) → ((i : ℕ) → k ≤ i → get_or places i 0 ≡ 0) → (i : ℕ) → k + 1 ≤ i → get_or (set places k v) i 0 ≡ 0
  padding_more k v padded i h = get_or-set_other places k i v 0 (λ s. omega arith) ∙ padded i (omega arith)

  pub children_all : (ranks : List ℕ) (k : ℕ) → k ≡ rank ranks n.symbol → k ≤ 4 → take k places ≡ map (number m) (take k n.children) → ((i : ℕ) → k ≤ i → get_or places i 0 ≡ 0) → Renumbered ranks m n (record { symbol = n.symbol; children = places })
  children_all ranks k e small before padded = record {
    four = long;
    same_symbol = refl;
    children = ap (λ j. take j places) (sym e) ∙ before ∙ ap (λ j. map (number m) (take j n.children)) e;
    full = length-take-le (rank ranks n.symbol) places (omega arith);
    padded = λ i h. padded i (omega arith);
  }

module _ (ranks : List ℕ) (ns : List Node) (top : ℕ) where
  -- an entry that is not marked
  pub numbering_skip : (m : List ℕ) (list : List Node) (e k : ℕ) → get_or m e 0 ≡ 0 → Numbering ranks ns top m list e k → Numbering ranks ns top m list (e + 1) k
  numbering_skip m list e k z N = record {
    marking = N.marking;
    few = omega (arith, N.few);
    bound = λ j h. ⊎_elim (λ s. omega (arith, ap (λ i. get_or m i 0) s)) (λ n. N.bound j (omega arith)) (cases_eq j e);
    order = λ i j l h g. ⊎_elim (λ s. absurd (omega (arith, ap (λ i. get_or m i 0) s))) (λ n. N.order i j l (omega arith) g) (cases_eq j e);
    onto = λ i h. let w = N.onto i h in (w.0, omega (arith, w.1), w.2);
    written = λ j h g. ⊎_elim (λ s. absurd (omega (arith, ap (λ i. get_or m i 0) s))) (λ n. N.written j (omega arith) g) (cases_eq j e);
  }

  -- a marked entry gets the next number
  module _ (m : List ℕ) (list : List Node) (e k : ℕ) (r : Node) (marked : 0 < get_or m e 0) (long : k < length list) (earlier : (j : ℕ) → j < e + 1 → AllByRecursion (λ c. c < j) (children_of ranks (get_or ns j blank))) (R : Renumbered ranks m (get_or ns e blank) r) (N : Numbering ranks ns top m list e k) where
    abbrev m' : List ℕ
    m' = set m e (k + 1)

    here : get_or m' e 0 ≡ k + 1
    here = get_or-set_same m e (k + 1) 0 (marked_within m e marked)

    there : (i : ℕ) → i ≢ e → get_or m' i 0 ≡ get_or m i 0
    there i n = get_or-set_other m e i (k + 1) 0 n

    at_e : (j : ℕ) → j ≡ e → get_or m' j 0 ≡ k + 1
    at_e j s = ap (λ i. get_or m' i 0) s ∙ here

    still : Marking ranks ns top m' 0
    still = marking_same ranks ns top m m'
        (λ i h. ⊎_elim (λ s. omega (arith, at_e i s)) (λ n. omega (arith, there i n)) (cases_eq i e))
        (λ i h. ⊎_elim (λ s. omega (arith, ap (λ j. get_or m j 0) s)) (λ n. omega (arith, there i n)) (cases_eq i e)) N.marking

    written_here : Renumbered ranks m' (get_or ns e blank) (get_or (set list k r) (number m' e) blank)
    written_here =
        let read : get_or (set list k r) (number m' e) blank ≡ r = ap (λ i. get_or (set list k r) i blank) (omega (arith, here)) ∙ get_or-set_same list k r blank long in
        subst (Renumbered ranks m' (get_or ns e blank)) (sym read) (renumbered_kept ranks m e (k + 1) (get_or ns e blank) r (earlier e (omega arith)) R)

    written_there : (j : ℕ) → j < e → 0 < get_or m' j 0 → Renumbered ranks m' (get_or ns j blank) (get_or (set list k r) (number m' j) blank)
    written_there j h g =
        let same : get_or m' j 0 ≡ get_or m j 0 = there j (λ s. omega arith) in
        let low = N.bound j h in
        let read : get_or (set list k r) (number m' j) blank ≡ get_or list (number m j) blank =
        ap (λ i. get_or (set list k r) (i - 1) blank) same ∙ get_or-set_other list k (number m j) r blank (λ s. omega arith) in
        subst (Renumbered ranks m' (get_or ns j blank)) (sym read)
        (renumbered_kept ranks m e (k + 1) (get_or ns j blank) (get_or list (number m j) blank) (All-weaker (λ c. c < j) (λ c. c < e) (λ c b. omega arith) (children_of ranks (get_or ns j blank)) (earlier j (omega arith))) (N.written j h (omega arith)))

    pub numbering_more : Numbering ranks ns top m' (set list k r) (e + 1) (k + 1)
    numbering_more = record {
      marking = still;
      few = omega (arith, N.few);
      bound = λ j h. ⊎_elim (λ s. omega (arith, at_e j s)) (λ n. omega (arith, there j n, N.bound j (omega arith))) (cases_eq j e);
      order = λ i j l h g.
          let low = there i (λ s. omega arith) in
          ⊎_elim (λ s. omega (arith, at_e j s, N.bound i (omega arith))) (λ n. let same = there j n in omega (arith, N.order i j l (omega arith) (omega arith))) (cases_eq j e);
      onto = λ i h. ⊎_elim
          (λ s. (e, omega arith, here ∙ ap (λ n. n + 1) (sym s)))
          (λ n. let w = N.onto i (omega arith) in (w.0, omega (arith, w.1), there w.0 (λ s. omega (arith, w.1)) ∙ w.2)) (cases_eq i k);
      written = λ j h g. ⊎_elim (λ s. subst (λ (i : ℕ). Renumbered ranks m' (get_or ns i blank) (get_or (set list k r) (number m' i) blank)) (sym s) written_here) (λ n. written_there j (omega arith) g) (cases_eq j e);
    }
