-- Marking the entries that a tree uses, from its top downwards.
use Rattle.std.proofs.Common.{◌≡◌, ℕ, ◌+◌, ◌<◌, ◌⊎◌, List, [], ◌∷◌, ◌++◌, length, get_or, take, set, sym, refl, ap, ◌∙◌, subst, inl, inr, ⊎_elim, arith}
use Rattle.std.specs.List.{ContainsAt, AllByRecursion}
use Rattle.std.proofs.lemmas.List.{get_or-set_same, get_or-set_other, get_or_past, length-set, take_more}
use Rattle.std.proofs.ByRecursion.{All-weaker, all-has, has_append_right}
use Rattle.std.proofs.lemmas.Bool.{cases_lt, cases_eq}
use Rattle.trees.specs.declared.node.Node.{Node}
use Rattle.trees.specs.Lists.{blank, children_of}
use Rattle.comparison.specs.Marking.{marked_at, Marking}

-- what is marked is within the list
pub marked_within : (m : List ℕ) (i : ℕ) → 0 < get_or m i 0 → i < length m
marked_within m i h = ⊎_elim (λ l. l) (λ l. absurd (omega (arith, get_or_past m i 0 l))) (cases_lt i (length m))

-- what is marked after a mark was set was marked before, or is the place; and a set mark takes no mark away
marked_one : (m : List ℕ) (c i : ℕ) → 0 < get_or (set m c 1) i 0 → (0 < get_or m i 0) ⊎ (i ≡ c)
marked_one m c i h =
    ⊎_elim (λ e. inr e) (λ n. inl (omega (arith, get_or-set_other m c i 1 0 n))) (cases_eq i c)

keeps_one : (m : List ℕ) (c i : ℕ) → 0 < get_or m i 0 → 0 < get_or (set m c 1) i 0
keeps_one m c i h =
    ⊎_elim
    (λ e. omega (arith, ap (λ k. get_or (set m c 1) k 0) e, get_or-set_same m c 1 0 (subst (λ k. k < length m) e (marked_within m i h))))
    (λ n. omega (arith, get_or-set_other m c i 1 0 n)) (cases_eq i c)

pub marked_keeps : (cs m : List ℕ) (i : ℕ) → 0 < get_or m i 0 → 0 < get_or (marked_at m cs) i 0
marked_keeps [] m i h = h
marked_keeps (c ∷ cs) m i h = marked_keeps cs (set m c 1) i (keeps_one m c i h)

pub marked_all : (cs m : List ℕ) → AllByRecursion (λ c. c < length m) cs → AllByRecursion (λ c. 0 < get_or (marked_at m cs) c 0) cs
marked_all [] m all = tt
marked_all (c ∷ cs) m all = (
  marked_keeps cs (set m c 1) c (omega (arith, get_or-set_same m c 1 0 all.0)),
  marked_all cs (set m c 1) (subst (λ n. AllByRecursion (λ d. d < n) cs) (sym (length-set m c 1)) all.1),
)

has_first : (c : ℕ) (cs : List ℕ) (i : ℕ) → i ≡ c → ContainsAt (c ∷ cs) i
has_first c cs i e = (0, omega arith, λ d. sym e)

pub marked_only : (cs m : List ℕ) (i : ℕ) → 0 < get_or (marked_at m cs) i 0 → (0 < get_or m i 0) ⊎ ContainsAt cs i
marked_only [] m i h = inl h
marked_only (c ∷ cs) m i h =
    ⊎_elim (λ l. ⊎_elim (λ k. inl k) (λ e. inr (has_first c cs i e)) (marked_one m c i l)) (λ k. inr (has_append_right (c ∷ []) cs i k)) (marked_only cs (set m c 1) i h)

marked_push : (cs m : List ℕ) (c : ℕ) → marked_at m (cs ++ c ∷ []) ≡ set (marked_at m cs) c 1
marked_push [] m c = refl
marked_push (d ∷ cs) m c = marked_push cs (set m d 1) c

-- the marks of one more child
pub marked_more : (cs m : List ℕ) (k : ℕ) → k < length cs → marked_at m (take (k + 1) cs) ≡ set (marked_at m (take k cs)) (get_or cs k 0) 1
marked_more cs m k h = ap (marked_at m) (take_more cs k 0 h) ∙ marked_push (take k cs) m (get_or cs k 0)

-- one mark more taken off
pub cleared_more : (m : List ℕ) (k : ℕ) → k < length m → ((i : ℕ) → i < k → get_or m i 0 ≡ 0) → (i : ℕ) → i < k + 1 → get_or (set m k 0) i 0 ≡ 0
cleared_more m k h zeros i l =
    ⊎_elim (λ e. ap (λ j. get_or (set m k 0) j 0) e ∙ get_or-set_same m k 0 0 h) (λ n. get_or-set_other m k i 0 0 n ∙ zeros i (omega arith)) (cases_eq i k)

module _ (ranks : List ℕ) (ns : List Node) (top : ℕ) where
  -- before the first step: top alone is marked
  pub marking_none : (m : List ℕ) → top < length m → ((i : ℕ) → i < top → get_or m i 0 ≡ 0) → Marking ranks ns top (set m top 1) (top + 1)
  marking_none m h zeros = record {
    top_marked = omega (arith, get_or-set_same m top 1 0 h);
    needed = λ i l k. absurd (omega (arith, zeros i l, get_or-set_other m top i 1 0 (λ e. omega arith)));
    closed = λ j l k. absurd (omega arith);
  }

  -- an entry that is not marked
  pub marking_skip : (m : List ℕ) (e : ℕ) → get_or m e 0 ≡ 0 → Marking ranks ns top m (e + 1) → Marking ranks ns top m e
  marking_skip m e z M = record {
    top_marked = M.top_marked;
    needed = M.needed;
    closed = λ j l k h. ⊎_elim (λ s. absurd (omega (arith, ap (λ i. get_or m i 0) s))) (λ n. M.closed j (omega arith) k h) (cases_eq j e);
  }

  -- an entry that is marked, and then its children
  pub marking_more : (m : List ℕ) (e : ℕ) → e < top + 1 → top < length m → 0 < get_or m e 0 → AllByRecursion (λ c. c < e) (children_of ranks (get_or ns e blank)) → Marking ranks ns top m (e + 1) → Marking ranks ns top (marked_at m (children_of ranks (get_or ns e blank))) e
  marking_more m e within long h earlier M =
      let cs = children_of ranks (get_or ns e blank) in
      record {
        top_marked = marked_keeps cs m top M.top_marked;
        needed = λ i l k. ⊎_elim
            (λ old. let w = M.needed i l old in (w.0, w.1, w.2, marked_keeps cs m w.0 w.3, w.4))
            (λ has. (e, all-has (λ c. c < e) cs i earlier has, within, marked_keeps cs m e h, has)) (marked_only cs m i k);
        closed = λ j l k g. ⊎_elim
            (λ s. subst (λ (i : ℕ). AllByRecursion (λ c. 0 < get_or (marked_at m cs) c 0) (children_of ranks (get_or ns i blank))) (sym s) (marked_all cs m (All-weaker (λ c. c < e) (λ c. c < length m) (λ c b. omega arith) cs earlier)))
            (λ n. ⊎_elim
            (λ old. All-weaker (λ c. 0 < get_or m c 0) (λ c. 0 < get_or (marked_at m cs) c 0) (λ c. marked_keeps cs m c) (children_of ranks (get_or ns j blank)) (M.closed j (omega arith) k old))
            (λ has. absurd (omega (arith, all-has (λ c. c < e) cs j earlier has))) (marked_only cs m j g)) (cases_eq j e);
      }

  -- the marks as numbers do not matter
  pub marking_same : (m m' : List ℕ) → ((i : ℕ) → 0 < get_or m i 0 → 0 < get_or m' i 0) → ((i : ℕ) → 0 < get_or m' i 0 → 0 < get_or m i 0) → Marking ranks ns top m 0 → Marking ranks ns top m' 0
  marking_same m m' forth back M = record {
    top_marked = forth top M.top_marked;
    needed = λ i l k. let w = M.needed i l (back i k) in (w.0, w.1, w.2, forth w.0 w.3, w.4);
    closed = λ j l k h. All-weaker (λ c. 0 < get_or m c 0) (λ c. 0 < get_or m' c 0) forth (children_of ranks (get_or ns j blank)) (M.closed j l k (back j h));
  }
