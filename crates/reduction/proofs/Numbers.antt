-- Classes of unmarked live states, one state more at a time.
use Rattle.std.proofs.Common.{◌≡◌, ℕ, ◌+◌, ◌<◌, ◌≤◌, Bool, true, false, cond, eqb, ◌⊎◌, ◌↔◌, List, length, get_or, set, is_some, Some, None, Option, unwrap_or, sym, refl, ap, ◌∙◌, inl, inr, ⊎_elim, arith}
use Rattle.std.proofs.lemmas.List.{get_or-set_same, get_or-set_other}
use Rattle.std.proofs.lemmas.Bool.{both_ways, cases_lt, cond-true, cond-false, eq-eqb, ne_eqb}
use Rattle.reduction.specs.Numbering.{UnmarkedAlike}

-- the class in a place
abbrev pub class_of : List (Option ℕ) → ℕ → ℕ
class_of places q = unwrap_or (get_or places q None) 0

module _ (live : ℕ → Bool) (marks : ℕ → ℕ → Bool) where
  -- the live states below n have their classes, and count classes are open
  pub record Numbering (places : List (Option ℕ)) (count n : ℕ) : Type 0 where
    pub members : (q : ℕ) → q < n → is_some (get_or places q None) ≡ live q
    pub classes : (p q : ℕ) → p < n → q < n → live p ≡ true → live q ≡ true → (class_of places p ≡ class_of places q) ↔ (marks p q ≡ false)
    pub within : (q : ℕ) → q < n → live q ≡ true → class_of places q < count
    pub least : ℕ → ℕ
    pub least_member : (d : ℕ) → d < count → (least d < n) × (live (least d) ≡ true) × (class_of places (least d) ≡ d)
    pub least_below : (q : ℕ) → q < n → live q ≡ true → least (class_of places q) ≤ q
    pub ascending : (d e : ℕ) → d < e → e < count → least d < least e

  pub numbering_none : (places : List (Option ℕ)) → Numbering places 0 0
  numbering_none places = record {
    members = λ q h. absurd (omega arith);
    classes = λ p q h k. absurd (omega arith);
    within = λ q h. absurd (omega arith);
    least = λ d. d;
    least_member = λ d h. absurd (omega arith);
    least_below = λ q h. absurd (omega arith);
    ascending = λ d e h k. absurd (omega arith);
  }

  module _ (places : List (Option ℕ)) (count n : ℕ) (g : Numbering places count n) where
    -- n is below the next number or the next number
    below : (q : ℕ) → q < n + 1 → (q < n) ⊎ (q ≡ n)
    below q h = ⊎_elim (λ l. inl l) (λ l. inr (omega arith)) (cases_lt q n)

    module _ (off : live n ≡ false) where
      not_last : (q : ℕ) → q < n + 1 → live q ≡ true → q < n
      not_last q h l = ⊎_elim (λ k. k) (λ e. absurd (both_ways (live q) (ap live e ∙ off) l)) (below q h)

      pub numbering_skip : get_or places n None ≡ None → Numbering places count (n + 1)
      numbering_skip empty = record {
        members = λ q h. ⊎_elim (g.members q) (λ e. ap (λ x. is_some (get_or places x None)) e ∙ ap is_some empty ∙ sym (ap live e ∙ off)) (below q h);
        classes = λ p q h k a b. g.classes p q (not_last p h a) (not_last q k b) a b;
        within = λ q h a. g.within q (not_last q h a) a;
        least = g.least;
        least_member = λ d h. let m = g.least_member d h in (omega (arith, m.0), m.1, m.2);
        least_below = λ q h a. g.least_below q (not_last q h a) a;
        ascending = g.ascending;
      }

    -- the live state n enters the class m
    module _ (alike : UnmarkedAlike live marks) (on : live n ≡ true) (m : ℕ) (room : n < length places) where
      abbrev placed : List (Option ℕ)
      placed = set places n (Some m)

      here : get_or placed n None ≡ Some m
      here = get_or-set_same places n (Some m) None room

      before : (q : ℕ) → q < n → get_or placed q None ≡ get_or places q None
      before q h = get_or-set_other places n q (Some m) None (λ e. omega arith)

      class_here : (q : ℕ) → q ≡ n → class_of placed q ≡ m
      class_here q e = ap (class_of placed) e ∙ ap (λ o. unwrap_or o 0) here

      class_before : (q : ℕ) → q < n → class_of placed q ≡ class_of places q
      class_before q h = ap (λ o. unwrap_or o 0) (before q h)

      members_more : (q : ℕ) → q < n + 1 → is_some (get_or placed q None) ≡ live q
      members_more q h =
          ⊎_elim (λ l. ap is_some (before q l) ∙ g.members q l)
          (λ e. ap (λ x. is_some (get_or placed x None)) e ∙ ap is_some here ∙ sym (ap live e ∙ on)) (below q h)

      module _ (joins : (p : ℕ) → p < n → live p ≡ true → (class_of places p ≡ m) ↔ (marks p n ≡ false)) where
        classes_more : (p q : ℕ) → p < n + 1 → q < n + 1 → live p ≡ true → live q ≡ true → (class_of placed p ≡ class_of placed q) ↔ (marks p q ≡ false)
        classes_more p q h k a b = at (below p h) (below q k)
          where
            at : (p < n) ⊎ (p ≡ n) → (q < n) ⊎ (q ≡ n) → (class_of placed p ≡ class_of placed q) ↔ (marks p q ≡ false)
            at (inl x) (inl y) =
                let s = class_before p x in
                let t = class_before q y in
                ((λ e. (g.classes p q x y a b).0 (sym s ∙ e ∙ t)), (λ e. s ∙ (g.classes p q x y a b).1 e ∙ sym t))
            at (inl x) (inr y) =
                let s = class_before p x in
                let t = class_here q y in
                ((λ e. ap (marks p) y ∙ (joins p x a).0 (sym s ∙ e ∙ t)), (λ e. s ∙ (joins p x a).1 (ap (marks p) (sym y) ∙ e) ∙ sym t))
            at (inr x) (inl y) =
                let s = class_here p x in
                let t = class_before q y in (
                  (λ e. alike.symmetric p q ∙ ap (marks q) x ∙ (joins q y b).0 (sym t ∙ sym e ∙ s)),
                  (λ e. s ∙ sym ((joins q y b).1 (ap (marks q) (sym x) ∙ alike.symmetric q p ∙ e)) ∙ sym t),
                )
            at (inr x) (inr y) =
                let same : p ≡ q = x ∙ sym y in
                ((λ e. ap (marks p) (sym same) ∙ alike.reflexive p a), (λ e. ap (class_of placed) same))

        within_more : (count' : ℕ) → count ≤ count' → m < count' → (q : ℕ) → q < n + 1 → live q ≡ true → class_of placed q < count'
        within_more count' up low q h a =
            ⊎_elim (λ l. rw (class_before q l) (omega (arith, g.within q l a))) (λ e. rw (class_here q e) low) (below q h)

        -- in an open class
        pub numbering_join : m < count → g.least m ≤ n → Numbering placed count (n + 1)
        numbering_join low first = record {
          members = members_more;
          classes = classes_more;
          within = within_more count (omega arith) low;
          least = g.least;
          least_member = λ d h. let x = g.least_member d h in (omega (arith, x.0), x.1, class_before (g.least d) x.0 ∙ x.2);
          least_below = λ q h a.
              ⊎_elim (λ l. rw (class_before q l) (g.least_below q l a)) (λ e. rw (class_here q e, e) first) (below q h);
          ascending = g.ascending;
        }

        -- in the next class
        pub numbering_open : m ≡ count → Numbering placed (count + 1) (n + 1)
        numbering_open next = record {
          members = members_more;
          classes = classes_more;
          within = within_more (count + 1) (omega arith) (omega arith);
          least = first;
          least_member = λ d h.
              ⊎_elim (λ l. let x = g.least_member d l in rw (first_old d l) (omega (arith, x.0), x.1, class_before (g.least d) x.0 ∙ x.2))
              (λ l. let e : d ≡ count = omega arith in let up : n < n + 1 = omega arith in rw (first_new d e) (up, on, class_here n refl ∙ next ∙ sym e)) (cases_lt d count);
          least_below = λ q h a.
              ⊎_elim (λ l. let x = g.within q l a in rw (class_before q l, first_old (class_of places q) x) (g.least_below q l a))
              (λ e. rw (class_here q e, first_new m next) (omega arith)) (below q h);
          ascending = λ d e h k.
              ⊎_elim (λ l. let i : d < count = omega arith in rw (first_old d i, first_old e l) (g.ascending d e h l))
              (λ l. let f : e ≡ count = omega arith in let i : d < count = omega arith in rw (first_old d i, first_new e f) (g.least_member d i).0) (cases_lt e count);
        }
          where
            first : ℕ → ℕ
            first d = cond (eqb d count) n (g.least d)

            first_new : (d : ℕ) → d ≡ count → first d ≡ n
            first_new d e = cond-true (eqb d count) n (g.least d) (eq-eqb d count e)

            first_old : (d : ℕ) → d < count → first d ≡ g.least d
            first_old d l = cond-false (eqb d count) n (g.least d) (ne_eqb d count (λ e. omega arith))
