-- Classes put for states one after another.
use Rattle.std.proofs.Common.{◌≡◌, ℕ, zero, suc, ◌+◌, ◌<◌, ◌≤◌, Bool, true, false, cond, ◌&&◌, List, [], ◌∷◌, ◌++◌, map, length, get_or, take, set, is_some, Some, None, unwrap_or, sym, refl, ap, ◌∙◌, subst, ap₂, le_of_suc-le-suc, arith}
use Rattle.std.proofs.lemmas.List.{take_all, take_more, take_more_set, map_push}
use Rattle.std.proofs.lemmas.Bool.{and_left, and_right}
use Rattle.automata.specs.Merging.{all_in}
use Rattle.reduction.specs.declared.classes.Classes.{Classes}
use Rattle.reduction.specs.Classes.{class_at, member_in, class_in}
use Rattle.reduction.specs.Renaming.{classes_of}

-- all states before another and the other pass
all_in_push : (keep : ℕ → Bool) (qs : List ℕ) (q : ℕ) → all_in keep qs ≡ true → keep q ≡ true → all_in keep (qs ++ q ∷ []) ≡ true
all_in_push keep [] q all here = rw here
all_in_push keep (p ∷ qs) q all here = at (keep p) all (λ k. all_in_push keep qs q k here)
  where
    at : (b : Bool) → (b && all_in keep qs) ≡ true → (all_in keep qs ≡ true → all_in keep (qs ++ q ∷ []) ≡ true) → (b && all_in keep (qs ++ q ∷ [])) ≡ true
    at true k ih = ih k
    at false k ih = k

-- a state that does not pass
all_in_lacks : (keep : ℕ → Bool) (qs : List ℕ) (k : ℕ) → k < length qs → keep (get_or qs k 0) ≡ false → all_in keep qs ≡ false
all_in_lacks keep [] k h e = absurd (omega arith)
all_in_lacks keep (q ∷ qs) zero h e = and_left (keep q) (all_in keep qs) e
all_in_lacks keep (q ∷ qs) (suc k) h e = and_right (keep q) (all_in keep qs) (all_in_lacks keep qs k (le_of_suc-le-suc h) e)

module _ (c : Classes) (qs : List ℕ) where
  -- the first k states stay, and their classes stand in the first k places
  pub record Named (places : List ℕ) (k : ℕ) : Type 0 where
    pub stay : all_in (member_in c) (take k qs) ≡ true
    pub classes : take k places ≡ map (class_in c) (take k qs)

  pub named_none : (places : List ℕ) → Named places 0
  named_none places = record { stay = refl; classes = refl }

  -- one state more, p, of class m
  pub named_more : (places : List ℕ) (k p m : ℕ) → k < length qs → k < length places → p ≡ get_or qs k 0 → Some m ≡ class_at c p → Named places k → Named (set places k m) (k + 1)
  named_more places k p m h l read found n =
      let q = get_or qs k 0 in
      let here : class_at c q ≡ Some m = ap (class_at c) (sym read) ∙ sym found in
      let more : take (k + 1) qs ≡ take k qs ++ q ∷ [] = take_more qs k 0 h in
      let class : m ≡ class_in c q = sym (ap (λ o. unwrap_or o 0) here) in
      record {
        stay = ap (all_in (member_in c)) more ∙ all_in_push (member_in c) (take k qs) q n.stay (ap is_some here);
        classes =
            take_more_set places k m l
            ∙ ap₂ (λ (xs : List ℕ) (x : ℕ). xs ++ x ∷ []) n.classes class
            ∙ sym (map_push (class_in c) (take k qs) q)
            ∙ ap (map (class_in c)) (sym more);
      }

  -- a state among them that does not stay
  pub named_lacks : (k p : ℕ) → k < length qs → p ≡ get_or qs k 0 → None ≡ class_at c p → None ≡ classes_of c qs
  named_lacks k p h read found =
      let here : class_at c (get_or qs k 0) ≡ None = ap (class_at c) (sym read) ∙ sym found in
      sym (ap (λ b. cond b (Some (map (class_in c) qs)) None) (all_in_lacks (member_in c) qs k h (ap is_some here)))

  pub named_all : (places : List ℕ) (n k : ℕ) → length qs ≡ n → n ≤ k → k ≤ n → Named places k → Some (take n places) ≡ classes_of c qs
  named_all places n k long l h named =
      let e : k ≡ n = omega arith in
      let all : Named places n = subst (Named places) e named in
      let whole : take n qs ≡ qs = take_all n qs (omega (arith, long)) in
      ap Some (all.classes ∙ ap (map (class_in c)) whole) ∙ sym (ap (λ b. cond b (Some (map (class_in c) qs)) None) (ap (all_in (member_in c)) (sym whole) ∙ all.stay))
