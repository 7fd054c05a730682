-- Two tests, one of which passes wherever the other does: where they first pass.
use Rattle.std.proofs.Common.{◌≡◌, ℕ, zero, suc, ◌+◌, Bool, true, false, cond, List, [], ◌∷◌, ◌++◌, take, drop, Some, None, Option, sym, refl, ap, ◌∙◌, ap₂, arith}
use Rattle.std.specs.Option.{option_map}
use Rattle.std.specs.List.{slice_get}
use Rattle.std.proofs.lemmas.List.{take-append-drop, take-take, drop-take}
use Rattle.std.proofs.lemmas.Bool.{both_ways}
use Rattle.lookup_index.specs.Indexes.{first_place}
use Rattle.lookup_index.proofs.Positions.{first_fails, past_first}

module _ {X : Type 0} (p : X → Bool) where
  -- nothing passes in either of two lists
  none_joined : (xs ys : List X) → first_place p xs ≡ None → first_place p ys ≡ None → first_place p (xs ++ ys) ≡ None
  none_joined [] ys none more = more
  none_joined (x ∷ xs) ys none more =
      let f = first_fails p x xs none in
      past_first p x (xs ++ ys) None f.0 (none_joined xs ys f.1 more)

  -- nothing passes among the first k, nor among the next j
  pub none_further : (xs : List X) (k j : ℕ) → first_place p (take k xs) ≡ None → first_place p (take j (drop k xs)) ≡ None → first_place p (take (k + j) xs) ≡ None
  none_further xs k j none more =
      let cut : take k xs ++ take j (drop k xs) ≡ take (k + j) xs =
      ap₂ (λ ys zs. ys ++ zs) (sym (take-take k (k + j) xs (omega arith))) (sym (drop-take k j xs)) ∙ take-append-drop k (take (k + j) xs) in
      ap (first_place p) (sym cut) ∙ none_joined (take k xs) (take j (drop k xs)) none more

  pub none_behind : (xs : List X) (k : ℕ) → first_place p (take k xs) ≡ None → first_place p (drop k xs) ≡ None → first_place p xs ≡ None
  none_behind xs k none more = ap (first_place p) (sym (take-append-drop k xs)) ∙ none_joined (take k xs) (drop k xs) none more

  -- what is first found passes
  pub first_passes : (xs : List X) (j : ℕ) (x : X) → first_place p xs ≡ Some j → slice_get xs j ≡ Some x → p x ≡ true
  first_passes [] j x e n = let z : ◌≡◌ {A = ℕ} 0 1 = cc in absurd (omega arith)
  first_passes (y ∷ xs) j x e n = at (p y) (first_place p xs) j refl refl e n (first_passes xs)
    where
      at : (b : Bool) (o : Option ℕ) (i : ℕ) → p y ≡ b → first_place p xs ≡ o → cond b (Some 0) (option_map suc o) ≡ Some i → slice_get (y ∷ xs) i ≡ Some x → ((k : ℕ) (z : X) → first_place p xs ≡ Some k → slice_get xs k ≡ Some z → p z ≡ true) → p x ≡ true
      at true o i h f g m ih =
          let z : i ≡ 0 = cc in
          let here : slice_get (y ∷ xs) 0 ≡ Some x = ap (slice_get (y ∷ xs)) (sym z) ∙ m in
          let same : x ≡ y = cc in
          ap p same ∙ h
      at false None i h f g m ih = let z : ◌≡◌ {A = ℕ} 0 1 = cc in absurd (omega arith)
      at false (Some k) i h f g m ih =
          let z : suc k ≡ i = cc in
          ih k x f (ap (slice_get (y ∷ xs)) z ∙ m)

module _ {X : Type 0} (p q : X → Bool) (implies : (x : X) → p x ≡ true → q x ≡ true) where
  both_fail : (x : X) → q x ≡ false → p x ≡ false
  both_fail x e = at (p x) refl
    where
      at : (b : Bool) → p x ≡ b → p x ≡ false
      at true h = absurd (both_ways (q x) e (implies x h))
      at false h = h

  pub none_passes : (xs : List X) → first_place q xs ≡ None → first_place p xs ≡ None
  none_passes [] none = refl
  none_passes (x ∷ xs) none =
      let f = first_fails q x xs none in
      past_first p x xs None (both_fail x f.0) (none_passes xs f.1)

  pub none_before : (xs : List X) (j : ℕ) → first_place q xs ≡ Some j → first_place p (take j xs) ≡ None
  none_before [] j e = let z : ◌≡◌ {A = ℕ} 0 1 = cc in absurd (omega arith)
  none_before (x ∷ xs) zero e = refl
  none_before (x ∷ xs) (suc j) e = at (q x) (first_place q xs) refl refl e (none_before xs)
    where
      at : (b : Bool) (o : Option ℕ) → q x ≡ b → first_place q xs ≡ o → cond b (Some 0) (option_map suc o) ≡ Some (suc j) → ((k : ℕ) → first_place q xs ≡ Some k → first_place p (take k xs) ≡ None) → first_place p (x ∷ take j xs) ≡ None
      at true o h f g ih = let z : ◌≡◌ {A = ℕ} 0 (suc j) = cc in absurd (omega arith)
      at false None h f g ih = let z : ◌≡◌ {A = ℕ} 0 1 = cc in absurd (omega arith)
      at false (Some k) h f g ih =
          let z : k ≡ j = cc in
          past_first p x (take j xs) None (both_fail x h) (ih j (f ∙ ap Some z))
