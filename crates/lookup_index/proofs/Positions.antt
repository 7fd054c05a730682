-- The first place that passes a test, found by going through a list.
use Rattle.std.proofs.Common.{◌≡◌, ℕ, suc, ◌+◌, ◌<◌, ◌≤◌, Bool, true, false, cond, not, ltb, List, [], ◌∷◌, ◌++◌, length, get_or, take, drop, Some, None, Option, sym, refl, ap, ◌∙◌, arith}
use Rattle.std.proofs.lemmas.List.{take_more, drop_more, take-append-drop, length-take-le, take_all}
use Rattle.std.specs.Option.{option_map}
use Rattle.std.proofs.lemmas.Bool.{lt-ltb, le-ltb, ltb-true, ltb-false}
use Rattle.std.specs.List.{position, position_or_len}
use Rattle.lookup_index.specs.Indexes.{first_place}

suc_past : (b : Bool) (n : ℕ) → option_map suc (cond b (Some n) None) ≡ cond b (Some (1 + n)) None
suc_past true n = ap Some (omega arith)
suc_past false n = refl

ltb_suc : (m n : ℕ) → ltb (1 + m) (suc n) ≡ ltb m n
ltb_suc m n = at (ltb m n) refl
  where
    at : (b : Bool) → ltb m n ≡ b → ltb (1 + m) (suc n) ≡ b
    at true e = lt-ltb (1 + m) (suc n) (omega (arith, ltb-true m n e))
    at false e = le-ltb (1 + m) (suc n) (omega (arith, ltb-false m n e))

mapped_none : {X Y : Type 0} (f : X → Y) (o : Option X) → option_map f o ≡ None → o ≡ None
mapped_none f None e = refl
mapped_none f (Some x) e = let z : ◌≡◌ {A = ℕ} 0 1 = cc in absurd (omega arith)

module _ {X : Type 0} (p : X → Bool) where
  pub first_fails : (x : X) (xs : List X) → first_place p (x ∷ xs) ≡ None → (p x ≡ false) × (first_place p xs ≡ None)
  first_fails x xs e = at (p x) refl e
    where
      at : (b : Bool) → p x ≡ b → cond b (Some 0) (option_map suc (first_place p xs)) ≡ None → (p x ≡ false) × (first_place p xs ≡ None)
      at true h k = let z : ◌≡◌ {A = ℕ} 0 1 = cc in absurd (omega arith)
      at false h k = (h, mapped_none suc (first_place p xs) k)

  pub past_first : (x : X) (xs : List X) (o : Option ℕ) → p x ≡ false → first_place p xs ≡ o → first_place p (x ∷ xs) ≡ option_map suc o
  past_first x xs o h e = ap (λ b. cond b (Some 0) (option_map suc (first_place p xs))) h ∙ ap (option_map suc) e

  position_push : (xs : List X) (y : X) → first_place p xs ≡ None → p y ≡ false → first_place p (xs ++ y ∷ []) ≡ None
  position_push [] y none fails = past_first y [] None fails refl
  position_push (x ∷ xs) y none fails =
      let f = first_fails x xs none in
      past_first x (xs ++ y ∷ []) None f.0 (position_push xs y f.1 fails)

  position_at : (xs : List X) (y : X) (ys : List X) → first_place p xs ≡ None → p y ≡ true → first_place p (xs ++ y ∷ ys) ≡ Some (length xs)
  position_at [] y ys none passes = ap (λ b. cond b (Some 0) (option_map suc (first_place p ys))) passes
  position_at (x ∷ xs) y ys none passes =
      let f = first_fails x xs none in
      past_first x (xs ++ y ∷ ys) (Some (length xs)) f.0 (position_at xs y ys f.1 passes)

  -- nothing passes among the first i elements, nor does the next, x
  pub position_more : (xs : List X) (i : ℕ) (x : X) → i < length xs → x ≡ get_or xs i x → first_place p (take i xs) ≡ None → p x ≡ false → first_place p (take (i + 1) xs) ≡ None
  position_more xs i x l read none fails =
      ap (first_place p) (take_more xs i x l ∙ ap (λ y. take i xs ++ y ∷ []) (sym read)) ∙ position_push (take i xs) x none fails

  -- nothing passes among the first i elements, and the next, x, does
  pub position_found : (xs : List X) (i : ℕ) (x : X) → i < length xs → x ≡ get_or xs i x → first_place p (take i xs) ≡ None → p x ≡ true → first_place p xs ≡ Some i
  position_found xs i x l read none passes =
      let split : take i xs ++ x ∷ drop (i + 1) xs ≡ xs = ap (λ ys. take i xs ++ ys) (ap (λ y. y ∷ drop (i + 1) xs) read ∙ sym (drop_more xs i x l)) ∙ take-append-drop i xs in
      let n : length (take i xs) ≡ i = length-take-le i xs (omega arith) in
      ap (first_place p) (sym split) ∙ position_at (take i xs) x (drop (i + 1) xs) none passes ∙ ap Some n

  pub position_none : (xs : List X) (i : ℕ) → length xs ≤ i → first_place p (take i xs) ≡ None → first_place p xs ≡ None
  position_none xs i l none = rw (take_all i xs l) at none

  pub position_within : (xs : List X) (i : ℕ) → first_place p xs ≡ Some i → i < length xs
  position_within [] i e = let z : ◌≡◌ {A = ℕ} 0 1 = cc in absurd (omega arith)
  position_within (x ∷ xs) i e = at (p x) (first_place p xs) refl e (position_within xs)
    where
      at : (b : Bool) (o : Option ℕ) → first_place p xs ≡ o → cond b (Some 0) (option_map suc o) ≡ Some i → ((j : ℕ) → first_place p xs ≡ Some j → j < length xs) → i < suc (length xs)
      at true o f k ih = let z : ◌≡◌ {A = ℕ} 0 i = cc in omega arith
      at false None f k ih = let z : ◌≡◌ {A = ℕ} 0 1 = cc in absurd (omega arith)
      at false (Some j) f k ih = let z : suc j ≡ i = cc in omega (arith, ih j f)

  -- the library's definition
  pub position_first : (xs : List X) → first_place p xs ≡ position p xs
  position_first [] = refl
  position_first (x ∷ xs) = at (p x) (ap (option_map suc) (position_first xs))
    where
      at : (b : Bool) → option_map suc (first_place p xs) ≡ option_map suc (position p xs) → cond b (Some 0) (option_map suc (first_place p xs)) ≡ cond (ltb (cond (not b) (1 + position_or_len p xs) 0) (suc (length xs))) (Some (cond (not b) (1 + position_or_len p xs) 0)) None
      at true e = sym (ap (λ b. cond b (Some 0) None) (lt-ltb 0 (suc (length xs)) (omega arith)))
      at false e =
          e ∙ suc_past (ltb (position_or_len p xs) (length xs)) (position_or_len p xs)
          ∙ sym (ap (λ b. cond b (Some (1 + position_or_len p xs)) None) (ltb_suc (position_or_len p xs) (length xs)))
