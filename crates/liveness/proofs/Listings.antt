-- Lists of states with flags: what a flag says, and one state more.
use Rattle.std.proofs.Common.{◌≡◌, ℕ, suc, ◌+◌, ◌<◌, ◌≤◌, Bool, true, false, ◌⊎◌, List, [], ◌∷◌, ◌++◌, length, get_or, take, set, replicate, sym, refl, ap, ◌∙◌, subst, inl, inr, ⊎_elim, arith}
use Rattle.std.specs.List.{ContainsAt}
use Rattle.std.proofs.lemmas.List.{length-take, get_or-take, get_or_default, get_or-set_same, get_or-set_other, take-set-le, take_more_set}
use Rattle.std.proofs.ByRecursion.{has_push, has_append_left, has_push_cases}
use Rattle.std.proofs.lemmas.Bool.{both_ways, cases_eq, cases_lt}
use Rattle.automata.proofs.Pigeons.{pigeonhole}
use Rattle.trees.proofs.Ranks.{getD_constant}
use Rattle.liveness.specs.Listings.{Flagged, Listed}

-- what stands among the first n of a list stands at a place below n, and conversely
pub place_before : (n : ℕ) (xs : List ℕ) (q : ℕ) → ContainsAt (take n xs) q → (i : ℕ) × (i < n) × (i < length xs) × (get_or xs i 0 ≡ q)
place_before n xs q h =
    let m = length-take n xs in
    let low : h.0 < n = omega (arith, h.1) in
    (h.0, low, omega (arith, h.1), sym (get_or-take n xs h.0 0 low) ∙ h.2 0)

pub before_place : (n : ℕ) (xs : List ℕ) (i : ℕ) → i < n → i < length xs → ContainsAt (take n xs) (get_or xs i 0)
before_place n xs i low short =
    let m = length-take n xs in
    (i, omega arith, λ d. get_or-take n xs i d low ∙ get_or_default xs i d 0 short)

pub listed_none : (states : ℕ) → Listed states (replicate 48 false) (replicate 48 0) 0
listed_none states = record {
  bounded = omega arith;
  within = λ i h. absurd (omega arith);
  distinct = λ i j h k e. absurd (omega arith);
  flagged = λ q. ((λ f. absurd (both_ways (get_or (replicate 48 false) q false) (getD_constant 48 q false) f)), (λ h. absurd (omega (arith, h.1))));
}

-- flags stay when one is set
pub flag_kept : (flags : List Bool) (q p : ℕ) → q < length flags → Flagged flags p → Flagged (set flags q true) p
flag_kept flags q p h f =
    ⊎_elim (λ e. ap (λ n. get_or (set flags q true) n false) e ∙ get_or-set_same flags q true false h)
    (λ n. get_or-set_other flags q p true false n ∙ f) (cases_eq p q)

pub flagged_within : (states : ℕ) (flags : List Bool) (order : List ℕ) (count : ℕ) → Listed states flags order count → (q : ℕ) → Flagged flags q → q < states
flagged_within states flags order count listed q f =
    let h = place_before count order q ((listed.flagged q).0 f) in
    subst (λ (p : ℕ). p < states) h.3 (listed.within h.0 h.1)

-- a state that is not listed yet
module _ (states : ℕ) (flags : List Bool) (order : List ℕ) (count : ℕ) (wide : length flags ≡ 48) (long : length order ≡ 48) (few : states ≤ 48) (listed : Listed states flags order count) (q : ℕ) (new : q < states) (off : get_or flags q false ≡ false) where
  fresh : (i : ℕ) → i < count → get_or order i 0 ≡ q → ⊥
  fresh i h e =
      let b = listed.bounded in
      let has : ContainsAt (take count order) q = subst (ContainsAt (take count order)) e (before_place count order i h (omega arith)) in
      both_ways (get_or flags q false) off ((listed.flagged q).1 has)

  -- i is the place of k in the list, or k is the state
  abbrev Longer : ℕ → ℕ → Type 0
  Longer i k = ((i < count) × (get_or order i 0 ≡ k)) ⊎ ((i ≡ count) × (q ≡ k))

  placed : (i : ℕ) → i < suc count → (k : ℕ) × (k < states) × Longer i k
  placed i h =
      ⊎_elim {C = (k : ℕ) × (k < states) × Longer i k}
      (λ l. (get_or order i 0, listed.within i l, inl (l, refl)))
      (λ l. (q, new, inr (omega arith, refl))) (cases_lt i count)

  unshared : (i j k : ℕ) → i < suc count → j < suc count → Longer i k → Longer j k → i ≡ j
  unshared i j k h l (inl a) (inl b) = listed.distinct i j a.0 b.0 (a.1 ∙ sym b.1)
  unshared i j k h l (inl a) (inr b) = absurd (fresh i a.0 (a.1 ∙ sym b.1))
  unshared i j k h l (inr a) (inl b) = absurd (fresh j b.0 (b.1 ∙ sym a.1))
  unshared i j k h l (inr a) (inr b) = a.0 ∙ sym b.0

  pub room : count < states
  room = pigeonhole states (suc count) Longer placed unshared

  here : get_or (set order count q) count 0 ≡ q
  here = let r = room in get_or-set_same order count q 0 (omega arith)

  before : (i : ℕ) → i < count → get_or (set order count q) i 0 ≡ get_or order i 0
  before i h = get_or-set_other order count i q 0 (λ e. omega arith)

  grown : take (count + 1) (set order count q) ≡ take count order ++ q ∷ []
  grown = let r = room in take_more_set order count q (omega arith)

  within_more : (i : ℕ) → i < count + 1 → get_or (set order count q) i 0 < states
  within_more i h =
      ⊎_elim
      (λ l. rw (before i l) (listed.within i l))
      (λ l. let e : i ≡ count = omega arith in rw (e, here) new) (cases_lt i count)

  distinct_more : (i j : ℕ) → i < count + 1 → j < count + 1 → get_or (set order count q) i 0 ≡ get_or (set order count q) j 0 → i ≡ j
  distinct_more i j h k e = at (cases_lt i count) (cases_lt j count)
    where
      at : (i < count) ⊎ (count ≤ i) → (j < count) ⊎ (count ≤ j) → i ≡ j
      at (inl l) (inl m) = listed.distinct i j l m (sym (before i l) ∙ e ∙ before j m)
      at (inl l) (inr m) = let f : j ≡ count = omega arith in absurd (fresh i l (sym (before i l) ∙ e ∙ ap (λ n. get_or (set order count q) n 0) f ∙ here))
      at (inr l) (inl m) = let f : i ≡ count = omega arith in absurd (fresh j m (sym (before j m) ∙ sym e ∙ ap (λ n. get_or (set order count q) n 0) f ∙ here))
      at (inr l) (inr m) = omega arith

  pub set_here : Flagged (set flags q true) q
  set_here = get_or-set_same flags q true false (omega arith)

  flagged_forth : (p : ℕ) → Flagged (set flags q true) p → ContainsAt (take count order ++ q ∷ []) p
  flagged_forth p f =
      ⊎_elim
      (λ e. subst (ContainsAt (take count order ++ q ∷ [])) (sym e) (has_push (take count order) q))
      (λ n. has_append_left (take count order) (q ∷ []) p ((listed.flagged p).0 (sym (get_or-set_other flags q p true false n) ∙ f))) (cases_eq p q)

  flagged_back : (p : ℕ) → ContainsAt (take count order ++ q ∷ []) p → Flagged (set flags q true) p
  flagged_back p h =
      ⊎_elim
      (λ l. flag_kept flags q p (omega arith) ((listed.flagged p).1 l))
      (λ e. subst (Flagged (set flags q true)) e set_here) (has_push_cases (take count order) q p h)

  pub listed_more : Listed states (set flags q true) (set order count q) (count + 1)
  listed_more = record {
    bounded = let r = room in omega arith;
    within = within_more;
    distinct = distinct_more;
    flagged = λ p. ((λ f. subst (λ (xs : List ℕ). ContainsAt xs p) (sym grown) (flagged_forth p f)), (λ h. flagged_back p (subst (λ (xs : List ℕ). ContainsAt xs p) grown h)));
  }

  -- what holds of each state and those before it, if a new state changes it only at that state
  pub traced_more : (D D' : List ℕ → ℕ → Type 0) → ((xs : List ℕ) (p : ℕ) → (p ≡ q → ⊥) → D xs p → D' xs p) → D' (take count order) q → ((i : ℕ) → i < count → D (take i order) (get_or order i 0)) → (i : ℕ) → i < count + 1 → D' (take i (set order count q)) (get_or (set order count q) i 0)
  traced_more D D' keep last below i h =
      ⊎_elim
      (λ l. rw (take-set-le i order count q (omega arith), before i l) (keep (take i order) (get_or order i 0) (fresh i l) (below i l)))
      (λ l. let e : i ≡ count = omega arith in rw (e, take-set-le count order count q (omega arith), here) last) (cases_lt i count)
