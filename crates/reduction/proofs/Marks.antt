-- Looking for a number below another that passes a test, and making an array from a function.
use Rattle.std.proofs.Common.{◌≡◌, ℕ, zero, suc, ◌+◌, ◌<◌, ◌≤◌, Bool, true, false, ◌||◌, List, get_or, refl, sym, ap, ◌∙◌, subst, ⊎_elim, arith}
use Rattle.std.proofs.lemmas.Bool.{cases_eq}
use Rattle.std.specs.Array.{IsFromFnResult, IsFromFnResultFrom}
use Rattle.std.specs.Fn.{Called}
use Rattle.std.specs.List.{list_any, range_with_len}
use denote.Param.Members.{Mut}
use Rattle.automata.specs.Merging.{some_below}

or_swap : (a b c : Bool) → (a || (b || c)) ≡ (b || (a || c))
or_swap true true c = refl
or_swap true false c = refl
or_swap false b c = refl

some_first : (n : ℕ) (p : ℕ → Bool) → some_below (suc n) p ≡ (p 0 || some_below n (λ k. p (suc k)))
some_first zero p = refl
some_first (suc n) p = ap (λ b. p (suc n) || b) (some_first n p) ∙ or_swap (p (suc n)) (p 0) (some_below n (λ k. p (suc k)))

-- from a on, n numbers
any_from : (a n : ℕ) (p : ℕ → Bool) → list_any p (range_with_len a n) ≡ some_below n (λ k. p (k + a))
any_from a zero p = refl
any_from a (suc n) p =
    let same : (k : ℕ) → k + (a + 1) ≡ suc k + a = λ k. omega arith in
    let on : some_below n (λ k. p (k + (a + 1))) ≡ some_below n (λ k. p (suc k + a)) = λ i. some_below n (λ k. p (same k i)) in
    let first : (p (0 + a) || some_below n (λ k. p (suc k + a))) ≡ (p a || some_below n (λ k. p (suc k + a))) = ap (λ k. p k || some_below n (λ k. p (suc k + a))) (omega arith) in
    ap (λ b. p a || b) (any_from (a + 1) n p ∙ on) ∙ sym (some_first n (λ k. p (k + a)) ∙ first)

pub any_below : (n : ℕ) (p : ℕ → Bool) → list_any p (range_with_len 0 n) ≡ some_below n p
any_below n p =
    let same : (k : ℕ) → k + 0 ≡ k = λ k. omega arith in
    any_from 0 n p ∙ (λ i. some_below n (λ k. p (same k i)))

-- what `from_fn` makes by a closure that answers h and stays as it is
module _ {F B : Type 0} (g : Mut F (ℕ × Unit {0}) B) (f : F) (h : ℕ → B) (gives : (x : ℕ) (b : B) (q : F) → Called g f (x, tt) b q → (q ≡ f) × (b ≡ h x)) where
  made_from : (ys : List B) (d : B) (n i : ℕ) (p : F) → p ≡ f → IsFromFnResultFrom g p ys i n → (k : ℕ) → i ≤ k → k < i + n → get_or ys k d ≡ h k
  made_from ys d zero i p s r k l m = absurd (omega arith)
  made_from ys d (suc n) i p s r k l m =
      let told = gives i r.1 r.0 (subst (λ (x : F). Called g x (i, tt) r.1 r.0) s r.3) in
      ⊎_elim
      (λ e. ap (λ j. get_or ys j d) e ∙ r.2.1 d ∙ told.1 ∙ ap h (sym e))
      (λ e. made_from ys d n (i + 1) r.0 told.0 r.4 k (omega (arith, e)) (omega arith))
      (cases_eq k i)

  pub made_at : (ys : List B) (d : B) (n : ℕ) → IsFromFnResult g f ys n → (k : ℕ) → k < n → get_or ys k d ≡ h k
  made_at ys d n r k l = made_from ys d n 0 f refl r.each k (omega arith) (omega arith)
