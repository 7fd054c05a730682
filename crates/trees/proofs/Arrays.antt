-- What `array::from_fn` gives by a closure that stays as it is.
use Rattle.std.proofs.Common.{◌≡◌, ℕ, zero, suc, ◌+◌, ◌<◌, ◌≤◌, List, get_or, subst, ap, ◌∙◌, sym, ⊎_elim, arith}
use Rattle.std.proofs.lemmas.Bool.{cases_eq}
use Rattle.std.specs.Array.{IsFromFnResultFrom}
use Rattle.std.specs.Fn.{Mut, Called}

module _ {F B : Type 0} (g : Mut F (ℕ × Unit {0}) B) (h : ℕ → B) (f : F) (gives : (i : ℕ) (y : B) (q : F) → Called g f (i, tt) y q → (q ≡ f) × (y ≡ h i)) where
  pub get_or-from_fn : (ys : List B) (i n k : ℕ) (d : B) → IsFromFnResultFrom g f ys i n → i ≤ k → k < i + n → get_or ys k d ≡ h k
  get_or-from_fn ys i zero k d made low high = absurd (omega arith)
  get_or-from_fn ys i (suc n) k d made low high =
      let same = gives i made.1 made.0 made.3 in
      let rest = subst (λ (p : F). IsFromFnResultFrom g p ys (i + 1) n) same.0 made.4 in
      ⊎_elim (λ e. ap (λ m. get_or ys m d) e ∙ made.2.1 d ∙ same.1 ∙ ap h (sym e))
      (λ ne. get_or-from_fn ys (i + 1) n k d rest (omega arith) (omega arith)) (cases_eq k i)
