-- What makes the numbers 1 to 256 a group under the product modulo 257: a · a²⁵⁵ is 1, and so no product is 0.
use Rattle.std.specs.Prelude.{◌≡◌, ℕ, zero, suc, ◌-◌, ◌*◌, ◌%◌, ◌^◌, ◌≤◌, Bool, true, ◌==◌, refl}
use Rattle.std.specs.List.{list_all, range_with_len}
use Rattle.std.proofs.Common.{get_or, sym, ap, ◌∙◌, subst, mul_comm, one-mul, mod-eq_of_lt, arith}
use Rattle.std.proofs.lemmas.Bool.{eqb-true}
use Rattle.std.proofs.lemmas.List.Elements.{All-get_or}
use Rattle.std.proofs.lemmas.List.FromFn.{get_or-range_with_len}
use Rattle.std.proofs.lemmas.List.Sums.{AllPass-from_list_all}
use Rattle.kinds.specs.Modulo.{mod_mul_assoc}

-- the test at a
abbrev cancels_at : ℕ → Bool
cancels_at a = a * (a ^ 255 % 257) % 257 == 1

all_cancel : list_all cancels_at (range_with_len 1 256) ≡ true
all_cancel = refl

pub power_cancels : (a : ℕ) → 1 ≤ a → a ≤ 256 → a * (a ^ 255 % 257) % 257 ≡ 1
power_cancels a low high =
    let at = All-get_or (λ x. cancels_at x ≡ true) (range_with_len 1 256) (a - 1) 0 (omega arith) (AllPass-from_list_all cancels_at (range_with_len 1 256) all_cancel) in
    let is : get_or (range_with_len 1 256) (a - 1) 0 ≡ a = get_or-range_with_len 1 256 (a - 1) 0 (omega arith) ∙ omega arith in
    eqb-true _ _ (subst (λ x. cancels_at x ≡ true) is at)

pub remainder_high : (n : ℕ) → n % 257 ≤ 256
remainder_high n = omega arith

-- a factor of what is not 0 modulo 257 is not 0
factor_low : (a p r : ℕ) → a * p % 257 ≡ r → 1 ≤ r → 1 ≤ p
factor_low a zero r e low = absurd (omega arith)
factor_low a (suc p) r e low = omega arith

pub power_low : (a : ℕ) → 1 ≤ a → a ≤ 256 → 1 ≤ a ^ 255 % 257
power_low a low high = factor_low a (a ^ 255 % 257) 1 (power_cancels a low high) (omega arith)

pub product_low : (a b : ℕ) → 1 ≤ a → a ≤ 256 → 1 ≤ b → b ≤ 256 → 1 ≤ a * b % 257
product_low a b a-low a-high b-low b-high = factor_low x (a * b % 257) b undone b-low
  where
    x : ℕ
    x = a ^ 255 % 257

    undone : x * (a * b % 257) % 257 ≡ b
    undone =
        sym (mod_mul_assoc 257 x a b) ∙ ap (λ m. m % 257 * b % 257) (mul_comm x a)
        ∙ ap (λ m. m * b % 257) (power_cancels a a-low a-high) ∙ ap (λ m. m % 257) (one-mul b) ∙ mod-eq_of_lt (omega arith)
