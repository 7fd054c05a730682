-- Products modulo a number: it does not matter which product is taken first.
use Rattle.std.specs.Prelude.{◌≡◌, ℕ, ◌*◌, ◌%◌}
use Rattle.std.proofs.Common.{sym, ap, ◌∙◌, mul_assoc}
use Rattle.std.proofs.lemmas.Nat.{mul-mod_first, mul-mod_second}

pub mod_mul_assoc : (n a b c : ℕ) → a * b % n * c % n ≡ a * (b * c % n) % n
mod_mul_assoc n a b c = mul-mod_first (a * b) c n ∙ ap (λ m. m % n) (mul_assoc a b c) ∙ sym (mul-mod_second a (b * c) n)
