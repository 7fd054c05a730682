-- Turns from aᵐ to a²ᵐ⁺¹, modulo 257.
use Rattle.std.proofs.Common.{◌≡◌, ℕ, zero, suc, ◌+◌, ◌-◌, ◌*◌, ◌%◌, ◌^◌, fold, sym, ap, ◌∙◌, pow-suc, add-one, pow-add, arith}
use native.Mathlib.Nat.{two-pow-succ}
use Rattle.std.proofs.Math.Nat.{pow-zero}
use Rattle.std.proofs.lemmas.Nat.{mul-mod, mul-mod_first}
use Rattle.std.specs.List.{range_with_len}
use Rattle.kinds.specs.declared.residue.Residue.{Residue}
use Rattle.kinds.specs.Residues.{residues}

squared_times : (n a m p : ℕ) → p ≡ a ^ m % n → p * p % n * a % n ≡ a ^ (m + m + 1) % n
squared_times n a m p e =
    let powers : a ^ (m + m + 1) ≡ a ^ m * a ^ m * a = rw (add-one, pow-suc, pow-add) in
    let squared : p * p % n ≡ a ^ m * a ^ m % n = rw e (sym (mul-mod (a ^ m) (a ^ m) n)) in
    ap (λ s. s * a % n) squared ∙ mul-mod_first (a ^ m * a ^ m) a n ∙ ap (λ x. x % n) (sym powers)

-- one turn, whatever its number
abbrev pub turned : Residue → Residue → ℕ → Residue
turned a p k = residues.times (residues.times p p) a

-- n turns take the exponent m to (m + 1) · 2ⁿ - 1
turns : (a p : Residue) (k n m : ℕ) → p.code ≡ a.code ^ m % 257 → (fold (turned a) p (range_with_len k n)).code ≡ a.code ^ ((m + 1) * 2 ^ n - 1) % 257
turns a p k zero m e = e ∙ ap (λ x. a.code ^ x % 257) (omega arith)
turns a p k (suc n) m e =
    turns a (turned a p k) (k + 1) n (m + m + 1) (squared_times 257 a.code m p.code e)
    ∙ ap (λ x. a.code ^ x % 257) (let twice = ap (λ t. (m + 1) * t) (two-pow-succ n) in omega arith)

pub from_one : (a p : Residue) (n : ℕ) → p.code ≡ 1 → (fold (turned a) p (range_with_len 0 n)).code ≡ a.code ^ (2 ^ n - 1) % 257
from_one a p n one = turns a p 0 n 0 (one ∙ rw pow-zero) ∙ ap (λ x. a.code ^ x % 257) (omega arith)
