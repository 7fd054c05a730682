-- Results with a line, and what the exit of a `?` returns.
use Rattle.std.proofs.Common.{◌≡◌, ℕ, IsErrAnd, Ok, Err, Result, sym, ap, ◌∙◌, subst, arith}
use Rattle.std.proofs.lemmas.Result.{err_from_is_err_and}
use Rattle.pages.specs.declared.at.At.{At}
use Rattle.pages.specs.Reading.{placed}

-- a result with a line, and the result without
pub placed_ok : {T E : Type 0} (line : ℕ) (r : Result T E) (p : Result T (At E)) (v : T) → p ≡ placed line r → p ≡ Ok v → r ≡ Ok v
placed_ok line (Ok w) p v e is = cc
placed_ok line (Err x) p v e is = let z : ◌≡◌ {A = ℕ} 0 1 = cc in absurd (omega arith)

pub placed_err : {T E : Type 0} (line : ℕ) (r : Result T E) (p : Result T (At E)) (a : At E) → p ≡ placed line r → p ≡ Err a → (a.line ≡ line) × (r ≡ Err a.error)
placed_err line (Ok w) p a e is = let z : ◌≡◌ {A = ℕ} 0 1 = cc in absurd (omega arith)
placed_err line (Err x) p a e is =
    let same : a ≡ record { line = line; error = x } = cc in
    (ap (λ b. b.line) same, ap (λ b. Err b.error) (sym same))

-- what the exit of a `?` returns
pub thrown : {T E : Type 0} (P : Result T E → Type 0) (r : Result T E) (x : E) → IsErrAnd r (λ y. y ≡ x) → P (Err x) → P r
thrown P r x by p =
    let e = err_from_is_err_and r by in
    subst P (sym (e.1 ∙ ap Err e.2)) p
