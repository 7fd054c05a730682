-- A number that is written into columns is its field.
use Rattle.std.proofs.Common.{◌≡◌, ℕ, zero, suc, ◌-◌, ◌^◌, Bool, true, false, List, [], ◌∷◌, ◌++◌, length, replicate, ℤ, pos, negsuc, Some, None, Ok, Err, OnOk, Result, decimal, refl, ap, arith, append-nil, append_assoc}
use lib.Utf8.{encode}
use Rattle.std.proofs.Math.Dec.{eqb-suc-zero}
use Rattle.std.proofs.lemmas.Bool.{le-ltb}
use Rattle.std.specs.Fmt.{signed_decimal, styled_decimal, styled_signed_decimal, format_spec, padded_integral, fill_text, sign_text_with, char_count}
use Rattle.std.specs.Result.{is_ok}
use Rattle.layout.specs.Answers.{weight_line}
use Rattle.layout.specs.Fields.{field}

blank_fill : (columns n : ℕ) → fill_text (format_spec 32 3 0 columns (2 ^ 64 - 1)) n ≡ replicate n 32
unfolding encode
blank_fill columns zero = refl
blank_fill columns (suc n) = ap (λ l. 32 ∷ l) (blank_fill columns n)

padded_right : (columns : ℕ) (negative : Bool) (numeral : List ℕ) → padded_integral (format_spec 32 3 0 columns (2 ^ 64 - 1)) negative [] numeral ≡ replicate (columns - length numeral - length (sign_text_with false negative)) 32 ++ (sign_text_with false negative ++ numeral)
unfolding padded_integral char_count
padded_right columns negative numeral =
    let blanks : ℕ = columns - length numeral - length (sign_text_with false negative) in
    let before : blanks - 0 ≡ blanks = omega arith in
    let after : blanks - blanks ≡ 0 = omega arith in
    simp (blank_fill, append_assoc, append-nil, before, after)

pub styled_number : (columns n : ℕ) → styled_decimal (format_spec 32 3 0 columns (2 ^ 64 - 1)) n ≡ field columns (pos n)
styled_number zero n = let none : 0 - length (decimal n) ≡ 0 = omega arith in rw none refl
styled_number (suc k) n =
    let short : suc k - length (decimal n) - 0 ≡ suc k - length (decimal n) = omega arith in
    rw (eqb-suc-zero k, padded_right (suc k) false (decimal n), short)

pub styled_field : (columns : ℕ) (z : ℤ) → styled_signed_decimal (format_spec 32 3 0 columns (2 ^ 64 - 1)) z ≡ field columns z
styled_field zero z = let none : 0 - length (signed_decimal z) ≡ 0 = omega arith in rw none refl
styled_field (suc k) (pos n) =
    let short : suc k - length (decimal n) - 0 ≡ suc k - length (decimal n) = omega arith in
    rw (eqb-suc-zero k, le-ltb n 0 (omega arith), padded_right (suc k) false (decimal n), short)
styled_field (suc k) (negsuc n) =
    let short : suc k - length (decimal (suc n)) - 1 ≡ suc k - suc (length (decimal (suc n))) = omega arith in
    rw (eqb-suc-zero k, padded_right (suc k) true (decimal (suc n)), short)

-- what was written, where only the error is another
pub told : {E F : Type 0} (r : Result (Unit {0}) E) (s : Result (Unit {0}) F) (out start styled wanted : List ℕ) → is_ok s ≡ is_ok r → styled ≡ wanted → OnOk r (out ≡ start ++ styled) → OnOk s (out ≡ start ++ wanted)
told (Ok u) (Ok v) out start styled wanted same is written = rw (← is) written
told (Ok u) (Err f) out start styled wanted same is written = tt
told (Err e) (Ok v) out start styled wanted same is written = let clash : ◌≡◌ {A = ℕ} 0 1 = cc in absurd (omega arith)
told (Err e) (Err f) out start styled wanted same is written = tt

-- the field of a number that a call wrote
pub field_told : {E F : Type 0} (r : Result (Unit {0}) E) (s : Result (Unit {0}) F) (out start : List ℕ) (columns : ℕ) (z : ℤ) → is_ok s ≡ is_ok r → OnOk r (out ≡ start ++ styled_signed_decimal (format_spec 32 3 0 columns (2 ^ 64 - 1)) z) → OnOk s (out ≡ start ++ field columns z)
field_told r s out start columns z same written = told r s out start _ (field columns z) same (styled_field columns z) written

-- and the line of a weight
pub weight_told : {E F : Type 0} (r : Result (Unit {0}) E) (s : Result (Unit {0}) F) (out start : List ℕ) (t : ℕ) (z : ℤ) → is_ok s ≡ is_ok r → OnOk r (out ≡ start ++ 87 ∷ (styled_decimal (format_spec 32 3 0 6 (2 ^ 64 - 1)) t ++ (styled_signed_decimal (format_spec 32 3 0 6 (2 ^ 64 - 1)) (pos 1) ++ (styled_signed_decimal (format_spec 32 3 0 12 (2 ^ 64 - 1)) z ++ 10 ∷ [])))) → OnOk s (out ≡ start ++ weight_line t (Some z))
weight_told r s out start t z same written = told r s out start _ (weight_line t (Some z)) same (rw (styled_number 6 t, styled_field 6 (pos 1), styled_field 12 z) (simp (append_assoc, append-nil))) written

pub none_told : {E F : Type 0} (r : Result (Unit {0}) E) (s : Result (Unit {0}) F) (out start : List ℕ) (t : ℕ) → is_ok s ≡ is_ok r → OnOk r (out ≡ start ++ 87 ∷ (styled_decimal (format_spec 32 3 0 6 (2 ^ 64 - 1)) t ++ (styled_signed_decimal (format_spec 32 3 0 6 (2 ^ 64 - 1)) (pos 0) ++ (styled_signed_decimal (format_spec 32 3 0 12 (2 ^ 64 - 1)) (pos 0) ++ 10 ∷ [])))) → OnOk s (out ≡ start ++ weight_line t None)
none_told r s out start t same written = told r s out start _ (weight_line t None) same (rw (styled_number 6 t, styled_field 6 (pos 0), styled_field 12 (pos 0)) (simp (append_assoc, append-nil))) written
