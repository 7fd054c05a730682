-- Blanks before a text, and the fields that they make.
use Rattle.std.proofs.Common.{◌≡◌, ℕ, zero, suc, ◌-◌, ◌^◌, ◌<◌, ◌≤◌, List, ◌++◌, length, get_or, drop, replicate, ℤ, pos, negsuc, nat_abs, Some, None, Ok, Err, Result, decimal, Option, sym, ap, ◌∙◌, arith, length-append}
use native.Mathlib.Nat.{pow-le-pow_right}
use Rattle.std.proofs.lemmas.Int.{ints}
use lib.Signed.{mag}
use lib.ListN.{length-replicate}
use Rattle.std.specs.Fmt.{signed_decimal}
use Rattle.std.specs.Int.{FitsUnsignedBits}
use Rattle.std.specs.Result.{OkIff, result_ok}
use Rattle.std.proofs.lemmas.Fmt.{decimal_is_IsNumeral, length-decimal-le, signed_decimal_injective}
use Rattle.std.proofs.lemmas.Str.Parse.{digit_at}
use Rattle.layout.specs.Fields.{field, Short, Long, ReadsNumber, ReadsCode}
use Rattle.layout.specs.Numerals.{ReadsSigned, ReadsField, Padded}
use Rattle.layout.proofs.Decimal.{decimal_lt}

-- what follows the blanks is determined
same_rest : (j k : ℕ) (r s : List ℕ) → replicate j 32 ++ r ≡ replicate k 32 ++ s → (get_or r 0 0 ≡ 32 → ⊥) → (get_or s 0 0 ≡ 32 → ⊥) → r ≡ s
same_rest zero zero r s is p q = is
same_rest zero (suc k) r s is p q = absurd (p (ap (λ l. get_or l 0 0) is))
same_rest (suc j) zero r s is p q = absurd (q (ap (λ l. get_or l 0 0) (sym is)))
same_rest (suc j) (suc k) r s is p q = same_rest j k r s (ap (drop 1) is) p q

pub padded_length : (text rest : List ℕ) → Padded text rest → length rest ≤ length text
padded_length text rest padded =
    let long : length text ≡ length (replicate (length text - length rest) 32 ++ rest) = ap length padded.blanks in
    omega (arith, length-append (replicate (length text - length rest) 32) rest)

pub field_length : (columns : ℕ) (z : ℤ) → length (signed_decimal z) ≤ columns → length (field columns z) ≡ columns
field_length columns z most = omega (arith, length-append (replicate (columns - length (signed_decimal z)) 32) (signed_decimal z), length-replicate {A = ℕ} (columns - length (signed_decimal z)) 32)

-- a number does not begin with a blank

first_decimal_other : (n : ℕ) → n < 2 ^ 64 → get_or (decimal n) 0 0 ≡ 32 → ⊥
first_decimal_other n fits e = let reads = decimal_is_IsNumeral n fits in omega (arith, digit_at (decimal n) 0 reads.0.1 reads.0.0)

first_signed_other : (z : ℤ) → mag z < 2 ^ 63 → get_or (signed_decimal z) 0 0 ≡ 32 → ⊥
first_signed_other (pos n) fits e = first_decimal_other n (omega arith) e
first_signed_other (negsuc n) fits e = omega arith

-- a field has one number
pub columns_same : (columns : ℕ) (y z : ℤ) → mag y < 2 ^ 63 → mag z < 2 ^ 63 → field columns y ≡ field columns z → y ≡ z
columns_same columns y z fits_y fits_z is =
    signed_decimal_injective y z fits_y fits_z (same_rest (columns - length (signed_decimal y)) (columns - length (signed_decimal z)) (signed_decimal y) (signed_decimal z) is (first_signed_other y fits_y) (first_signed_other z fits_z))

-- the numbers that fit six columns and twelve

pub length_short : (n : ℕ) → Short n → length (decimal n) ≤ 6
length_short n short = length-decimal-le 6 n (omega arith) (omega arith) (omega arith)

pub long_fits : (z : ℤ) → Long z → mag z < 2 ^ 63
long_fits (pos n) long = omega (arith, ints)
long_fits (negsuc n) long = omega (arith, ints)

length_long : (z : ℤ) → Long z → length (signed_decimal z) ≤ 12
length_long (pos n) long = length-decimal-le 12 n (omega arith) (omega (arith, ints)) (omega (arith, ints))
length_long (negsuc n) long = omega (arith, length-decimal-le 11 (suc n) (omega arith) (omega (arith, ints)) (omega (arith, ints)))

pub number_same : (m n : ℕ) → Short m → Short n → field 6 (pos m) ≡ field 6 (pos n) → m ≡ n
number_same m n short_m short_n is = let same = columns_same 6 (pos m) (pos n) (omega arith) (omega arith) is in cc

pub field_same : (y z : ℤ) → Long y → Long z → field 12 y ≡ field 12 z → y ≡ z
field_same y z long_y long_z is = columns_same 12 y z (long_fits y long_y) (long_fits z long_z) is

long_signed : (z : ℤ) → mag z < 10 ^ 12 → length (signed_decimal z) ≤ 12 → Long z
long_signed (pos n) small most = (omega (arith, ints), omega (arith, ints))
long_signed (negsuc n) small most =
    let few : length (decimal (suc n)) ≤ 11 = omega arith in
    let below : suc n < 10 ^ 11 = omega (arith, decimal_lt (suc n) (omega arith), pow-le-pow_right {n = 10} (omega arith) few) in
    (omega (arith, ints), omega (arith, ints))

-- a text in its columns

pub field_read : (columns : ℕ) (text rest : List ℕ) (r : Option ℤ) → length text ≡ columns → Padded text rest → ReadsSigned rest r → ReadsField columns text r
field_read columns text rest (Some z) size padded reads =
    let is : rest ≡ signed_decimal z = reads.1 in
    (reads.0, omega (arith, padded_length text rest padded, ap length is), padded.blanks ∙ rw (size, is))
field_read columns text rest None size padded reads = λ z fits few is.
    reads z fits (same_rest (length text - length rest) (columns - length (signed_decimal z)) rest (signed_decimal z) (sym padded.blanks ∙ is) padded.first (first_signed_other z fits))

pub field_refused : (columns : ℕ) (text : List ℕ) → (length text ≡ columns → ⊥) → ReadsField columns text None
field_refused columns text other = λ z fits few is. other (ap length is ∙ field_length columns z few)

pub number_refused : (text : List ℕ) → ReadsField 6 text None → ReadsNumber text None
number_refused text none = λ n short is. none (pos n) (omega arith) (length_short n short) is

pub number_read : {E : Type 0} (text : List ℕ) (z : ℤ) (r : Result ℕ E) → ReadsField 6 text (Some z) → OkIff r (FitsUnsignedBits 64 z) (nat_abs z) → ReadsNumber text (result_ok r)
number_read text (pos n) (Ok m) reads is =
    let few = reads.1 in
    rw is.1 (omega (arith, decimal_lt n (omega (arith, reads.0)), pow-le-pow_right {n = 10} (omega arith) few), reads.2)
number_read text (pos n) (Err e) reads over = absurd (over (omega (arith, reads.0)))
number_read text (negsuc n) (Ok m) reads is = absurd is.0
number_read text (negsuc n) (Err e) reads over = λ m short is.
    let same = columns_same 6 (negsuc n) (pos m) (omega (arith, reads.0)) (omega arith) (sym reads.2 ∙ is) in
    let clash : ◌≡◌ {A = ℕ} 0 1 = cc in
    absurd (omega arith)

pub code_read : (text : List ℕ) (r : Option ℤ) → ReadsField 12 text r → ReadsCode text r
code_read text (Some z) reads = (long_signed z reads.0 reads.1, reads.2)
code_read text None none = λ z long is. none z (long_fits z long) (length_long z long) is
