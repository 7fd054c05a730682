-- A text of digits is the decimal of its value, if no zero leads.
use Rattle.std.proofs.Common.{◌≡◌, ℕ, zero, suc, ◌+◌, ◌-◌, ◌*◌, ◌^◌, ◌<◌, ◌≤◌, inl, inr, List, [], ◌∷◌, length, get_or, take, drop, ℤ, pos, negsuc, neg_ℤ, Some, None, decimal, sym, refl, ap, ◌∙◌, subst, arith, length-take}
use native.Mathlib.Nat.{pow-le-pow_right}
use lib.Signed.{mag}
use Rattle.std.specs.Str.Parse.{AllDigits, digits_value}
use Rattle.std.specs.Int.{IsInRange, IsOutOfRange}
use Rattle.std.specs.Fmt.{signed_decimal}
use Rattle.std.proofs.lemmas.Fmt.{decimal_is_IsNumeral, decimal_digit, decimal-digits_value, first_decimal}
use Rattle.std.proofs.lemmas.Int.Digits.{digits_value-lt, digits_value_more}
use Rattle.std.proofs.lemmas.Str.{digit_value_digit}
use Rattle.std.proofs.lemmas.Str.Parse.{IsNumeralModel, digit_at, numerals_by_value, tells_digits}
use Rattle.layout.specs.Numerals.{ReadsValue, StartsNumber, ReadsSigned}

-- digits of a short text have a value that leaves room for one more
pub value_room : (text : List ℕ) (i : ℕ) → length text ≤ 12 → i < length text → AllDigits 10 (take i text) → digits_value 10 (take i text) < 10 ^ 11
value_room text i few less d =
    let short : length (take i text) ≤ 11 = omega (arith, length-take i text) in
    omega (arith, digits_value-lt 10 (take i text) d, pow-le-pow_right {n = 10} (omega arith) short)

-- one digit more
pub value_step : (text : List ℕ) (i : ℕ) → i < length text → IsInRange 48 57 (get_or text i 0) → 10 * digits_value 10 (take i text) + (get_or text i 0 - 48) ≡ digits_value 10 (take (i + 1) text)
value_step text i less digit = omega (arith, digits_value_more 10 text i less, digit_value_digit (get_or text i 0) digit)

-- another byte among them
pub no_digit : (text : List ℕ) (i : ℕ) → i < length text → IsOutOfRange 48 57 (get_or text i 0) → AllDigits 10 text → ⊥
no_digit text i less other d = omega (arith, digit_at text i d less)

own : IsNumeralModel (AllDigits 10) (digits_value 10)
own = numerals_by_value _ tells_digits

pub decimal_lt : (n : ℕ) → n < 2 ^ 64 → n < 10 ^ length (decimal n)
decimal_lt n fits =
    let reads = decimal_is_IsNumeral n fits in
    omega (arith, digits_value-lt 10 (decimal n) reads.0.1, reads.1)

first_digit : (n : ℕ) → suc n < 2 ^ 64 → (0 < length (decimal (suc n))) × IsInRange 49 57 (get_or (decimal (suc n)) 0 0)
first_digit n fits =
    let reads = (decimal_is_IsNumeral (suc n) fits).0 in
    (reads.0, (omega (arith, first_decimal (suc n) (omega arith) fits), omega (arith, digit_at (decimal (suc n)) 0 reads.1 reads.0)))

starts_signed : (z : ℤ) → mag z < 2 ^ 63 → StartsNumber (signed_decimal z)
starts_signed (pos zero) fits = let one : decimal 0 ≡ 48 ∷ [] = decimal_digit 0 (omega arith) in inl (rw one (refl, refl))
starts_signed (pos (suc n)) fits = inr (inl (first_digit n (omega arith)))
starts_signed (negsuc n) fits = let first = first_digit n (omega arith) in inr (inr (omega arith, refl, first.1))

pub signed_refused : (text : List ℕ) → (StartsNumber text → ⊥) → ReadsSigned text None
signed_refused text not = λ z fits is. not (rw is (starts_signed z fits))

-- digits with no zero in front are the decimal of their value
digits_plain : (ds : List ℕ) → AllDigits 10 ds → length ds ≤ 12 → 0 < length ds → (get_or ds 0 0 ≡ 48 → length ds ≡ 1) → (digits_value 10 ds < 10 ^ length ds) × (digits_value 10 ds < 10 ^ 12) × (decimal (digits_value 10 ds) ≡ ds)
digits_plain ds all few some alone =
    let least = digits_value-lt 10 ds all in
    let small : digits_value 10 ds < 10 ^ 12 = omega (arith, pow-le-pow_right {n = 10} (omega arith) few) in
    (least, small, decimal-digits_value own ds all some alone (omega arith))

plain_read : (text : List ℕ) (z : ℤ) → AllDigits 10 text → length text ≤ 12 → 0 < length text → (get_or text 0 0 ≡ 48 → length text ≡ 1) → z ≡ pos (digits_value 10 text) → ReadsSigned text (Some z)
plain_read text z all few some alone is = let plain = digits_plain text all few some alone in rw is (plain.1, sym plain.2)

minus_read : (b : ℕ) (ds : List ℕ) (z : ℤ) → AllDigits 10 ds → length ds ≤ 11 → 0 < length ds → b ≡ 45 → IsInRange 49 57 (get_or ds 0 0) → z ≡ neg_ℤ (pos (digits_value 10 ds)) → ReadsSigned (b ∷ ds) (Some z)
minus_read b ds z all few some minus digit is =
    let plain = digits_plain ds all (omega arith) some (λ e. absurd (omega arith)) in
    at (digits_value 10 ds) plain.1 plain.2 is
  where
    at : (n : ℕ) → n < 10 ^ 12 → decimal n ≡ ds → z ≡ neg_ℤ (pos n) → ReadsSigned (b ∷ ds) (Some z)
    at zero small same e = absurd (omega (arith, ap (λ l. get_or l 0 0) (sym (decimal_digit 0 (omega arith)) ∙ same)))
    at (suc n) small same e = rw e (omega arith, rw (minus, ← same) refl)

-- a short text of digits has a value of few digits
pub value_small : (text : List ℕ) (n : ℕ) → length text ≤ 12 → AllDigits 10 text → n ≡ digits_value 10 text → n < 10 ^ 12
value_small text n few all is = omega (arith, is, digits_value-lt 10 text all, pow-le-pow_right {n = 10} (omega arith) few)

no_minus : (n : ℕ) (text : List ℕ) → n < 2 ^ 64 → get_or text 0 0 ≡ 45 → text ≡ decimal n → ⊥
no_minus n text fits minus is =
    let reads = decimal_is_IsNumeral n fits in
    omega (arith, digit_at (decimal n) 0 reads.0.1 reads.0.0, ap (λ l. get_or l 0 0) is)

-- digits without a minus before them, and another byte among them
pub plain_found : (text : List ℕ) (n : ℕ) → length text ≤ 12 → StartsNumber text → (get_or text 0 0 ≡ 45 → ⊥) → ReadsValue text (Some n) → ReadsSigned text (Some (pos n))
plain_found text n few (inl alone) plain reads = plain_read text (pos n) reads.1.0 few (omega (arith, alone.0)) (λ e. alone.0) (ap pos reads.1.1)
plain_found text n few (inr (inl digit)) plain reads = plain_read text (pos n) reads.1.0 few digit.0 (λ e. absurd (omega (arith, digit.1))) (ap pos reads.1.1)
plain_found text n few (inr (inr minus)) plain reads = absurd (plain minus.1)

pub plain_none : (text : List ℕ) → (get_or text 0 0 ≡ 45 → ⊥) → ReadsValue text None → ReadsSigned text None
plain_none text plain not (pos n) fits is = not (rw is (decimal_is_IsNumeral n (omega arith)).0.1)
plain_none text plain not (negsuc n) fits is = plain (ap (λ l. get_or l 0 0) is)

-- digits behind a minus, and another byte among them
behind : (text rest : List ℕ) (n : ℕ) → length text ≤ 12 → StartsNumber text → text ≡ 45 ∷ rest → ReadsValue rest (Some n) → ReadsSigned (45 ∷ rest) (Some (neg_ℤ (pos n)))
behind text rest n few (inl alone) is reads = absurd (omega (arith, alone.1, ap (λ l. get_or l 0 0) is))
behind text rest n few (inr (inl digit)) is reads = absurd (omega (arith, digit.1, ap (λ l. get_or l 0 0) is))
behind text rest n few (inr (inr minus)) is reads =
    let long : length (45 ∷ rest) ≤ 12 = subst (λ t. length t ≤ 12) is few in
    let more : 1 < length (45 ∷ rest) = subst (λ t. 1 < length t) is minus.0 in
    minus_read 45 rest (neg_ℤ (pos n)) reads.1.0 (omega (arith, long)) (omega (arith, more)) refl (subst (λ t. IsInRange 49 57 (get_or t 1 0)) is minus.2) (ap (λ m. neg_ℤ (pos m)) reads.1.1)

pub minus_found : (text rest : List ℕ) (n : ℕ) → length text ≤ 12 → StartsNumber text → text ≡ 45 ∷ rest → ReadsValue rest (Some n) → ReadsSigned text (Some (neg_ℤ (pos n)))
minus_found text rest n few starts is reads = rw is (behind text rest n few starts is reads)

pub minus_none : (text rest : List ℕ) → text ≡ 45 ∷ rest → ReadsValue rest None → ReadsSigned text None
minus_none text rest minus not (pos n) fits is = no_minus n text (omega arith) (ap (λ l. get_or l 0 0) minus) is
minus_none text rest minus not (negsuc n) fits is =
    let same : rest ≡ decimal (suc n) = ap (drop 1) (sym minus ∙ is) in
    not (rw same (decimal_is_IsNumeral (suc n) (omega arith)).0.1)
