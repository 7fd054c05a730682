-- Texts of digits and of blanks, as the parts of a field are read.
use Rattle.std.specs.Prelude.{◌≡◌, ℕ, ◌-◌, ◌^◌, ◌<◌, ◌≤◌, ◌⊎◌, List, ◌∷◌, ◌++◌, length, replicate, ℤ, Some, None, Option, ◌≢◌, slice_index_or}
use Rattle.std.specs.Int.{IsInRange}
use Rattle.std.specs.Int.Signed.{mag}
use Rattle.std.specs.Str.Parse.{AllDigits, digits_value}
use Rattle.std.specs.Fmt.{signed_decimal}
use Rattle.layout.specs.Fields.{field}

-- the value of a short text of digits, if nothing else stands in it
abbrev pub ReadsValue : List ℕ → Option ℕ → Type 0
ReadsValue text (Some n) = (n < 10 ^ 12) × (AllDigits 10 text × (n ≡ digits_value 10 text))
ReadsValue text None = AllDigits 10 text → ⊥

-- what stands behind the minus with which a text begins
abbrev pub BehindMinus : List ℕ → Option (List ℕ) → Type 0
BehindMinus text (Some rest) = text ≡ 45 ∷ rest
BehindMinus text None = slice_index_or text 0 0 ≢ 45

-- a zero alone, another digit, or a minus before one
abbrev pub StartsNumber : List ℕ → Type 0
StartsNumber text =
    ((length text ≡ 1) × (slice_index_or text 0 0 ≡ 48))
    ⊎ (((0 < length text) × IsInRange 49 57 (slice_index_or text 0 0))
    ⊎ ((1 < length text) × (slice_index_or text 0 0 ≡ 45) × IsInRange 49 57 (slice_index_or text 1 0)))

-- the number whose decimal digits the text is, with a minus before those of a negative one
abbrev pub ReadsSigned : List ℕ → Option ℤ → Type 0
ReadsSigned text (Some z) = (mag z < 10 ^ 12) × (text ≡ signed_decimal z)
ReadsSigned text None = (z : ℤ) → mag z < 2 ^ 63 → text ≢ signed_decimal z

-- the number at the right of so many columns
abbrev pub ReadsField : ℕ → List ℕ → Option ℤ → Type 0
ReadsField columns text (Some z) = (mag z < 10 ^ 12) × (length (signed_decimal z) ≤ columns) × (text ≡ field columns z)
ReadsField columns text None = (z : ℤ) → mag z < 2 ^ 63 → length (signed_decimal z) ≤ columns → text ≢ field columns z

-- the text is blanks and then the rest, which does not begin with one
pub record Padded (text rest : List ℕ) : Type 0 where
  pub blanks : text ≡ replicate (length text - length rest) 32 ++ rest
  pub first : slice_index_or rest 0 0 ≡ 32 → ⊥
