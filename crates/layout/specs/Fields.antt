-- The bytes of a field: a number in decimal, at the right of its columns.
use Rattle.std.specs.Prelude.{◌≡◌, ℕ, ◌-◌, ◌≤◌, List, [], ◌∷◌, ◌++◌, length, replicate, ℤ, pos, negsuc, ◌≤ℤ◌, Some, None, Option, ◌≢◌}
use Rattle.std.specs.Fmt.{signed_decimal}

-- a number in so many columns: blanks, then its decimal digits, with a minus before those of a negative one
abbrev pub field : ℕ → ℤ → List ℕ
field columns z = replicate (columns - length (signed_decimal z)) 32 ++ signed_decimal z

-- the fields of six columns of some numbers
abbrev pub fields : List ℕ → List ℕ
fields [] = []
fields (n ∷ ns) = field 6 (pos n) ++ fields ns

-- what six columns can hold, and twelve
abbrev pub Short : ℕ → Type 0
Short n = n ≤ 999_999

abbrev pub Long : ℤ → Type 0
Long z = (negsuc 99_999_999_998 ≤ℤ z) × (z ≤ℤ pos 999_999_999_999)

-- the reading of a field of six columns
abbrev pub ReadsNumber : List ℕ → Option ℕ → Type 0
ReadsNumber text (Some n) = Short n × (text ≡ field 6 (pos n))
ReadsNumber text None = (n : ℕ) → Short n → text ≢ field 6 (pos n)

-- and of one of twelve
abbrev pub ReadsCode : List ℕ → Option ℤ → Type 0
ReadsCode text (Some z) = Long z × (text ≡ field 12 z)
ReadsCode text None = (z : ℤ) → Long z → text ≢ field 12 z
