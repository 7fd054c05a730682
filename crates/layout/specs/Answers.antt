-- The lines that are written, and the numbers that are read of a part.
use Rattle.std.specs.Prelude.{◌≡◌, ℕ, List, [], ◌∷◌, ◌++◌, ℤ, pos, Some, None, Option}
use Rattle.std.specs.List.{AllByRecursion}
use Rattle.layout.specs.Fields.{field, fields, Short}

-- where the part is the fields of short numbers, these are the numbers
abbrev pub ReadsNumbers : List ℕ → List ℕ → Type 0
ReadsNumbers part numbers = (ns : List ℕ) → AllByRecursion Short ns → part ≡ fields ns → numbers ≡ ns

-- a letter and the fields of numbers
abbrev pub number_line : ℕ → List ℕ → List ℕ
number_line letter ns = letter ∷ fields ns ++ 10 ∷ []

-- the weight of a tree in a table: its code, or that it has none
abbrev pub weight_line : ℕ → Option ℤ → List ℕ
weight_line t (Some z) = 87 ∷ fields (t ∷ 1 ∷ []) ++ field 12 z ++ 10 ∷ []
weight_line t None = 87 ∷ fields (t ∷ 0 ∷ []) ++ field 12 (pos 0) ++ 10 ∷ []
