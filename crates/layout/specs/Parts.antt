-- The parts of a line, as they are read.
use Rattle.std.specs.Prelude.{◌≡◌, ℕ, ◌<◌, ◌≤◌, List, length, Some, None, Option, ◌≢◌, slice_index}
use Rattle.std.specs.List.{AllByRecursion}
use Rattle.layout.specs.declared.line.Line.{Line}
use Rattle.layout.specs.Fields.{fields, Short}
use Rattle.layout.specs.Lines.{Entry, written, Fits, Says}

-- the part is the fields of some numbers
abbrev pub Numbers : List ℕ → Type 0
Numbers part = (ns : List ℕ) × AllByRecursion Short ns × (part ≡ fields ns)

-- the part has at most four fields of six columns
abbrev pub Few : List ℕ → Type 0
Few part = length part ≤ 24

-- no byte of the text ends a line
abbrev pub Unbroken : List ℕ → Type 0
Unbroken text = (k : ℕ) → k < length text → slice_index text k ≢ 10

-- what the text of a line says
abbrev pub ReadsEntry : List ℕ → Option Line → Type 0
ReadsEntry text (Some l) = (e : Entry) × Fits e × (text ≡ written e) × Says l e
ReadsEntry text None = (e : Entry) → Fits e → text ≢ written e

-- where the first line ends
abbrev pub Ends : List ℕ → Option ℕ → Type 0
Ends text (Some k) = (k < length text) × (slice_index text k ≡ 10) × ((j : ℕ) → j < k → slice_index text j ≢ 10)
Ends text None = Unbroken text
