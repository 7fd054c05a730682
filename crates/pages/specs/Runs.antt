-- Runs through the lines of a table.
use Rattle.std.specs.Prelude.{◌≡◌, ℕ, ◌+◌, ◌⊎◌, List, [], ◌∷◌, ◌++◌, length, Some, None, Option}
use Rattle.std.specs.List.{AllByRecursion}
use Rattle.kinds.specs.Weights.{Weights}
use Rattle.trees.specs.Refusals.{NoneMet}
use Rattle.rules.specs.Books.{Book, opened}
use Rattle.layout.specs.Lines.{Entry, kind, table, accept, rule, end, Fits, Begins}
use Rattle.pages.specs.declared.fault.Fault.{Fault}
use Rattle.pages.specs.declared.fault.Fault.TheVariants.{Layout}
use Rattle.pages.specs.Texts.{rule_places, lines, measure_tests, Enters, Refuses}

-- a line is let in where nothing stands yet, or behind the book so far
abbrev pub EntersAt : {W : Type 0} → Weights W → Option (Book W) → Entry → Option (Book W) → Type 0
EntersAt K None (table n ranks) at = NoneMet (measure_tests ranks n) × (at ≡ Some (opened ranks n rule_places))
EntersAt K None (kind n) at = ⊥
EntersAt K None (accept q) at = ⊥
EntersAt K None (rule s t weight qs) at = ⊥
EntersAt K None end at = ⊥
EntersAt {W} K (Some b) e at = (c : Book W) × Enters K b e c × (at ≡ Some c)

abbrev pub Passes : {W : Type 0} → Weights W → Option (Book W) → List Entry → Option (Book W) → Type 0
Passes K at [] at' = at' ≡ at
Passes {W} K at (e ∷ es) at' = (between : Option (Book W)) × EntersAt K at e between × Passes K between es at'

-- how a run ends: with a book and the bytes behind its last line, or at a fault
pub data Outcome (W : Type 0) : Type 0 where
  closed : Book W → List ℕ → Outcome W
  stopped : Fault → Outcome W

abbrev pub Ends : {W : Type 0} → Weights W → Option (Book W) → List ℕ → ℕ → Outcome W → Type 0
Ends {W} K at rest line out =
    ((b : Book W) × (more : List ℕ) × Begins rest end more × (at ≡ Some b) × (out ≡ closed b more))
    ⊎ (((e : Entry) × (more : List ℕ) × (f : Fault) × Begins rest e more × Refuses K at e line f × (out ≡ stopped f))
    ⊎ (((e : Entry) (more : List ℕ) → Begins rest e more → ⊥) × (out ≡ stopped (Layout line))))

-- the bytes are lines that are let in, then the end of the run
pub record Run {W : Type 0} (K : Weights W) (at : Option (Book W)) (bytes : List ℕ) (line : ℕ) (es : List Entry) (out : Outcome W) : Type 0 where
  pub last : Option (Book W)
  pub rest : List ℕ
  pub fit : AllByRecursion Fits es
  pub spelled : bytes ≡ lines es ++ rest
  pub passes : Passes K at es last
  pub ends : Ends K last rest (line + length es) out
