-- What a page spells, and its first fault.
use Rattle.std.specs.Prelude.{ℕ, ◌+◌, ◌≤◌, List, [], length, ◌≢◌}
use Rattle.kinds.specs.Weights.{Weights}
use Rattle.kinds.specs.declared.marks.Marks.{Marks}
use Rattle.kinds.specs.declared.residue.Residue.{Residue}
use Rattle.kinds.specs.declared.cost.Cost.{Cost}
use Rattle.kinds.specs.Marks.{marks}
use Rattle.kinds.specs.Residues.{residues}
use Rattle.kinds.specs.Costs.{costs}
use Rattle.trees.specs.declared.refusal.Refusal.TheVariants.{Alphabets}
use Rattle.rules.specs.Books.{Book}
use Rattle.layout.specs.Lines.{kind, Begins}
use Rattle.pages.specs.declared.fault.Fault.{Fault}
use Rattle.pages.specs.declared.fault.Fault.TheVariants.{Layout, Table}
use Rattle.pages.specs.Texts.{Text, entries, Told, Stops}

-- the bytes are the lines of two tables with these books
pub record TwoTables {W : Type 0} (K : Weights W) (bytes : List ℕ) (b c : Book W) : Type 0 where
  pub first : Text
  pub second : Text
  pub between : List ℕ
  pub first_told : Told K bytes first b between
  pub second_told : Told K between second c []

-- the first fault behind the line of the kind
pub data Faulty {W : Type 0} (K : Weights W) (bytes : List ℕ) : Fault → Type 0 where
  in_first : {f : Fault} → Stops K bytes 2 f → Faulty K bytes f
  in_second : {f : Fault} (t : Text) (b : Book W) (more : List ℕ) → Told K bytes t b more → Stops K more (2 + length (entries t)) f → Faulty K bytes f
  behind : (t u : Text) (b c : Book W) (more rest : List ℕ) → Told K bytes t b more → Told K more u c rest → (rest ≢ []) → Faulty K bytes (Layout (2 + length (entries t) + length (entries u)))
  unlike : (b c : Book W) → TwoTables K bytes b c → (b.content.ranks ≢ c.content.ranks) → Faulty K bytes (Table 0 Alphabets)

-- what holds of the kind with this number
pub data ByKind (P : (W : Type 0) → Weights W → Type 0) : ℕ → Type 0 where
  by_marks : P Marks marks → ByKind P 1
  by_residues : P Residue residues → ByKind P 2
  by_costs : P Cost costs → ByKind P 3

abbrev pub Known : ℕ → Type 0
Known n = (1 ≤ n) × (n ≤ 3)

-- a page has at most 65,536 bytes
abbrev pub FitsPage : List ℕ → Type 0
FitsPage page = length page ≤ 65_536

-- the first fault of a page: its length, the line of the kind, then the lines of the tables in order
pub data FirstFault (page : List ℕ) : Fault → Type 0 where
  too_long : (FitsPage page → ⊥) → FirstFault page (Layout 0)
  no_kind : FitsPage page → ((n : ℕ) (more : List ℕ) → Begins page (kind n) more → Known n → ⊥) → FirstFault page (Layout 1)
  in_tables : {f : Fault} (n : ℕ) (more : List ℕ) → FitsPage page → Begins page (kind n) more → ByKind (λ W K. Faulty K more f) n → FirstFault page f
