-- Tables as their lines spell them, and where the lines of a table are refused.
use Rattle.std.specs.Prelude.{◌≡◌, ℕ, ◌+◌, ◌<◌, ◌⊎◌, List, [], ◌∷◌, ◌++◌, length, Some, None, Option}
use Rattle.std.specs.List.{AllByRecursion}
use Rattle.kinds.specs.Weights.{Weights}
use Rattle.kinds.specs.declared.refusal.KindRefusal.TheVariants.{NoWeight}
use Rattle.trees.specs.declared.refusal.Refusal.{Refusal}
use Rattle.trees.specs.declared.refusal.Refusal.TheVariants.{States}
use Rattle.trees.specs.Refusals.{Test, when, checks, FirstMet, NoneMet}
use Rattle.trees.specs.Alphabets.{bad_ranks}
use Rattle.rules.specs.Books.{Book, opened, accept_checks, accepted, add_checks, added}
use Rattle.layout.specs.Fields.{field}
use Rattle.layout.specs.Lines.{Entry, kind, table, accept, rule, end, written, Fits, Begins}
use Rattle.pages.specs.declared.fault.Fault.{Fault}
use Rattle.pages.specs.declared.fault.Fault.TheVariants.{Layout, Kind, Table}

-- how many rules a table of a page can have
abbrev pub rule_places : ℕ
rule_places = 1024

-- the bytes of lines, one after another
abbrev pub lines : List Entry → List ℕ
lines [] = []
lines (e ∷ es) = written e ++ 10 ∷ lines es

-- a table as it is written: its number of states, its ranks, and the lines between the first and the last
pub record Text : Type 0 where
  pub states : ℕ
  pub ranks : List ℕ
  pub body : List Entry

abbrev pub entries : Text → List Entry
entries t = table t.states t.ranks ∷ t.body ++ end ∷ []

-- the tests of a measure
abbrev pub measure_tests : List ℕ → ℕ → List Test
measure_tests ranks states = bad_ranks ranks ∷ when (48 < states) States ∷ []

-- the bytes of a weight field spell the weight
abbrev pub SpellsWeight : {W : Type 0} → Weights W → List ℕ → W → Type 0
SpellsWeight K bytes x = bytes ≡ field 12 (K.code x)

-- a line is let into the book b, and makes it b'
abbrev pub Enters : {W : Type 0} → Weights W → Book W → Entry → Book W → Type 0
Enters K b (accept q) b' = NoneMet (checks (accept_checks b q)) × (b' ≡ accepted b q)
Enters {W} K b (rule s t weight qs) b' =
    (x : W) × SpellsWeight K weight x × NoneMet (checks (add_checks b s qs t)) × (b' ≡ added b (record { symbol = s; children = qs; target = t; weight = x }))
Enters K b (kind n) b' = ⊥
Enters K b (table n ranks) b' = ⊥
Enters K b end b' = ⊥

abbrev pub Fills : {W : Type 0} → Weights W → Book W → List Entry → Book W → Type 0
Fills K b [] b' = b' ≡ b
Fills {W} K b (e ∷ es) b' = (c : Book W) × Enters K b e c × Fills K c es b'

-- a text that no test refuses tells a book
pub record Tells {W : Type 0} (K : Weights W) (t : Text) (b : Book W) : Type 0 where
  pub measured : NoneMet (measure_tests t.ranks t.states)
  pub filled : Fills K (opened t.ranks t.states rule_places) t.body b

-- the bytes begin with the lines of such a text, and the others follow
pub record Told {W : Type 0} (K : Weights W) (bytes : List ℕ) (t : Text) (b : Book W) (more : List ℕ) : Type 0 where
  pub fit : AllByRecursion Fits (entries t)
  pub spelled : bytes ≡ lines (entries t) ++ more
  pub tells : Tells K t b

-- the first lines of a table: none, or its first and some of its body, with the book so far
abbrev pub Begun : {W : Type 0} → Weights W → List Entry → Option (Book W) → Type 0
Begun K [] at = at ≡ None
Begun {W} K (table n ranks ∷ es) at =
    (b : Book W) × NoneMet (measure_tests ranks n) × Fills K (opened ranks n rule_places) es b × (at ≡ Some b)
Begun K (kind n ∷ es) at = ⊥
Begun K (accept q ∷ es) at = ⊥
Begun K (rule s t weight qs ∷ es) at = ⊥
Begun K (end ∷ es) at = ⊥

-- an entry is refused as the next line of a table: out of place, by the kind, then by the table
abbrev pub Refuses : {W : Type 0} → Weights W → Option (Book W) → Entry → ℕ → Fault → Type 0
Refuses K None (table n ranks) line f = (r : Refusal) × FirstMet (measure_tests ranks n) r × (f ≡ Table line r)
Refuses K None (kind n) line f = f ≡ Layout line
Refuses K None (accept q) line f = f ≡ Layout line
Refuses K None (rule s t weight qs) line f = f ≡ Layout line
Refuses K None end line f = f ≡ Layout line
Refuses K (Some b) (accept q) line f = (r : Refusal) × FirstMet (checks (accept_checks b q)) r × (f ≡ Table line r)
Refuses {W} K (Some b) (rule s t weight qs) line f =
    (((x : W) → SpellsWeight K weight x → ⊥) × (f ≡ Kind line NoWeight))
    ⊎ ((x : W) × SpellsWeight K weight x × (r : Refusal) × FirstMet (checks (add_checks b s qs t)) r × (f ≡ Table line r))
Refuses K (Some b) (kind n) line f = f ≡ Layout line
Refuses K (Some b) (table n ranks) line f = f ≡ Layout line
Refuses K (Some b) end line f = ⊥

-- a table that begins in the given line stops at the fault f: the lines before were let in, and the next is refused or is none
pub record Stops {W : Type 0} (K : Weights W) (bytes : List ℕ) (line : ℕ) (f : Fault) : Type 0 where
  pub before : List Entry
  pub so_far : Option (Book W)
  pub rest : List ℕ
  pub fit : AllByRecursion Fits before
  pub spelled : bytes ≡ lines before ++ rest
  pub begun : Begun K before so_far
  pub cause : ((e : Entry) × (more : List ℕ) × Begins rest e more × Refuses K so_far e (line + length before) f) ⊎ (((e : Entry) (more : List ℕ) → Begins rest e more → ⊥) × (f ≡ Layout (line + length before)))
