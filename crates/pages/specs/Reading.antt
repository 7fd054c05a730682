-- What the parts of a page are read as.
use Rattle.std.specs.Prelude.{◌≡◌, ℕ, ◌+◌, ◌<◌, ◌≤◌, ◌⊎◌, List, [], length, drop, Some, Ok, Err, vec_items, Result, Vec, ◌≢◌}
use Rattle.kinds.specs.Weights.{Weights}
use Rattle.kinds.specs.declared.refusal.KindRefusal.{KindRefusal}
use Rattle.kinds.specs.declared.refusal.KindRefusal.TheVariants.{NoWeight}
use Rattle.trees.specs.declared.refusal.Refusal.{Refusal}
use Rattle.trees.specs.Refusals.{FirstMet, NoneMet}
use Rattle.rules.specs.declared.measure.Measure.{Measure}
use Rattle.rules.specs.Measures.{ranks}
use Rattle.rules.specs.Books.{Book}
use Rattle.layout.specs.declared.line.Line.{Line}
use Rattle.layout.specs.Lines.{Entry, kind, table, accept, rule, end, Fits, Begins, Says}
use Rattle.pages.specs.declared.at.At.{At}
use Rattle.pages.specs.declared.cursor.Cursor.{Cursor}
use Rattle.pages.specs.declared.fault.Fault.{Fault}
use Rattle.pages.specs.declared.fault.Fault.TheVariants.{Layout, Table}
use Rattle.pages.specs.declared.named.Named.{Named}
use Rattle.pages.specs.declared.named.Named.TheVariants.{Marks, Residues, Costs}
use Rattle.pages.specs.declared.trouble.Trouble.{Trouble}
use Rattle.pages.specs.declared.trouble.Trouble.TheVariants.{Fault as refused, NoMemory}
use Rattle.pages.specs.Texts.{measure_tests, SpellsWeight, Enters, Refuses}
use Rattle.pages.specs.Pages.{Faulty, ByKind, Known, FitsPage, FirstFault}
use Rattle.pages.specs.Answering.{Judged}
use Rattle.pages.specs.Runs.{closed, stopped, Run}

-- the weight of a field, or that it has none
abbrev pub ReadsWeight : {V W : Type 0} → Weights W → (V → W) → List ℕ → Result V KindRefusal → Type 0
ReadsWeight K stands bytes (Ok v) = SpellsWeight K bytes (stands v)
ReadsWeight {V} {W} K stands bytes (Err e) = (e ≡ NoWeight) × ((x : W) → SpellsWeight K bytes x → ⊥)

-- a result with the line of its error
abbrev pub placed : {T E : Type 0} → ℕ → Result T E → Result T (At E)
placed line (Ok v) = Ok v
placed line (Err e) = Err (record { line = line; error = e })

-- a line is let into the book, or refused
abbrev pub Entered : {T W : Type 0} → Weights W → Book W → Entry → ℕ → Book W → Result T Trouble → Type 0
Entered K b e line b' (Ok v) = Enters K b e b'
Entered K b e line b' (Err (refused f)) = Refuses K (Some b) e line f
Entered K b e line b' (Err NoMemory) = Unit {0}

-- the same of what a line says that does not end a table
abbrev pub EnteredLine : {W : Type 0} → Weights W → Book W → Line → ℕ → Book W → Result (Unit {0}) Trouble → Type 0
EnteredLine K b line n b' r = (e : Entry) → Says line e → Fits e → (e ≢ end) → Entered K b e n b' r

-- from one line to the next
pub record Steps (page : List ℕ) (c : Cursor) (e : Entry) (c' : Cursor) : Type 0 where
  pub begins : Begins (drop c.at page) e (drop c'.at page)
  pub further : c.at < c'.at
  pub within : c'.at ≤ length page
  pub number : c'.line ≡ c.line + 1

-- the next line, or that none is in the layout
abbrev pub ReadsNext : List ℕ → Cursor → Cursor → Result Line Fault → Type 0
ReadsNext page c c' (Ok line) = (e : Entry) × Steps page c e c' × Says line e
ReadsNext page c c' (Err f) = (f ≡ Layout c.line) × ((e : Entry) (more : List ℕ) → Begins (drop c.at page) e more → ⊥)

-- the lines up to the end of a table are let into the book, or one is refused
abbrev pub FillsRest : {W : Type 0} → Weights W → List ℕ → Cursor → Cursor → Book W → Book W → Result (Unit {0}) Trouble → Type 0
FillsRest K page c c' b b' (Ok u) = (es : List Entry) × Run K (Some b) (drop c.at page) c.line es (closed b' (drop c'.at page)) × (c'.line ≡ c.line + length es + 1) × (c'.at ≤ length page)
FillsRest K page c c' b b' (Err (refused f)) = (es : List Entry) × Run K (Some b) (drop c.at page) c.line es (stopped f)
FillsRest K page c c' b b' (Err NoMemory) = Unit {0}

-- a measure with these ranks and states, or the refusal of one of them
abbrev pub Measures : List ℕ → ℕ → ℕ → Result Measure Trouble → Type 0
Measures rs n line (Ok m) = NoneMet (measure_tests rs n) × (ranks m ≡ rs) × (m.states ≡ n)
Measures rs n line (Err (refused f)) = (r : Refusal) × FirstMet (measure_tests rs n) r × (f ≡ Table line r)
Measures rs n line (Err NoMemory) = Unit {0}

-- an entry is refused as the first line of a table
abbrev pub RefusesFirst : Entry → ℕ → Fault → Type 0
RefusesFirst (table n rs) line f = (r : Refusal) × FirstMet (measure_tests rs n) r × (f ≡ Table line r)
RefusesFirst (kind n) line f = f ≡ Layout line
RefusesFirst (accept q) line f = f ≡ Layout line
RefusesFirst (rule s t weight qs) line f = f ≡ Layout line
RefusesFirst end line f = f ≡ Layout line

-- the measure of the table that begins in the next line, or why none begins there
abbrev pub MeasuresNext : List ℕ → Cursor → Cursor → Result Measure Trouble → Type 0
MeasuresNext page c c' (Ok m) = Steps page c (table m.states (ranks m)) c' × NoneMet (measure_tests (ranks m) m.states)
MeasuresNext page c c' (Err (refused f)) =
    ((e : Entry) × (more : List ℕ) × Begins (drop c.at page) e more × RefusesFirst e c.line f)
    ⊎ (((e : Entry) (more : List ℕ) → Begins (drop c.at page) e more → ⊥) × (f ≡ Layout c.line))
MeasuresNext page c c' (Err NoMemory) = Unit {0}

-- no byte follows
abbrev pub ReadsEnd : List ℕ → Cursor → Result (Unit {0}) Fault → Type 0
ReadsEnd page c (Ok u) = drop c.at page ≡ []
ReadsEnd page c (Err f) = (f ≡ Layout c.line) × (drop c.at page ≢ [])

abbrev pub number_of : Named → ℕ
number_of Marks = 1
number_of Residues = 2
number_of Costs = 3

-- the kind with a number
abbrev pub Names : {E : Type 0} → ℕ → Result Named E → Type 0
Names n (Ok k) = number_of k ≡ n
Names n (Err e) = Known n → ⊥

-- the kind that the page names and the rest of the page, or its first fault
abbrev pub ReadsKind : List ℕ → Result (Named × Cursor) Fault → Type 0
ReadsKind page (Ok r) = FitsPage page × Begins page (kind (number_of r.0)) (drop r.1.at page) × (r.1.line ≡ 2)
ReadsKind page (Err f) = FirstFault page f

-- what ends the reading of the tables early: the first fault in their lines, or want of memory
abbrev pub Fails : {W : Type 0} → Weights W → List ℕ → Trouble → Type 0
Fails K bytes (refused f) = Faulty K bytes f
Fails K bytes NoMemory = Unit {0}

-- the verdict on two tables with nothing behind them, or why there is none
abbrev pub AnswersTables : {W Z : Type 0} → Weights W → List ℕ → Cursor → Result (Vec ℕ Z) Trouble → Type 0
AnswersTables K page c (Ok out) = Judged (vec_items out) K (drop c.at page)
AnswersTables K page c (Err x) = Fails K (drop c.at page) x

-- the verdict on the tables of a page, or its first fault
abbrev pub AnswersPage : {Z : Type 0} → List ℕ → Result (Vec ℕ Z) Trouble → Type 0
AnswersPage page (Ok out) =
    (n : ℕ) × (more : List ℕ) × FitsPage page × Begins page (kind n) more × ByKind (λ W K. Judged (vec_items out) K more) n
AnswersPage page (Err (refused f)) = FirstFault page f
AnswersPage page (Err NoMemory) = Unit {0}
