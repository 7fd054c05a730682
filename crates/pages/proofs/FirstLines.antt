-- The first line of a table: its measure, or why it has none.
use Rattle.std.proofs.Common.{◌≡◌, ℕ, List, drop, Ok, Err, Result, sym, refl, ◌∙◌, subst, ap₂, subst₂, inl, Bor}
use Rattle.trees.specs.Refusals.{NoneMet}
use Rattle.rules.specs.declared.measure.Measure.{Measure}
use Rattle.rules.specs.Measures.{ranks}
use Rattle.layout.specs.declared.line.Line.{Line}
use Rattle.layout.specs.declared.line.Line.TheVariants.{Table}
use Rattle.layout.specs.Answers.{ReadsNumbers}
use Rattle.layout.specs.Lines.{Entry, table, Fits, Says, says_kind, says_table, says_accept, says_rule, says_end}
use Rattle.pages.specs.declared.cursor.Cursor.{Cursor}
use Rattle.pages.specs.declared.fault.Fault.TheVariants.{Layout}
use Rattle.pages.specs.declared.trouble.Trouble.{Trouble}
use Rattle.pages.specs.declared.trouble.Trouble.TheVariants.{Fault as refused, NoMemory}
use Rattle.pages.specs.Reading.{Steps, Measures, RefusesFirst, MeasuresNext}
use Rattle.pages.specs.Texts.{measure_tests}
use Rattle.pages.proofs.Said.{said_table}

-- a line that begins no table
first_misplaced : (l : Line) (n : ℕ) (e : Entry) → ((k : ℕ) (part : Bor (List ℕ)) → l ≡ Table k part → ⊥) → Says l e → RefusesFirst e n (Layout n)
first_misplaced l n e other (says_kind k) = refl
first_misplaced l n e other (says_table k part ranks x) = absurd (other k part refl)
first_misplaced l n e other (says_accept q) = refl
first_misplaced l n e other (says_rule s t w p qs x) = refl
first_misplaced l n e other says_end = refl

pub first_refused : (page : List ℕ) (c c' : Cursor) (l : Line) (line : ℕ) (e : Entry) → Steps page c e c' → Says l e → ((k : ℕ) (part : Bor (List ℕ)) → l ≡ Table k part → ⊥) → line ≡ c.line → MeasuresNext page c c' (Err (refused (Layout line)))
first_refused page c c' l line e steps says other number =
    inl (e, drop c'.at page, steps.begins, subst (λ n. RefusesFirst e n (Layout line)) number (first_misplaced l line e other says))

-- a line that begins a table, and the measure of what it says
pub first_measured : (page : List ℕ) (c c' : Cursor) (l : Line) (n : ℕ) (part : Bor (List ℕ)) (numbers rs : List ℕ) (e : Entry) (line : ℕ) (r : Result Measure Trouble) → Steps page c e c' → Says l e → l ≡ Table n part → ReadsNumbers part.now numbers → rs ≡ numbers → line ≡ c.line → Measures rs n line r → MeasuresNext page c c' r
first_measured page c c' l n part numbers rs e line (Ok m) steps says is reads same number x =
    let said = said_table l n part e is says in
    let fits = subst Fits said.1 steps.begins.fits in
    let are : rs ≡ said.0 = same ∙ reads said.0 fits.1 said.2 in
    let entry : e ≡ table m.states (ranks m) = said.1 ∙ ap₂ table (sym x.2) (sym are ∙ sym x.1) in
    (subst (λ a. Steps page c a c') entry steps, subst₂ (λ a k. NoneMet (measure_tests a k)) (sym x.1) (sym x.2) x.0)
first_measured page c c' l n part numbers rs e line (Err (refused f)) steps says is reads same number x =
    let said = said_table l n part e is says in
    let fits = subst Fits said.1 steps.begins.fits in
    let are : rs ≡ said.0 = same ∙ reads said.0 fits.1 said.2 in
    let why : RefusesFirst (table n said.0) c.line f = subst₂ (λ a k. RefusesFirst (table n a) k f) are number x in
    inl (e, drop c'.at page, steps.begins, subst (λ a. RefusesFirst a c.line f) (sym said.1) why)
first_measured page c c' l n part numbers rs e line (Err NoMemory) steps says is reads same number x = tt
