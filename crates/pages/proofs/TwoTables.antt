-- Two tables, one behind the other, and the first fault in their lines.
use Rattle.std.proofs.Common.{◌≡◌, ℕ, ◌+◌, List, length, drop, Ok, Err, Result, Vec, sym, ap, ◌∙◌, subst}
use Rattle.kinds.specs.Weights.{Weights}
use Rattle.rules.specs.declared.measure.Measure.{Measure}
use Rattle.rules.specs.Measures.{ranks}
use Rattle.rules.specs.Books.{Book, Opens}
use Rattle.tables.specs.Histories.{book}
use Rattle.pages.specs.declared.cursor.Cursor.{Cursor}
use Rattle.pages.specs.declared.fault.Fault.{Fault}
use Rattle.pages.specs.declared.fault.Fault.TheVariants.{Layout}
use Rattle.pages.specs.declared.trouble.Trouble.{Trouble}
use Rattle.pages.specs.declared.trouble.Trouble.TheVariants.{Fault as refused, NoMemory}
use Rattle.pages.specs.Texts.{rule_places, entries, Told, Stops}
use Rattle.pages.specs.Pages.{TwoTables, Faulty, in_first, in_second, behind, unlike}
use Rattle.pages.specs.Reading.{FillsRest, MeasuresNext, ReadsEnd, Fails, AnswersTables}
use Rattle.pages.specs.Judging.{ByHistories, Judges}
use Rattle.pages.proofs.Tabled.{Tabled, measure_stops, fill_stops, table_read}

-- what is read of a cursor's page is read of the same page
pub measures_on : (p page : List ℕ) (c c' : Cursor) (r : Result Measure Trouble) → p ≡ page → MeasuresNext p c c' r → MeasuresNext page c c' r
measures_on p page c c' r same x = subst (λ q. MeasuresNext q c c' r) same x

pub fills_on : {W : Type 0} (K : Weights W) (p page : List ℕ) (c c' : Cursor) (b b' : Book W) (r : Result (Unit {0}) Trouble) → p ≡ page → FillsRest K p c c' b b' r → FillsRest K page c c' b b' r
fills_on K p page c c' b b' r same x = subst (λ q. FillsRest K q c c' b b' r) same x

pub ends_on : (p page : List ℕ) (c : Cursor) (r : Result (Unit {0}) Fault) → p ≡ page → ReadsEnd p c r → ReadsEnd page c r
ends_on p page c r same x = subst (λ q. ReadsEnd q c r) same x

module _ {W : Type 0} (K : Weights W) (page : List ℕ) where
  -- a table is opened in so many places
  opened_in : (m : Measure) (b : Book W) (places : ℕ) → places ≡ rule_places → Opens (ranks m) m.states places b → Opens (ranks m) m.states rule_places b
  opened_in m b places enough opens = subst (λ n. Opens (ranks m) m.states n b) enough opens

  -- and filled and closed
  pub tabled : (c c' c'' : Cursor) (m : Measure) (b b' b'' : Book W) (places : ℕ) → MeasuresNext page c c' (Ok m) → places ≡ rule_places → Opens (ranks m) m.states places b → FillsRest K page c' c'' b b' (Ok tt) → b'' ≡ b' → Tabled K page c c'' b''
  tabled c c' c'' m b b' b'' places first enough opens fills closes =
      subst (Tabled K page c c'') (sym closes) (table_read K page c c' c'' m b b' first (opened_in m b places enough opens) fills)

  -- where the first table stops
  first_stops : (c : Cursor) (f : Fault) → c.line ≡ 2 → Stops K (drop c.at page) c.line f → Faulty K (drop c.at page) f
  first_stops c f two stops = in_first (subst (λ n. Stops K (drop c.at page) n f) two stops)

  pub first_measure_fails : (c c' : Cursor) (x : Trouble) → c.line ≡ 2 → MeasuresNext page c c' (Err x) → Fails K (drop c.at page) x
  first_measure_fails c c' (refused f) two x = first_stops c f two (measure_stops K page c c' f x)
  first_measure_fails c c' NoMemory two x = tt

  pub first_fill_fails : (c c' c'' : Cursor) (m : Measure) (b b' : Book W) (places : ℕ) (x : Trouble) → c.line ≡ 2 → MeasuresNext page c c' (Ok m) → places ≡ rule_places → Opens (ranks m) m.states places b → FillsRest K page c' c'' b b' (Err x) → Fails K (drop c.at page) x
  first_fill_fails c c' c'' m b b' places (refused f) two first enough opens x =
      first_stops c f two (fill_stops K page c c' c'' m b b' f first (opened_in m b places enough opens) x)
  first_fill_fails c c' c'' m b b' places NoMemory two first enough opens x = tt

  module _ (c d : Cursor) (b : Book W) (two : c.line ≡ 2) (first : Tabled K page c d b) where
    second_line : d.line ≡ 2 + length (entries first.text)
    second_line = first.number ∙ ap (λ n. n + length (entries first.text)) two

    -- where the second table stops
    second_stops : (f : Fault) → Stops K (drop d.at page) d.line f → Faulty K (drop c.at page) f
    second_stops f stops =
        in_second first.text b (drop d.at page) first.told (subst (λ n. Stops K (drop d.at page) n f) second_line stops)

    pub second_measure_fails : (d' : Cursor) (x : Trouble) → MeasuresNext page d d' (Err x) → Fails K (drop c.at page) x
    second_measure_fails d' (refused f) x = second_stops f (measure_stops K page d d' f x)
    second_measure_fails d' NoMemory x = tt

    pub second_fill_fails : (d' d'' : Cursor) (m : Measure) (e e' : Book W) (places : ℕ) (x : Trouble) → MeasuresNext page d d' (Ok m) → places ≡ rule_places → Opens (ranks m) m.states places e → FillsRest K page d' d'' e e' (Err x) → Fails K (drop c.at page) x
    second_fill_fails d' d'' m e e' places (refused f) measured enough opens x =
        second_stops f (fill_stops K page d d' d'' m e e' f measured (opened_in m e places enough opens) x)
    second_fill_fails d' d'' m e e' places NoMemory measured enough opens x = tt

    module _ (d'' : Cursor) (e : Book W) (second : Tabled K page d d'' e) where
      pub end_fails : (f : Fault) → ReadsEnd page d'' (Err f) → Fails K (drop c.at page) (refused f)
      end_fails f x =
          let line : d''.line ≡ 2 + length (entries first.text) + length (entries second.text) =
          second.number ∙ ap (λ n. n + length (entries second.text)) second_line in
          subst (Faulty K (drop c.at page)) (sym (x.0 ∙ ap Layout line)) (behind first.text second.text b e (drop d.at page) (drop d''.at page) first.told second.told x.1)

      both_read : ReadsEnd page d'' (Ok tt) → TwoTables K (drop c.at page) b e
      both_read x = record {
        first = first.text;
        second = second.text;
        between = drop d.at page;
        first_told = first.told;
        second_told = subst (Told K (drop d.at page) second.text e) x second.told;
      }

      -- what is judged of the tables is judged of the books that their lines tell
      pub judged : {Z : Type 0} (r : Result (Vec ℕ Z) Trouble) → ReadsEnd page d'' (Ok tt) → ByHistories K b e (λ x y. Judges K x y r) → AnswersTables K page c r
      judged {Z = Z} r x j =
          by r (subst (λ y. Judges K b y r) second.booked (subst (λ z. Judges K z (book second.opened_as second.calls) r) first.booked (j first.opened_as first.calls first.lived second.opened_as second.calls second.lived)))
        where
          by : (s : Result (Vec ℕ Z) Trouble) → Judges K b e s → AnswersTables K page c s
          by (Ok out) v = record { b = b; c = e; tables = both_read x; one_alphabet = v.0; verdict = v.1 }
          by (Err (refused f)) v = subst (Faulty K (drop c.at page)) (sym v.0) (unlike b e (both_read x) v.1)
          by (Err NoMemory) v = tt
