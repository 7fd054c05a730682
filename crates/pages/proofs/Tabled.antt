-- A table whose lines were read: what they tell, and the calls that they made; or the fault at which they stop.
use Rattle.std.proofs.Common.{◌≡◌, ℕ, ◌+◌, ◌≤◌, ◌⊎◌, List, [], ◌∷◌, ◌++◌, length, drop, Some, None, Ok, Err, Option, sym, refl, ap, ◌∙◌, subst, inl, inr, append_assoc, arith, length-append}
use Rattle.std.proofs.ByRecursion.{All-push}
use Rattle.kinds.specs.Weights.{Weights}
use Rattle.rules.specs.declared.measure.Measure.{Measure}
use Rattle.rules.specs.Measures.{ranks}
use Rattle.rules.specs.Books.{Book, opened, Opens, accepted, Accepts}
use Rattle.rules.proofs.Books.{opens_is}
use Rattle.tables.specs.Histories as histories
use Rattle.tables.specs.Histories.{Opening, Call, close, book, Drafted, opening, accepting, adding, Lived, closing}
use Rattle.tables.proofs.Faithful.{drafted_book}
use Rattle.layout.specs.Lines.{Entry, kind, table, accept, rule, end, written, Fits, Begins}
use Rattle.pages.specs.declared.cursor.Cursor.{Cursor}
use Rattle.pages.specs.declared.fault.Fault.{Fault}
use Rattle.pages.specs.declared.fault.Fault.TheVariants.{Layout}
use Rattle.pages.specs.declared.trouble.Trouble.TheVariants.{Fault as refused}
use Rattle.pages.specs.Texts.{rule_places, lines, Text, entries, Enters, Fills, Told, Refuses, Stops}
use Rattle.pages.specs.Runs.{Passes, closed, stopped, Ends}
use Rattle.pages.specs.Reading.{FillsRest, RefusesFirst, MeasuresNext}
use Rattle.pages.proofs.Runs.{lines_append}

-- the lines between two places of a page tell a book, and calls that keep it led to a closed table
pub record Tabled {W : Type 0} (K : Weights W) (page : List ℕ) (c c' : Cursor) (b : Book W) : Type 0 where
  pub text : Text
  pub told : Told K (drop c.at page) text b (drop c'.at page)
  pub number : c'.line ≡ c.line + length (entries text)
  pub within : c'.at ≤ length page
  pub opened_as : Opening
  pub calls : List (Call W)
  pub lived : Lived K opened_as calls b
  pub booked : book opened_as calls ≡ b

module _ {W : Type 0} (K : Weights W) where
  -- the line of an entry that is let in makes one call
  enters_drafted : (o : Opening) (h : List (Call W)) (b b' : Book W) (e : Entry) → Enters K b e b' → Drafted o h b → (h' : List (Call W)) × Drafted o h' b'
  enters_drafted o h b b' (accept q) x d =
      let same : Accepts q b (accepted b q) = record { same_places = refl; same_ranks = refl; same_states = refl; marks = λ p. refl; same_rules = refl } in
      (histories.accept q (Ok tt) ∷ h, accepting q (Ok tt) d (x.0, subst (Accepts q b) (sym x.1) same))
  enters_drafted o h b b' (rule s t weight qs) x d = (histories.add s qs t x.0 (Ok tt) ∷ h, adding s qs t x.0 (Ok tt) d (x.2, x.3))
  enters_drafted o h b b' (kind n) x d = absurd x
  enters_drafted o h b b' (table n rs) x d = absurd x
  enters_drafted o h b b' end x d = absurd x

  fills_drafted : (o : Opening) (h : List (Call W)) (b b' : Book W) (es : List Entry) → Fills K b es b' → Drafted o h b → (h' : List (Call W)) × Drafted o h' b'
  fills_drafted o h b b' [] x d = (h, subst (Drafted o h) (sym x) d)
  fills_drafted o h b b' (e ∷ es) x d =
      let next = enters_drafted o h b x.0 e x.1 d in
      fills_drafted o next.0 x.0 b' es x.2 next.1

  -- the calls of a table that is opened, filled and closed
  lives : (rs : List ℕ) (n : ℕ) (b : Book W) (es : List Entry) → Fills K (opened rs n rule_places) es b → (h : List (Call W)) × Lived K (record { ranks = rs; states = n; places = rule_places }) h b × (book (record { ranks = rs; states = n; places = rule_places }) h ≡ b)
  lives rs n b es fills =
      let o : Opening = record { ranks = rs; states = n; places = rule_places } in
      let drafted : (h : List (Call W)) × Drafted o h b =
      fills_drafted o [] (opened rs n rule_places) b es fills (opening (record { same_places = refl; same_ranks = refl; same_states = refl; no_accepting = λ q. refl; no_rules = refl })) in
      closes o drafted.0 drafted.1
    where
      closes : (o : Opening) (h : List (Call W)) → Drafted o h b → (h' : List (Call W)) × Lived K o h' b × (book o h' ≡ b)
      closes o h d = (close ∷ h, closing d refl, sym (drafted_book o d))

  passes_fills : (b : Book W) (es : List Entry) (at : Option (Book W)) → Passes K (Some b) es at → (c : Book W) × Fills K b es c × (at ≡ Some c)
  passes_fills b [] at x = (b, refl, x)
  passes_fills b (e ∷ es) at x =
      let n = x.1 in
      let rest = passes_fills n.0 es at (subst (λ o. Passes K o es at) n.2 x.2) in
      (rest.0, (n.0, n.1, rest.1), rest.2)

  -- how the run of a table that was closed ended
  ends_closed : (at : Option (Book W)) (rest : List ℕ) (line : ℕ) (b : Book W) (more : List ℕ) → Ends K at rest line (closed b more) → Begins rest end more × (at ≡ Some b)
  ends_closed at rest line b more (inl x) =
      let out = x.4 in
      let same : x.0 ≡ b = cc in
      let follows : x.1 ≡ more = cc in
      (subst (Begins rest end) follows x.2, x.3 ∙ ap Some same)
  ends_closed at rest line b more (inr (inl x)) = let out = x.5 in let z : ◌≡◌ {A = ℕ} 0 1 = cc in absurd (omega arith)
  ends_closed at rest line b more (inr (inr x)) = let out = x.1 in let z : ◌≡◌ {A = ℕ} 0 1 = cc in absurd (omega arith)

  -- and the run of one that was not
  ends_stopped : (at : Option (Book W)) (rest : List ℕ) (line : ℕ) (f : Fault) → Ends K at rest line (stopped f) → ((e : Entry) × (more : List ℕ) × Begins rest e more × Refuses K at e line f) ⊎ (((e : Entry) (more : List ℕ) → Begins rest e more → ⊥) × (f ≡ Layout line))
  ends_stopped at rest line f (inl x) = let out = x.4 in let z : ◌≡◌ {A = ℕ} 0 1 = cc in absurd (omega arith)
  ends_stopped at rest line f (inr (inl x)) =
      let out = x.5 in
      let same : x.2 ≡ f = cc in
      inl (x.0, x.1, x.3, subst (Refuses K at x.0 line) same x.4)
  ends_stopped at rest line f (inr (inr x)) =
      let out = x.1 in
      let same : f ≡ Layout line = cc in
      inr (x.0, same)

  first_refuses : (e : Entry) (line : ℕ) (f : Fault) → RefusesFirst e line f → Refuses K None e line f
  first_refuses (table n rs) line f x = x
  first_refuses (kind n) line f x = x
  first_refuses (accept q) line f x = x
  first_refuses (rule s t weight qs) line f x = x
  first_refuses end line f x = x

  -- the first line is refused, or there is none
  pub measure_stops : (page : List ℕ) (c c' : Cursor) (f : Fault) → MeasuresNext page c c' (Err (refused f)) → Stops K (drop c.at page) c.line f
  measure_stops page c c' f x = record {
    before = [];
    so_far = None;
    rest = drop c.at page;
    fit = tt;
    spelled = refl;
    begun = refl;
    cause = cause x;
  }
    where
      here : c.line ≡ c.line + 0
      here = omega arith

      cause : MeasuresNext page c c' (Err (refused f)) → ((e : Entry) × (more : List ℕ) × Begins (drop c.at page) e more × Refuses K None e (c.line + 0) f) ⊎ (((e : Entry) (more : List ℕ) → Begins (drop c.at page) e more → ⊥) × (f ≡ Layout (c.line + 0)))
      cause (inl r) = inl (r.0, r.1, r.2, subst (λ n. Refuses K None r.0 n f) here (first_refuses r.0 c.line f r.3))
      cause (inr n) = inr (n.0, n.1 ∙ ap Layout here)

  module _ (page : List ℕ) (c c' c'' : Cursor) (m : Measure) (b b' : Book W) where
    -- the first line and those behind it
    joined : (es : List Entry) (rest : List ℕ) → MeasuresNext page c c' (Ok m) → drop c'.at page ≡ lines es ++ rest → drop c.at page ≡ lines (table m.states (ranks m) ∷ es) ++ rest
    joined es rest first spelled =
        let begin = written (table m.states (ranks m)) in
        first.0.begins.line ∙ ap (λ r. begin ++ 10 ∷ r) spelled ∙ sym (append_assoc begin (10 ∷ lines es) rest)

    filled : (es : List Entry) (at : Option (Book W)) → Opens (ranks m) m.states rule_places b → Passes K (Some b) es at → (d : Book W) × Fills K (opened (ranks m) m.states rule_places) es d × (at ≡ Some d)
    filled es at opens p =
        let x = passes_fills b es at p in
        (x.0, subst (λ a. Fills K a es x.0) (opens_is (ranks m) m.states rule_places b opens) x.1, x.2)

    -- a line behind the first is refused, or there is none
    pub fill_stops : (f : Fault) → MeasuresNext page c c' (Ok m) → Opens (ranks m) m.states rule_places b → FillsRest K page c' c'' b b' (Err (refused f)) → Stops K (drop c.at page) c.line f
    fill_stops f first opens x =
        let es = x.0 in
        let run = x.1 in
        let so_far = filled es run.last opens run.passes in
        let line : c'.line + length es ≡ c.line + length (table m.states (ranks m) ∷ es) = omega (arith, first.0.number) in
        record {
          before = table m.states (ranks m) ∷ es;
          so_far = run.last;
          rest = run.rest;
          fit = (first.0.begins.fits, run.fit);
          spelled = joined es run.rest first run.spelled;
          begun = (so_far.0, first.1, so_far.1, so_far.2);
          cause = ends_stopped run.last run.rest (c.line + length (table m.states (ranks m) ∷ es)) f (subst (λ n. Ends K run.last run.rest n (stopped f)) line run.ends);
        }

    pub table_read : MeasuresNext page c c' (Ok m) → Opens (ranks m) m.states rule_places b → FillsRest K page c' c'' b b' (Ok tt) → Tabled K page c c'' b'
    table_read first opens x =
        let es = x.0 in
        let run = x.1 in
        let more = drop c''.at page in
        let t : Text = record { states = m.states; ranks = ranks m; body = es } in
        let ended = ends_closed run.last run.rest (c'.line + length es) b' more run.ends in
        let so_far = filled es run.last opens run.passes in
        let last = so_far.2 in
        let closes = ended.1 in
        let same : so_far.0 ≡ b' = cc in
        let fills : Fills K (opened (ranks m) m.states rule_places) es b' = subst (Fills K (opened (ranks m) m.states rule_places) es) same so_far.1 in
        let history = lives (ranks m) m.states b' es fills in
        let begin = table m.states (ranks m) ∷ es in
        record {
          text = t;
          told = record {
            fit = (first.0.begins.fits, All-push Fits es end run.fit tt);
            spelled =
                joined es run.rest first run.spelled ∙ ap (λ r. lines begin ++ r) ended.0.line
                ∙ sym (append_assoc (lines begin) (lines (end ∷ [])) more) ∙ ap (λ r. r ++ more) (sym (lines_append begin (end ∷ [])));
            tells = record { measured = first.1; filled = fills };
          };
          number = omega (arith, x.2, first.0.number, length-append es (end ∷ []));
          within = x.3;
          opened_as = record { ranks = ranks m; states = m.states; places = rule_places };
          calls = history.0;
          lived = history.1;
          booked = history.2;
        }
