-- Going through the lines of a table.
use Rattle.std.proofs.Common.{◌≡◌, ℕ, ◌+◌, List, [], ◌∷◌, ◌++◌, length, drop, Some, Ok, Err, Option, sym, refl, ap, ◌∙◌, subst, inl, inr, append_assoc, arith, length-append}
use Rattle.std.specs.List.{AllByRecursion}
use Rattle.std.proofs.ByRecursion.{All-push}
use Rattle.kinds.specs.Weights.{Weights}
use Rattle.rules.specs.Books.{Book}
use Rattle.layout.specs.Lines.{Entry, end, written, Fits, Begins}
use Rattle.pages.specs.declared.cursor.Cursor.{Cursor}
use Rattle.pages.specs.declared.fault.Fault.{Fault}
use Rattle.pages.specs.declared.fault.Fault.TheVariants.{Layout}
use Rattle.pages.specs.declared.trouble.Trouble.{Trouble}
use Rattle.pages.specs.declared.trouble.Trouble.TheVariants.{Fault as refused, NoMemory}
use Rattle.pages.specs.Texts.{lines, Enters, Refuses}
use Rattle.pages.specs.Runs.{EntersAt, Passes, closed, stopped, Ends, Run}
use Rattle.pages.specs.Reading.{Entered, Steps, FillsRest}
use Rattle.pages.proofs.Runs.{lines_append}

-- the lines between two places of a page were let in, and made the one book the other
pub record Going {W : Type 0} (K : Weights W) (page : List ℕ) (c c' : Cursor) (b b' : Book W) : Type 0 where
  pub es : List Entry
  pub fit : AllByRecursion Fits es
  pub spelled : drop c.at page ≡ lines es ++ drop c'.at page
  pub passes : Passes K (Some b) es (Some b')
  pub number : c'.line ≡ c.line + length es

module _ {W : Type 0} (K : Weights W) where
  passes_more : (at between at' : Option (Book W)) (es : List Entry) (e : Entry) → Passes K at es between → EntersAt K between e at' → Passes K at (es ++ e ∷ []) at'
  passes_more at between at' [] e p x = (at', subst (λ o. EntersAt K o e at') p x, refl)
  passes_more at between at' (d ∷ es) e p x = (p.0, p.1, passes_more p.0 between at' es e p.2 x)

  module _ (page : List ℕ) (c : Cursor) (b : Book W) where
    pub going_more : (c' c'' : Cursor) (b' b'' : Book W) (e : Entry) → Going K page c c' b b' → Steps page c' e c'' → Enters K b' e b'' → Going K page c c'' b b''
    going_more c' c'' b' b'' e x s n = record {
      es = x.es ++ e ∷ [];
      fit = All-push Fits x.es e x.fit s.begins.fits;
      spelled =
          x.spelled ∙ ap (λ r. lines x.es ++ r) (s.begins.line ∙ sym (append_assoc (written e) (10 ∷ []) (drop c''.at page)))
          ∙ sym (append_assoc (lines x.es) (lines (e ∷ [])) (drop c''.at page)) ∙ ap (λ r. r ++ drop c''.at page) (sym (lines_append x.es (e ∷ [])));
      passes = passes_more (Some b) (Some b') (Some b'') x.es e x.passes (b'', n, refl);
      number = omega (arith, length-append x.es (e ∷ []), x.number, s.number);
    }

    -- the run as far as it came, and how it ends
    going_run : (c' : Cursor) (b' : Book W) (out : _) (x : Going K page c c' b b') → Ends K (Some b') (drop c'.at page) c'.line out → Run K (Some b) (drop c.at page) c.line x.es out
    going_run c' b' out x ends = record {
      last = Some b';
      rest = drop c'.at page;
      fit = x.fit;
      spelled = x.spelled;
      passes = x.passes;
      ends = subst (λ n. Ends K (Some b') (drop c'.at page) n out) x.number ends;
    }

    pub going_ended : (c' c'' : Cursor) (b' b'' : Book W) (e : Entry) → Going K page c c' b b' → Steps page c' e c'' → e ≡ end → b'' ≡ b' → FillsRest K page c c'' b b'' (Ok tt)
    going_ended c' c'' b' b'' e x s is same =
        (x.es, going_run c' b' (closed b'' (drop c''.at page)) x (inl (b', drop c''.at page, subst (λ a. Begins (drop c'.at page) a (drop c''.at page)) is s.begins, refl, ap (λ a. closed a (drop c''.at page)) same)), omega (arith, x.number, s.number), s.within)

    pub going_refused : (c' c'' : Cursor) (b' b'' : Book W) (e : Entry) (n : ℕ) (x : Trouble) → Going K page c c' b b' → Steps page c' e c'' → n ≡ c'.line → Entered {T = Unit {0}} K b' e n b'' (Err x) → FillsRest K page c c'' b b'' (Err x)
    going_refused c' c'' b' b'' e n (refused f) x s number why =
        (x.es, going_run c' b' (stopped f) x (inr (inl (e, drop c''.at page, f, s.begins, subst (λ k. Refuses K (Some b') e k f) number why, refl))))
    going_refused c' c'' b' b'' e n NoMemory x s number why = tt

    pub going_silent : (c' c'' : Cursor) (b' b'' : Book W) (f : Fault) → Going K page c c' b b' → ((e : Entry) (more : List ℕ) → Begins (drop c'.at page) e more → ⊥) → f ≡ Layout c'.line → FillsRest K page c c'' b b'' (Err (refused f))
    going_silent c' c'' b' b'' f x none is =
        (x.es, going_run c' b' (stopped f) x (inr (inr (none, ap stopped is))))
