-- A push or a reduction of a closed table takes what its calls promise along.
use Rattle.std.proofs.Common.{◌≡◌, ℕ, ◌<◌, List, [], ◌∷◌, length, Ok, Err, Result, refl, ◌∙◌, subst}
use Rattle.kinds.specs.Weights.{Weights}
use Rattle.automata.specs.Automata.{Sound}
use Rattle.automata.specs.Runs.{Alike}
use Rattle.automata.proofs.Alikes.{alike_sym, alike_trans}
use Rattle.trees.specs.declared.refusal.Refusal.{Refusal}
use Rattle.trees.specs.declared.refusal.Refusal.TheVariants.{Short}
use Rattle.trees.specs.Refusals.{when, checks, FirstMet, Answers}
use Rattle.rules.specs.Books.{Book, holding}
use Rattle.rules.specs.Pushing.{push_checks, pushed_book}
use Rattle.rules.specs.Shapes.{states_in}
use Rattle.reduction.specs.Reducing.{ReducedTo}
use Rattle.tables.specs.declared.closed.Closed.{Closed}
use Rattle.tables.specs.Histories as history
use Rattle.tables.specs.Histories.{Opening, Call, push, reduce, book, Lived, Continues}
use Rattle.tables.specs.Images.{closed_holds, SameClosed, PushedClosed, extent}
use Rattle.tables.specs.Reductions.{Reduction, Reduces}
use Rattle.tables.proofs.Faithful.{faithful}

module _ {W : Type 0} (K : Weights W) (o : Opening) (h : List (Call W)) (b b' : Book W) where
  -- what the calls with one more lead to, where that leaves the book
  continues : (call : Call W) → book o (call ∷ h) ≡ book o h → Lived K o h b → Lived K o (call ∷ h) b' → Continues K o (call ∷ h) b b'
  continues call same before after =
      let x = faithful K o before in
      let y = faithful K o after in
      record {
        lived = after;
        faithful = y;
        unmoved =
            alike_trans K b.content (book o h).content b'.content (alike_sym K (book o h).content b.content x.weighs)
            (subst (λ z. Alike K z.content b'.content) same y.weighs);
      }

  pub continues_reduced : (n : ℕ) (r : Result (ℕ × ℕ) Refusal) → Reduces K b n r b' → Lived K o h b → Continues K o (reduce n r ∷ h) b b'
  continues_reduced n r a l = continues (reduce n r) refl l (history.reducing n r l a)

  pub continues_pushed : (q : ℕ) (f : W) (r : Result (Unit {0}) Refusal) → Answers (checks (push_checks b q)) (λ _. b' ≡ pushed_book K b q f) (b' ≡ b) r → Lived K o h b → Continues K o (push q f r ∷ h) b b'
  continues_pushed q f r a l = continues (push q f r) refl l (history.pushing q f r l a)

module _ {V W : Type 0} (K : Weights W) (stands : V → W) (c c' : Closed V) where
  abbrev b : Book W
  b = closed_holds stands c

  abbrev b' : Book W
  b' = closed_holds stands c'

  same_book : SameClosed c c' → b' ≡ b
  same_book s = λ i. holding stands (s.shape i) (s.memory i) (s.count i)

  pub pushed_on : (q : ℕ) (f : W) (r : Result (Unit {0}) Refusal) → Answers (checks (push_checks b q)) (λ _. PushedClosed K stands q f c c') (SameClosed c c') r → (o : Opening) (h : List (Call W)) → Lived K o h b → Continues K o (push q f r ∷ h) b b'
  pushed_on q f (Ok u) a o h l =
      let p = a.1 in
      continues_pushed K o h b b' q f (Ok u) (a.0, (λ i. holding stands (p.shape i) c'.rules.now (p.count i)) ∙ p.pushes.rules) l
  pushed_on q f (Err e) a o h l = continues_pushed K o h b b' q f (Err e) (a.0, same_book a.1) l

  pub reduces : (before after : ℕ) → before ≡ states_in c.shape → after ≡ states_in c'.shape → length c'.rules.now ≡ length c.rules.now → (Sound b.content → ReducedTo stands K b.content (extent c') c'.rules.now) → Sound b.content → Reduction K b b' (before, after)
  reduces before after m n long done sound =
      let r = done sound in
      record {
        grouping = r.grouping;
        partition = r.partition;
        before = m;
        after = n ∙ r.states;
        places = long;
        content = r.content;
      }

  pub reduce_refused : (n : ℕ) (e : Refusal) → FirstMet (when (n < states_in c.shape) Short ∷ []) e → SameClosed c c' → Reduces K b n (Err e) b'
  reduce_refused n e met s = (met, same_book s)
