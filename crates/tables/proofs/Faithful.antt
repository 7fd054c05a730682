-- What the calls of a table promise together: it stays sound, weighs as its book does, and is smallest after a reduction.
use Rattle.std.proofs.Common.{◌≡◌, ℕ, cond, List, ◌∷◌, None, Ok, Err, Result, sym, refl, ap, ◌∙◌, subst, ⊎_elim, arith}
use Rattle.std.proofs.lemmas.Bool.{cases_eq, ne_eqb}
use Rattle.kinds.specs.Weights.{Weights}
use Rattle.automata.specs.Automata.{Automaton, Sound}
use Rattle.automata.specs.Runs.{Alike, Minimal}
use Rattle.automata.specs.Merging.{Grouping, merged}
use Rattle.automata.specs.Minimality.{ByEquivalence}
use Rattle.automata.proofs.Alikes.{alike_refl, alike_trans, minimal_alike}
use Rattle.automata.proofs.Merges.{merging}
use Rattle.automata.proofs.Pushes.{pushing}
use Rattle.automata.proofs.Reduces.{reducing}
use Rattle.trees.specs.declared.refusal.Refusal.{Refusal}
use Rattle.trees.specs.declared.refusal.Refusal.TheVariants.{Accepting}
use Rattle.trees.specs.Refusals.{Check, checks, first_met, Answers}
use Rattle.trees.proofs.Refusals.{refused_none, none_met, first_is_met}
use Rattle.rules.specs.Books.{Book, accept_checks, accepted, Accepts, add_checks, added}
use Rattle.rules.specs.Pushing.{at_state, push_checks, pushed_book}
use Rattle.rules.proofs.Adds.{fine}
use Rattle.rules.proofs.Books.{opens_is, accepts_is, sound_opened, sound_accepted, sound_added, sound_pushed}
use Rattle.reduction.specs.Partitions.{Partition}
use Rattle.tables.specs.Reductions.{Reduces}
use Rattle.tables.specs.Histories as history
use Rattle.tables.specs.Histories.{Opening, Call, accept, add, close, push, reduce, unless, book, Drafted, opening, accepting, adding, Lived, closing, last_reduction, Faithful}

-- a call with tests that can be computed leaves the new book, or the old one if it is refused
kept : {V W : Type 0} (tests : Book W → List Check) (next : Book W → Book W) (Done : Type 0) (b c b' : Book W) (r : Result V Refusal) → (Done → b' ≡ next b) → Answers (checks (tests b)) (λ _. Done) (b' ≡ b) r → b ≡ c → b' ≡ unless (first_met (tests c)) c (next c)
kept tests next Done b c b' (Ok v) done a e =
    done a.1 ∙ ap next e ∙ ap (λ m. unless m c (next c)) (sym (ap (λ x. first_met (tests x)) (sym e) ∙ none_met (tests b) a.0))
kept tests next Done b c b' (Err x) done a e =
    a.1 ∙ e ∙ ap (λ m. unless m c (next c)) (sym (ap (λ y. first_met (tests y)) (sym e) ∙ first_is_met (tests b) x a.0))

-- what holds before a call holds after it
holds_after : {V W : Type 0} (P : Book W → Type 0) (tests : List Check) (Done : V → Type 0) (b b' : Book W) (r : Result V Refusal) → P b → ((v : V) → first_met tests ≡ None → Done v → P b') → Answers (checks tests) Done (b' ≡ b) r → P b'
holds_after P tests Done b b' (Ok v) before done a = done v (none_met tests a.0) a.1
holds_after P tests Done b b' (Err e) before done a = subst P (sym a.1) before

module _ {W : Type 0} (o : Opening) where
  -- what a draft holds is its book
  pub drafted_book : {h : List (Call W)} {b : Book W} → Drafted o h b → b ≡ book o h
  drafted_book (opening {b = b} p) = opens_is o.ranks o.states o.places b p
  drafted_book (accepting {h = h} {b = b} {b' = b'} q r d p) =
      kept (λ x. accept_checks x q) (λ x. accepted x q) (Accepts q b b') b (book o h) b' r (accepts_is q b b') p (drafted_book d)
  drafted_book (adding {h = h} {b = b} {b' = b'} s qs t w r d p) =
      kept (λ x. add_checks x s qs t) (λ x. added x (record { symbol = s; children = qs; target = t; weight = w })) (b' ≡ added b (record { symbol = s; children = qs; target = t; weight = w })) b (book o h) b' r (λ e. e) p (drafted_book d)

  drafted_sound : {h : List (Call W)} {b : Book W} → Drafted o h b → Sound b.content
  drafted_sound (opening {b = b} p) =
      subst (λ x. Sound x.content) (sym (opens_is o.ranks o.states o.places b p)) (sound_opened o.ranks o.states o.places)
  drafted_sound (accepting {b = b} {b' = b'} q r d p) =
      let before = drafted_sound d in
      holds_after (λ x. Sound x.content) (accept_checks b q) (λ _. Accepts q b b') b b' r before (λ v n a. subst (λ x. Sound x.content) (sym (accepts_is q b b' a)) (sound_accepted b q before)) p
  drafted_sound (adding {b = b} {b' = b'} s qs t w r d p) =
      let before = drafted_sound d in
      holds_after (λ x. Sound x.content) (add_checks b s qs t) (λ _. b' ≡ added b (record { symbol = s; children = qs; target = t; weight = w })) b b' r before (λ v n e. subst (λ x. Sound x.content) (sym e) (sound_added b s qs t w (fine b s qs t n) before)) p

-- no reduction was let in before a table was closed
drafted_unreduced : {W : Type 0} (o : Opening) {h : List (Call W)} {b : Book W} → Drafted o h b → last_reduction h ≡ None
drafted_unreduced o (opening p) = refl
drafted_unreduced o (accepting q r d p) = drafted_unreduced o d
drafted_unreduced o (adding s qs t w r d p) = drafted_unreduced o d

module _ {W : Type 0} (K : Weights W) where
  -- a push at a state that is not accepting
  push_alike : (b : Book W) (q : ℕ) (f : W) → first_met (push_checks b q) ≡ None → Alike K b.content (pushed_book K b q f).content
  push_alike b q f n =
      let plain = (refused_none (push_checks b q) n).1.0 in
      (pushing K b.content (at_state K q f)).alike (λ p e. ⊎_elim
      (λ h. absurd (plain Accepting (ap b.content.accepting (sym h) ∙ e, refl)))
      (λ h. ap (λ t. cond t f K.one) (ne_eqb p q h)) (cases_eq p q))

  by_equivalence : (A : Automaton W) (G : Grouping W) → Partition K A G → ByEquivalence K A G
  by_equivalence A G p = record {
    live_members = p.live_members;
    shared = λ x y m n a e. (p.equivalent_class x y m n).1 (a, e);
  }

  -- a push, and a reduction, of a table that is faithful to its book
  pushed_faithful : (o : Opening) (h : List (Call W)) (b b' : Book W) (q : ℕ) (f : W) (r : Result (Unit {0}) Refusal) → Faithful K o h b → Answers (checks (push_checks b q)) (λ _. b' ≡ pushed_book K b q f) (b' ≡ b) r → Faithful K o (push q f r ∷ h) b'
  pushed_faithful o h b b' q f (Err e) t a = record {
    sound = subst (λ x. Sound x.content) (sym a.1) t.sound;
    weighs = subst (λ x. Alike K (book o h).content x.content) (sym a.1) t.weighs;
    fewest = λ answer l. subst (λ x. (x.content.states ≡ answer.1) × Minimal K x.content) (sym a.1) (t.fewest answer l);
  }
  pushed_faithful o h b b' q f (Ok u) t a =
      let s : Alike K b.content (pushed_book K b q f).content = push_alike b q f (none_met (push_checks b q) a.0) in
      record {
        sound = subst (λ x. Sound x.content) (sym a.1) (sound_pushed K (at_state K q f) b.content t.sound);
        weighs = subst (λ x. Alike K (book o h).content x.content) (sym a.1) (alike_trans K (book o h).content b.content (pushed_book K b q f).content t.weighs s);
        fewest = λ answer l.
            subst (λ x. (x.content.states ≡ answer.1) × Minimal K x.content) (sym a.1)
            ((t.fewest answer l).0, minimal_alike K b.content (pushed_book K b q f).content (t.fewest answer l).1 s refl);
      }

  reduced_faithful : (o : Opening) (h : List (Call W)) (b b' : Book W) (n : ℕ) (r : Result (ℕ × ℕ) Refusal) → Faithful K o h b → Reduces K b n r b' → Faithful K o (reduce n r ∷ h) b'
  reduced_faithful o h b b' n (Err e) t a = record {
    sound = subst (λ x. Sound x.content) (sym a.1) t.sound;
    weighs = subst (λ x. Alike K (book o h).content x.content) (sym a.1) t.weighs;
    fewest = λ answer l. subst (λ x. (x.content.states ≡ answer.1) × Minimal K x.content) (sym a.1) (t.fewest answer l);
  }
  reduced_faithful o h b b' n (Ok answer) t a =
      let red = a.1 t.sound in
      let G = red.grouping in
      let part = red.partition in
      let whole = reducing K b.content G t.sound (by_equivalence b.content G part) in
      let least : Minimal K (merged K G b.content) = whole.minimal part.admissible in
      record {
        sound = subst Sound (sym red.content) (merging K b.content G t.sound part.admissible).sound;
        weighs = subst (Alike K (book o h).content) (sym red.content) (alike_trans K (book o h).content b.content (merged K G b.content) t.weighs (whole.alike part.admissible));
        fewest = λ other l.
            let same : answer ≡ other = cc in
            (ap (λ x. x.states) red.content ∙ sym red.after ∙ ap (λ x. x.1) same, subst (Minimal K) (sym red.content) least);
      }

  pub faithful : (o : Opening) {h : List (Call W)} {b : Book W} → Lived K o h b → Faithful K o h b
  faithful o (closing {h = h} {b = b} {b' = b'} d e) = record {
    sound = subst (λ x. Sound x.content) (sym e) (drafted_sound o d);
    weighs = subst (λ x. Alike K (book o h).content x.content) (sym (e ∙ drafted_book o d)) (alike_refl K (book o h).content);
    fewest = λ answer l. let n = drafted_unreduced o d in let z : ◌≡◌ {A = ℕ} 0 1 = cc in absurd (omega arith);
  }
  faithful o (history.pushing {h = h} {b = b} {b' = b'} q f r d p) = pushed_faithful o h b b' q f r (faithful o d) p
  faithful o (history.reducing {h = h} {b = b} {b' = b'} n r d p) = reduced_faithful o h b b' n r (faithful o d) p
