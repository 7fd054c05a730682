-- The lines of a table, one after another: two runs through the same bytes are one.
use Rattle.std.proofs.Common.{◌≡◌, ℕ, ◌+◌, ◌<◌, List, [], ◌∷◌, ◌++◌, Some, None, Option, sym, refl, ap, ◌∙◌, subst, ap₂, inl, inr, append_assoc, arith}
use Rattle.std.specs.List.{AllByRecursion}
use Rattle.kinds.specs.Weights.{Weights}
use Rattle.trees.specs.declared.refusal.Refusal.{Refusal}
use Rattle.trees.specs.declared.refusal.Refusal.TheVariants.{Ranks, States}
use Rattle.trees.specs.Refusals.{Test, when, Check, checks, FirstMet, NoneMet}
use Rattle.trees.specs.Alphabets.{BadRanks}
use Rattle.trees.proofs.Refusals.{first_is_met}
use Rattle.rules.specs.Books.{Book, accept_checks, add_checks, added}
use Rattle.layout.specs.Lines.{Entry, kind, table, accept, rule, end, written, Fits, Begins}
use Rattle.layout.proofs.Padding.{field_same}
use Rattle.layout.proofs.Unique.{begins_once}
use Rattle.pages.specs.declared.fault.Fault.{Fault}
use Rattle.pages.specs.declared.fault.Fault.TheVariants.{Table}
use Rattle.pages.specs.Texts.{lines, measure_tests, SpellsWeight, Enters, Refuses}
use Rattle.pages.specs.Runs.{EntersAt, Outcome, stopped, Ends, Run}

-- a test cannot be the first that is met where none is
pub none_first : (ts : List Test) (r : Refusal) → NoneMet ts → FirstMet ts r → ⊥
none_first [] r n m = m
none_first (t ∷ ts) r n (inl here) = n.0 r here
none_first (t ∷ ts) r n (inr there) = none_first ts r n.1 there.1

checks_once : (cs : List Check) (r s : Refusal) → FirstMet (checks cs) r → FirstMet (checks cs) s → r ≡ s
checks_once cs r s m k = let a = first_is_met cs r m in let b = first_is_met cs s k in cc

-- one test before others that are met by one refusal
when_once : (P : Type 0) (x : Refusal) (ts : List Test) (r s : Refusal) → (FirstMet ts r → FirstMet ts s → r ≡ s) → FirstMet (when P x ∷ ts) r → FirstMet (when P x ∷ ts) s → r ≡ s
when_once P x ts r s later (inl a) (inl b) = a.1 ∙ sym b.1
when_once P x ts r s later (inl a) (inr b) = absurd (b.0 r a)
when_once P x ts r s later (inr a) (inl b) = absurd (a.0 s b)
when_once P x ts r s later (inr a) (inr b) = later a.1 b.1

measure_once : (ranks : List ℕ) (n : ℕ) (r s : Refusal) → FirstMet (measure_tests ranks n) r → FirstMet (measure_tests ranks n) s → r ≡ s
measure_once ranks n r s =
    when_once (BadRanks ranks) Ranks (when (48 < n) States ∷ []) r s (when_once (48 < n) States [] r s (λ a b. absurd a))

pub lines_append : (es fs : List Entry) → lines (es ++ fs) ≡ lines es ++ lines fs
lines_append [] fs = refl
lines_append (e ∷ es) fs =
    ap (λ r. written e ++ 10 ∷ r) (lines_append es fs) ∙ sym (append_assoc (written e) (10 ∷ lines es) (lines fs))

-- the first of some lines
pub begins_lines : (e : Entry) (es : List Entry) (bytes rest : List ℕ) → AllByRecursion Fits (e ∷ es) → bytes ≡ lines (e ∷ es) ++ rest → Begins bytes e (lines es ++ rest)
begins_lines e es bytes rest fit s = record { fits = fit.0; line = s ∙ append_assoc (written e) (10 ∷ lines es) rest }

module _ {W : Type 0} (K : Weights W) where
  weight_once : (bytes : List ℕ) (x y : W) → SpellsWeight K bytes x → SpellsWeight K bytes y → x ≡ y
  weight_once bytes x y a b =
      K.distinct x y (field_same (K.code x) (K.code y) (K.low x, K.high x) (K.low y, K.high y) (sym a ∙ b))

  enters_once : (b c d : Book W) (e : Entry) → Enters K b e c → Enters K b e d → c ≡ d
  enters_once b c d (kind n) x y = absurd x
  enters_once b c d (table n ranks) x y = absurd x
  enters_once b c d (accept q) x y = x.1 ∙ sym y.1
  enters_once b c d (rule s t weight qs) x y =
      x.3 ∙ ap (λ w. added b (record { symbol = s; children = qs; target = t; weight = w })) (weight_once weight x.0 y.0 x.1 y.1) ∙ sym y.3
  enters_once b c d end x y = absurd x

  enters_at_once : (at p q : Option (Book W)) (e : Entry) → EntersAt K at e p → EntersAt K at e q → p ≡ q
  enters_at_once None p q (table n ranks) x y = x.1 ∙ sym y.1
  enters_at_once None p q (kind n) x y = absurd x
  enters_at_once None p q (accept s) x y = absurd x
  enters_at_once None p q (rule s t weight qs) x y = absurd x
  enters_at_once None p q end x y = absurd x
  enters_at_once (Some b) p q e x y = x.2 ∙ ap Some (enters_once b x.0 y.0 e x.1 y.1) ∙ sym y.2

  refuses_once : (at : Option (Book W)) (e : Entry) (line : ℕ) (f g : Fault) → Refuses K at e line f → Refuses K at e line g → f ≡ g
  refuses_once None (table n ranks) line f g x y =
      x.2 ∙ ap (Table line) (measure_once ranks n x.0 y.0 x.1 y.1) ∙ sym y.2
  refuses_once None (kind n) line f g x y = x ∙ sym y
  refuses_once None (accept q) line f g x y = x ∙ sym y
  refuses_once None (rule s t weight qs) line f g x y = x ∙ sym y
  refuses_once None end line f g x y = x ∙ sym y
  refuses_once (Some b) (accept q) line f g x y =
      x.2 ∙ ap (Table line) (checks_once (accept_checks b q) x.0 y.0 x.1 y.1) ∙ sym y.2
  refuses_once (Some b) (rule s t weight qs) line f g (inl x) (inl y) = x.1 ∙ sym y.1
  refuses_once (Some b) (rule s t weight qs) line f g (inl x) (inr y) = absurd (x.0 y.0 y.1)
  refuses_once (Some b) (rule s t weight qs) line f g (inr x) (inl y) = absurd (y.0 x.0 x.1)
  refuses_once (Some b) (rule s t weight qs) line f g (inr x) (inr y) =
      x.4 ∙ ap (Table line) (checks_once (add_checks b s qs t) x.2 y.2 x.3 y.3) ∙ sym y.4
  refuses_once (Some b) (kind n) line f g x y = x ∙ sym y
  refuses_once (Some b) (table n ranks) line f g x y = x ∙ sym y
  refuses_once (Some b) end line f g x y = absurd x

  -- what is let in is not refused
  enters_fine : (at p : Option (Book W)) (e : Entry) (line : ℕ) (f : Fault) → EntersAt K at e p → Refuses K at e line f → ⊥
  enters_fine None p (table n ranks) line f x y = none_first (measure_tests ranks n) y.0 x.0 y.1
  enters_fine None p (kind n) line f x y = x
  enters_fine None p (accept q) line f x y = x
  enters_fine None p (rule s t weight qs) line f x y = x
  enters_fine None p end line f x y = x
  enters_fine (Some b) p (accept q) line f x y = none_first (checks (accept_checks b q)) y.0 x.1.0 y.1
  enters_fine (Some b) p (rule s t weight qs) line f x (inl y) = y.0 x.1.0 x.1.1
  enters_fine (Some b) p (rule s t weight qs) line f x (inr y) = none_first (checks (add_checks b s qs t)) y.2 x.1.2 y.3
  enters_fine (Some b) p (kind n) line f x y = x.1
  enters_fine (Some b) p (table n ranks) line f x y = x.1
  enters_fine (Some b) p end line f x y = x.1

  -- where a line is let in, the run goes on
  enters_goes_on : (at p : Option (Book W)) (bytes : List ℕ) (e : Entry) (more : List ℕ) (line : ℕ) (out : Outcome W) → Begins bytes e more → EntersAt K at e p → Ends K at bytes line out → ⊥
  enters_goes_on at p bytes e more line out b x (inl c) = end_stays at c.0 p c.3 (subst (λ y. EntersAt K at y p) (begins_once bytes e end more c.1 b c.2).0 x)
    where
      end_stays : (at : Option (Book W)) (b : Book W) (p : Option (Book W)) → at ≡ Some b → EntersAt K at end p → ⊥
      end_stays None b p s y = y
      end_stays (Some d) b p s y = y.1
  enters_goes_on at p bytes e more line out b x (inr (inl r)) =
      enters_fine at p e line r.2 x (subst (λ y. Refuses K at y line r.2) (begins_once bytes r.0 e r.1 more r.3 b).0 r.4)
  enters_goes_on at p bytes e more line out b x (inr (inr n)) = n.0 e more b

  end_stands : (at : Option (Book W)) (b : Book W) (line : ℕ) (f : Fault) → at ≡ Some b → Refuses K at end line f → ⊥
  end_stands None b line f s y = let z : ◌≡◌ {A = ℕ} 0 1 = cc in absurd (omega arith)
  end_stands (Some d) b line f s y = y

  ends_once : (at : Option (Book W)) (bytes : List ℕ) (line : ℕ) (out out' : Outcome W) → Ends K at bytes line out → Ends K at bytes line out' → out ≡ out'
  ends_once at bytes line out out' (inl x) (inl y) =
      let m = (begins_once bytes end end x.1 y.1 x.2 y.2).1 in
      let p = x.3 in let q = y.3 in let s = x.4 in let t = y.4 in
      cc
  ends_once at bytes line out out' (inl x) (inr (inl y)) =
      absurd (end_stands at x.0 line y.2 x.3 (subst (λ e. Refuses K at e line y.2) (begins_once bytes y.0 end y.1 x.1 y.3 x.2).0 y.4))
  ends_once at bytes line out out' (inl x) (inr (inr y)) = absurd (y.0 end x.1 x.2)
  ends_once at bytes line out out' (inr (inl x)) (inl y) =
      absurd (end_stands at y.0 line x.2 y.3 (subst (λ e. Refuses K at e line x.2) (begins_once bytes x.0 end x.1 y.1 x.3 y.2).0 x.4))
  ends_once at bytes line out out' (inr (inl x)) (inr (inl y)) =
      let e = (begins_once bytes x.0 y.0 x.1 y.1 x.3 y.3).0 in
      x.5 ∙ ap stopped (refuses_once at y.0 line x.2 y.2 (subst (λ e. Refuses K at e line x.2) e x.4) y.4) ∙ sym y.5
  ends_once at bytes line out out' (inr (inl x)) (inr (inr y)) = absurd (y.0 x.0 x.1 x.3)
  ends_once at bytes line out out' (inr (inr x)) (inl y) = absurd (x.0 end y.1 y.2)
  ends_once at bytes line out out' (inr (inr x)) (inr (inl y)) = absurd (x.0 y.0 y.1 y.3)
  ends_once at bytes line out out' (inr (inr x)) (inr (inr y)) = x.1 ∙ sym y.1

  -- a run without lines, and a run behind its first line
  run_ends : (at : Option (Book W)) (bytes : List ℕ) (line : ℕ) (out : Outcome W) → Run K at bytes line [] out → Ends K at bytes (line + 0) out
  run_ends at bytes line out x =
      subst (λ o. Ends K o bytes (line + 0) out) x.passes (subst (λ r. Ends K x.last r (line + 0) out) (sym x.spelled) x.ends)

  run_behind : (at : Option (Book W)) (bytes : List ℕ) (line : ℕ) (e : Entry) (es : List Entry) (out : Outcome W) (x : Run K at bytes line (e ∷ es) out) → Run K x.passes.0 (lines es ++ x.rest) (line + 1) es out
  run_behind at bytes line e es out x = record {
    last = x.last;
    rest = x.rest;
    fit = x.fit.1;
    spelled = refl;
    passes = x.passes.2;
    ends = subst (λ n. Ends K x.last x.rest n out) (omega arith) x.ends;
  }

  -- two runs through the same bytes have the same lines and the same outcome
  pub run_once : (at : Option (Book W)) (bytes : List ℕ) (line : ℕ) (es fs : List Entry) (out out' : Outcome W) → Run K at bytes line es out → Run K at bytes line fs out' → (es ≡ fs) × (out ≡ out')
  run_once at bytes line [] [] out out' x y =
      (refl, ends_once at bytes (line + 0) out out' (run_ends at bytes line out x) (run_ends at bytes line out' y))
  run_once at bytes line [] (f ∷ fs) out out' x y =
      absurd (enters_goes_on at y.passes.0 bytes f (lines fs ++ y.rest) (line + 0) out (begins_lines f fs bytes y.rest y.fit y.spelled) y.passes.1 (run_ends at bytes line out x))
  run_once at bytes line (e ∷ es) [] out out' x y =
      absurd (enters_goes_on at x.passes.0 bytes e (lines es ++ x.rest) (line + 0) out' (begins_lines e es bytes x.rest x.fit x.spelled) x.passes.1 (run_ends at bytes line out' y))
  run_once at bytes line (e ∷ es) (f ∷ fs) out out' x y =
      let first = begins_once bytes e f (lines es ++ x.rest) (lines fs ++ y.rest) (begins_lines e es bytes x.rest x.fit x.spelled) (begins_lines f fs bytes y.rest y.fit y.spelled) in
      let between = enters_at_once at x.passes.0 y.passes.0 f (subst (λ e. EntersAt K at e x.passes.0) first.0 x.passes.1) y.passes.1 in
      let other = subst (λ o. Run K o (lines es ++ x.rest) (line + 1) fs out') (sym between) (subst (λ r. Run K y.passes.0 r (line + 1) fs out') (sym first.1) (run_behind at bytes line f fs out' y)) in
      let ih = run_once x.passes.0 (lines es ++ x.rest) (line + 1) es fs out out' (run_behind at bytes line e es out x) other in
      (ap₂ ◌∷◌ first.0 ih.0, ih.1)
