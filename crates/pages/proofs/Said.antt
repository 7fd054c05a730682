-- What a line says, by its form.
use Rattle.std.proofs.Common.{◌≡◌, ℕ, ◌⊎◌, List, Some, Result, sym, refl, ap, ◌∙◌, subst, inl, inr, arith, Bor}
use Rattle.kinds.specs.Weights.{Weights}
use Rattle.rules.specs.Books.{Book}
use Rattle.layout.specs.declared.line.Line.{Line}
use Rattle.layout.specs.declared.line.Line.TheVariants.{Kind, Table, Accept, Rule, End}
use Rattle.layout.specs.Answers.{ReadsNumbers}
use Rattle.layout.specs.Fields.{fields}
use Rattle.layout.specs.Lines.{Entry, table, accept, rule, end, Fits, Says, says_kind, says_table, says_accept, says_rule, says_end}
use Rattle.pages.specs.declared.fault.Fault.TheVariants.{Layout}
use Rattle.pages.specs.declared.trouble.Trouble.{Trouble}
use Rattle.pages.specs.Reading.{Entered, EnteredLine}
use Rattle.pages.specs.Texts.{Refuses}

pub said_accept : (l : Line) (q : ℕ) (e : Entry) → l ≡ Accept q → Says l e → e ≡ accept q
said_accept l q e is (says_kind n) = let z : ◌≡◌ {A = ℕ} 0 1 = cc in absurd (omega arith)
said_accept l q e is (says_table n part ranks s) = let z : ◌≡◌ {A = ℕ} 0 1 = cc in absurd (omega arith)
said_accept l q e is (says_accept p) = let same : p ≡ q = cc in ap accept same
said_accept l q e is (says_rule s t weight part qs x) = let z : ◌≡◌ {A = ℕ} 0 1 = cc in absurd (omega arith)
said_accept l q e is says_end = let z : ◌≡◌ {A = ℕ} 0 1 = cc in absurd (omega arith)

pub said_rule : (l : Line) (s t : ℕ) (weight part : Bor (List ℕ)) (e : Entry) → l ≡ Rule s t weight part → Says l e → (qs : List ℕ) × (e ≡ rule s t weight.now qs) × (part.now ≡ fields qs)
said_rule l s t weight part e is (says_kind n) = let z : ◌≡◌ {A = ℕ} 0 1 = cc in absurd (omega arith)
said_rule l s t weight part e is (says_table n p ranks x) = let z : ◌≡◌ {A = ℕ} 0 1 = cc in absurd (omega arith)
said_rule l s t weight part e is (says_accept p) = let z : ◌≡◌ {A = ℕ} 0 1 = cc in absurd (omega arith)
said_rule l s t weight part e is (says_rule s' t' weight' part' qs x) =
    let symbol : s' ≡ s = cc in
    let target : t' ≡ t = cc in
    let bytes : weight' ≡ weight = cc in
    let others : part' ≡ part = cc in
    (qs, (λ i. rule (symbol i) (target i) (bytes i).now qs), ap (λ x. x.now) (sym others) ∙ x)
said_rule l s t weight part e is says_end = let z : ◌≡◌ {A = ℕ} 0 1 = cc in absurd (omega arith)

pub said_table : (l : Line) (n : ℕ) (part : Bor (List ℕ)) (e : Entry) → l ≡ Table n part → Says l e → (ranks : List ℕ) × (e ≡ table n ranks) × (part.now ≡ fields ranks)
said_table l n part e is (says_kind k) = let z : ◌≡◌ {A = ℕ} 0 1 = cc in absurd (omega arith)
said_table l n part e is (says_table n' part' ranks x) =
    let states : n' ≡ n = cc in
    let others : part' ≡ part = cc in
    (ranks, ap (λ k. table k ranks) states, ap (λ x. x.now) (sym others) ∙ x)
said_table l n part e is (says_accept p) = let z : ◌≡◌ {A = ℕ} 0 1 = cc in absurd (omega arith)
said_table l n part e is (says_rule s t w p qs x) = let z : ◌≡◌ {A = ℕ} 0 1 = cc in absurd (omega arith)
said_table l n part e is says_end = let z : ◌≡◌ {A = ℕ} 0 1 = cc in absurd (omega arith)

pub said_end : (l : Line) (e : Entry) → l ≡ End → Says l e → e ≡ end
said_end l e is (says_kind k) = let z : ◌≡◌ {A = ℕ} 0 1 = cc in absurd (omega arith)
said_end l e is (says_table n part ranks x) = let z : ◌≡◌ {A = ℕ} 0 1 = cc in absurd (omega arith)
said_end l e is (says_accept p) = let z : ◌≡◌ {A = ℕ} 0 1 = cc in absurd (omega arith)
said_end l e is (says_rule s t w p qs x) = let z : ◌≡◌ {A = ℕ} 0 1 = cc in absurd (omega arith)
said_end l e is says_end = refl

pub said_other : (l : Line) (e : Entry) → (l ≡ End → ⊥) → Says l e → e ≡ end → ⊥
said_other l e not_end (says_kind k) is = let z : ◌≡◌ {A = ℕ} 0 1 = cc in absurd (omega arith)
said_other l e not_end (says_table n part ranks x) is = let z : ◌≡◌ {A = ℕ} 0 1 = cc in absurd (omega arith)
said_other l e not_end (says_accept p) is = let z : ◌≡◌ {A = ℕ} 0 1 = cc in absurd (omega arith)
said_other l e not_end (says_rule s t w p qs x) is = let z : ◌≡◌ {A = ℕ} 0 1 = cc in absurd (omega arith)
said_other l e not_end says_end is = not_end refl

-- a line that is no rule, sets no state accepting, and does not end the table, is out of place in it
pub misplaced : {W : Type 0} (K : Weights W) (b : Book W) (l : Line) (n : ℕ) (e : Entry) → ((k : ℕ) × (l ≡ Kind k)) ⊎ (((k : ℕ) × (part : Bor (List ℕ)) × (l ≡ Table k part)) ⊎ (l ≡ End)) → Says l e → (e ≡ end → ⊥) → Refuses K (Some b) e n (Layout n)
misplaced K b l n e is (says_kind k) other = refl
misplaced K b l n e is (says_table k part ranks x) other = refl
misplaced K b l n e (inl is) (says_accept p) other = let h = is.1 in let z : ◌≡◌ {A = ℕ} 0 1 = cc in absurd (omega arith)
misplaced K b l n e (inr (inl is)) (says_accept p) other = let h = is.2 in let z : ◌≡◌ {A = ℕ} 0 1 = cc in absurd (omega arith)
misplaced K b l n e (inr (inr is)) (says_accept p) other = let z : ◌≡◌ {A = ℕ} 0 1 = cc in absurd (omega arith)
misplaced K b l n e (inl is) (says_rule s t w p qs x) other = let h = is.1 in let z : ◌≡◌ {A = ℕ} 0 1 = cc in absurd (omega arith)
misplaced K b l n e (inr (inl is)) (says_rule s t w p qs x) other = let h = is.2 in let z : ◌≡◌ {A = ℕ} 0 1 = cc in absurd (omega arith)
misplaced K b l n e (inr (inr is)) (says_rule s t w p qs x) other = let z : ◌≡◌ {A = ℕ} 0 1 = cc in absurd (omega arith)
misplaced K b l n e is says_end other = absurd (other refl)

module _ {W : Type 0} (K : Weights W) (b b' : Book W) (l : Line) (n : ℕ) (r : Result (Unit {0}) Trouble) where
  pub accept_line : (q : ℕ) → l ≡ Accept q → Entered K b (accept q) n b' r → EnteredLine K b l n b' r
  accept_line q is x = λ e says fits other. subst (λ a. Entered K b a n b' r) (sym (said_accept l q e is says)) x

  pub rule_line : (s t : ℕ) (weight part : Bor (List ℕ)) (numbers children : List ℕ) → l ≡ Rule s t weight part → ReadsNumbers part.now numbers → children ≡ numbers → Entered K b (rule s t weight.now children) n b' r → EnteredLine K b l n b' r
  rule_line s t weight part numbers children is reads same x = λ e says fits other.
      let said = said_rule l s t weight part e is says in
      let whole = subst Fits said.1 fits in
      let qs : children ≡ said.0 = same ∙ reads said.0 whole.5 said.2 in
      subst (λ a. Entered K b a n b' r) (sym (said.1 ∙ ap (rule s t weight.now) (sym qs))) x
