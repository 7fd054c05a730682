-- The length and the first line of a page.
use Rattle.std.proofs.Common.{◌≡◌, ℕ, ◌<◌, List, length, drop, Ok, Err, sym, refl, ap, ◌∙◌, subst, arith, length-drop}
use Rattle.layout.specs.declared.line.Line.{Line}
use Rattle.layout.specs.declared.line.Line.TheVariants.{Kind}
use Rattle.layout.specs.Lines.{Entry, kind, Begins, Says, says_kind, says_table, says_accept, says_rule, says_end}
use Rattle.layout.proofs.Unique.{begins_once}
use Rattle.pages.specs.declared.cursor.Cursor.{Cursor}
use Rattle.pages.specs.declared.fault.Fault.TheVariants.{Layout}
use Rattle.pages.specs.declared.named.Named.{Named}
use Rattle.pages.specs.Pages.{Known, FitsPage, FirstFault, no_kind}
use Rattle.pages.specs.Reading.{Steps, ReadsEnd, number_of, ReadsKind}

pub end_some : (page : List ℕ) (c : Cursor) → c.at < length page → ReadsEnd page c (Err (Layout c.line))
end_some page c h = (refl, λ e. let none : length (drop c.at page) ≡ 0 = ap length e in omega (arith, length-drop c.at page))

said_kind : (l : Line) (n : ℕ) (e : Entry) → l ≡ Kind n → Says l e → e ≡ kind n
said_kind l n e is (says_kind k) = let same : k ≡ n = cc in ap kind same
said_kind l n e is (says_table k part ranks x) = let z : ◌≡◌ {A = ℕ} 0 1 = cc in absurd (omega arith)
said_kind l n e is (says_accept q) = let z : ◌≡◌ {A = ℕ} 0 1 = cc in absurd (omega arith)
said_kind l n e is (says_rule s t w p qs x) = let z : ◌≡◌ {A = ℕ} 0 1 = cc in absurd (omega arith)
said_kind l n e is says_end = let z : ◌≡◌ {A = ℕ} 0 1 = cc in absurd (omega arith)

said_no_kind : (l : Line) (n : ℕ) (e : Entry) → ((k : ℕ) → l ≡ Kind k → ⊥) → Says l e → e ≡ kind n → ⊥
said_no_kind l n e other (says_kind k) is = other k refl
said_no_kind l n e other (says_table k part ranks x) is = let z : ◌≡◌ {A = ℕ} 0 1 = cc in absurd (omega arith)
said_no_kind l n e other (says_accept q) is = let z : ◌≡◌ {A = ℕ} 0 1 = cc in absurd (omega arith)
said_no_kind l n e other (says_rule s t w p qs x) is = let z : ◌≡◌ {A = ℕ} 0 1 = cc in absurd (omega arith)
said_no_kind l n e other says_end is = let z : ◌≡◌ {A = ℕ} 0 1 = cc in absurd (omega arith)

module _ (page : List ℕ) (c c' : Cursor) (fits : FitsPage page) (start : c.at ≡ 0) (first : c.line ≡ 1) where
  pub kind_found : (l : Line) (n : ℕ) (e : Entry) (k : Named) → Steps page c e c' → Says l e → l ≡ Kind n → number_of k ≡ n → ReadsKind page (Ok (k, c'))
  kind_found l n e k steps says is named =
      let begins = subst (λ a. Begins (drop a page) e (drop c'.at page)) start steps.begins in
      (fits, subst (λ a. Begins page a (drop c'.at page)) (said_kind l n e is says ∙ ap kind (sym named)) begins, omega (arith, steps.number, first))

  -- a fault in the first line
  unnamed : (line : ℕ) → line ≡ c.line → ((n : ℕ) (more : List ℕ) → Begins (drop c.at page) (kind n) more → Known n → ⊥) → FirstFault page (Layout line)
  unnamed line is none =
      subst (λ n. FirstFault page (Layout n)) (sym (is ∙ first)) (no_kind fits (subst (λ a. (n : ℕ) (more : List ℕ) → Begins (drop a page) (kind n) more → Known n → ⊥) start none))

  pub no_line : (line : ℕ) → line ≡ c.line → ((e : Entry) (more : List ℕ) → Begins (drop c.at page) e more → ⊥) → FirstFault page (Layout line)
  no_line line is none = unnamed line is (λ n more b k. none (kind n) more b)

  pub no_kind_line : (line : ℕ) (l : Line) (e : Entry) → line ≡ c.line → Steps page c e c' → Says l e → ((k : ℕ) → l ≡ Kind k → ⊥) → FirstFault page (Layout line)
  no_kind_line line l e is steps says other = unnamed line is (λ n more b k.
      said_no_kind l n e other says (begins_once (drop c.at page) e (kind n) (drop c'.at page) more steps.begins b).0)

  pub no_known_kind : (line : ℕ) (l : Line) (n : ℕ) (e : Entry) → line ≡ c.line → Steps page c e c' → Says l e → l ≡ Kind n → (Known n → ⊥) → FirstFault page (Layout line)
  no_known_kind line l n e is steps says is-kind unknown = unnamed line is (λ m more b k.
      let entries = (begins_once (drop c.at page) e (kind m) (drop c'.at page) more steps.begins b).0 in
      let said = said_kind l n e is-kind says in
      let same : m ≡ n = cc in
      unknown (subst Known same k))
