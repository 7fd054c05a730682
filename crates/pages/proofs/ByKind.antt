-- The kind that a page names, and the answer by it.
use Rattle.std.proofs.Common.{◌≡◌, ℕ, List, drop, Ok, Err, Result, Vec, sym, subst}
use Rattle.kinds.specs.Weights.{Weights}
use Rattle.kinds.specs.Marks.{marks}
use Rattle.kinds.specs.Residues.{residues}
use Rattle.kinds.specs.Costs.{costs}
use Rattle.layout.specs.Lines.{kind, Begins}
use Rattle.pages.specs.declared.cursor.Cursor.{Cursor}
use Rattle.pages.specs.declared.named.Named.{Named}
use Rattle.pages.specs.declared.named.Named.TheVariants.{Marks, Residues, Costs}
use Rattle.pages.specs.declared.trouble.Trouble.{Trouble}
use Rattle.pages.specs.declared.trouble.Trouble.TheVariants.{Fault as refused, NoMemory}
use Rattle.pages.specs.Pages.{ByKind, by_marks, by_residues, by_costs, FitsPage, in_tables}
use Rattle.pages.specs.Reading.{number_of, AnswersTables, AnswersPage}

module _ {Z : Type 0} (page : List ℕ) (c : Cursor) (named : Named) (r : Result (Vec ℕ Z) Trouble) where
  -- what is answered by the kind that a page names is the answer to the page
  named_page : {W : Type 0} (K : Weights W) → ((P : (V : Type 0) → Weights V → Type 0) → P W K → ByKind P (number_of named)) → FitsPage page → Begins page (kind (number_of named)) (drop c.at page) → AnswersTables K page c r → AnswersPage page r
  named_page K by fits begins a = at r a
    where
      at : (s : Result (Vec ℕ Z) Trouble) → AnswersTables K page c s → AnswersPage page s
      at (Ok out) x = (number_of named, drop c.at page, fits, begins, by _ x)
      at (Err (refused f)) x = in_tables (number_of named) (drop c.at page) fits begins (by _ x)
      at (Err NoMemory) x = tt

  pub page_marks : named ≡ Marks → FitsPage page → Begins page (kind (number_of named)) (drop c.at page) → AnswersTables marks page c r → AnswersPage page r
  page_marks is = named_page marks (λ P x. subst (λ k. ByKind P (number_of k)) (sym is) (by_marks x))

  pub page_residues : named ≡ Residues → FitsPage page → Begins page (kind (number_of named)) (drop c.at page) → AnswersTables residues page c r → AnswersPage page r
  page_residues is = named_page residues (λ P x. subst (λ k. ByKind P (number_of k)) (sym is) (by_residues x))

  pub page_costs : named ≡ Costs → FitsPage page → Begins page (kind (number_of named)) (drop c.at page) → AnswersTables costs page c r → AnswersPage page r
  page_costs is = named_page costs (λ P x. subst (λ k. ByKind P (number_of k)) (sym is) (by_costs x))
