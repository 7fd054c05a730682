use Rattle.std.proofs.Common.{subst}
use Rattle.kinds.specs.Marks.{marks}
use Rattle.kinds.specs.Residues.{residues}
use Rattle.kinds.specs.Costs.{costs}
use Rattle.pages.specs.Reading.{AnswersTables}
use Rattle.pages.proofs.ByKind.{page_marks, page_residues, page_costs}
use Rattle.pages.proofs.answering.verdict.Goals as goal

pub returns-in-Marks : goal.returns-in-Marks
returns-in-Marks c =
    page_marks c.args.page.now c.in_ok-named.cursor c.in_ok-named.named c.answer_tables.result c.in-Marks.is c.in_ok-named.ensures.read.0 c.in_ok-named.ensures.read.1
    (subst (λ p. AnswersTables marks p c.in_ok-named.cursor c.answer_tables.result) c.in_ok-named.ensures.page c.answer_tables.ensures)

pub returns-in-Residues : goal.returns-in-Residues
returns-in-Residues c =
    page_residues c.args.page.now c.in_ok-named.cursor c.in_ok-named.named c.answer_tables-in-Residues.result c.in-Residues.is c.in_ok-named.ensures.read.0 c.in_ok-named.ensures.read.1
    (subst (λ p. AnswersTables residues p c.in_ok-named.cursor c.answer_tables-in-Residues.result) c.in_ok-named.ensures.page c.answer_tables-in-Residues.ensures)

pub returns-in-Costs : goal.returns-in-Costs
returns-in-Costs c =
    page_costs c.args.page.now c.in_ok-named.cursor c.in_ok-named.named c.answer_tables-in-Costs.result c.in-Costs.is c.in_ok-named.ensures.read.0 c.in_ok-named.ensures.read.1
    (subst (λ p. AnswersTables costs p c.in_ok-named.cursor c.answer_tables-in-Costs.result) c.in_ok-named.ensures.page c.answer_tables-in-Costs.ensures)
