use Rattle.std.proofs.Common.{ap, ◌∙◌}
use Rattle.rules.specs.Books.{added}
use Rattle.tables.specs.Images.{draft_holds}
use Rattle.orders.specs.Tables.{line_rule}
use Rattle.orders.proofs.Lines.{added_more}
use Rattle.orders.proofs.table.add_lines.Goals as goal

pub loop-line-preserved : goal.loop-line-preserved
loop-line-preserved c =
    added_more _ _ _ c.args.lines.now c.loop-line.line-index c.line-item.result c.loop-line-test.true c.loop-line.invariant
    (c.in_ok-add_line.ensures ∙ ap (λ l. added (draft_holds (λ v. v) c.loop-line.draft) (line_rule l)) c.line-item.is)
