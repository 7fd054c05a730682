use Rattle.std.proofs.Common.{◌∙◌}
use Rattle.std.proofs.lemmas.List.{take_rest}
use Rattle.layout.proofs.Ends.{unbroken_none, line_none}
use Rattle.layout.proofs.lines.line_at.Goals as goal

pub returns-in_err-end : goal.returns-in_err-end
returns-in_err-end c =
    let rest = c.in_ok-rest.ensures.lookup.0.2 ∙ take_rest c.args.page.now c.args.at in
    let ends = rw rest at c.in_err-end.ensures in
    rw c.from_residual-in_err-end.ensures (unbroken_none _ ends)

pub returns-in_err-line : goal.returns-in_err-line
returns-in_err-line c =
    let rest = c.in_ok-rest.ensures.lookup.0.2 ∙ take_rest c.args.page.now c.args.at in
    rw c.from_residual-in_err-line.ensures (line_none c.args.page.now _ c.args.at c.in_ok-end.end rest c.in_ok-end.ensures c.in_err-line.ensures)
