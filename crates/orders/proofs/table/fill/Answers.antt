use Rattle.std.proofs.lemmas.Result.{on_ok_weaker}
use Rattle.tables.specs.Images.{draft_holds}
use Rattle.orders.proofs.Filled.{filled}
use Rattle.orders.proofs.table.fill.Goals as goal

pub returns : goal.returns
returns c =
    on_ok_weaker c.add_lines.result
    (filled (draft_holds (λ v. v) c.args.draft.now) (draft_holds (λ v. v) c.accept.new.self) (draft_holds (λ v. v) c.add_lines.new.draft) _ c.into.result c.args.lines.now c.requires c.into.ensures c.in_ok-accept.ensures.1)
    c.add_lines.ensures
