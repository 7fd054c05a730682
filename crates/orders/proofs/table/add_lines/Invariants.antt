use Rattle.std.proofs.Common.{◌≡◌, take}
use Rattle.tables.specs.Images.{draft_holds}
use Rattle.orders.specs.Tables.{lines_added}
use Rattle.orders.proofs.table.add_lines.Given as goal

abbrev pub invariant-loop-line : goal.invariant-loop-line
invariant-loop-line l = draft_holds (λ v. v) l.draft ≡ lines_added (draft_holds (λ v. v) l.initial.draft) (take l.line-index l.lines)
