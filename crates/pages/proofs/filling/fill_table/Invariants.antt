use Rattle.std.proofs.Common.{◌≡◌, ◌-◌, length}
use Rattle.tables.specs.Images.{draft_holds}
use Rattle.pages.proofs.Walks.{Going}
use Rattle.pages.proofs.filling.fill_table.Given as goal

abbrev pub invariant-loop-line : goal.invariant-loop-line
invariant-loop-line g l = (l.cursor.page.now ≡ l.initial.cursor.page.now) × Going g.W.Kind.weights l.initial.cursor.page.now l.initial.cursor l.cursor (draft_holds g.W.Kind.stands l.initial.draft) (draft_holds g.W.Kind.stands l.draft)

abbrev pub decreases-loop-line : goal.decreases-loop-line
decreases-loop-line g l = length l.cursor.page.now - l.cursor.at
