use Rattle.rules.specs.Shapes.{accepts_in}
use Rattle.reduction.specs.Marking.{live_in}
use Rattle.reduction.specs.Rounds.{AcceptApart}
use Rattle.reduction.proofs.Spreads.{Rows}
use Rattle.reduction.proofs.live_table.LiveTable.accept_marks.Given as goal

abbrev pub invariant-loop-p : goal.invariant-loop-p
invariant-loop-p g l = Rows (AcceptApart (accepts_in l.self.table.shape.now) (live_in l.self.life.now)) l.p l.marks
