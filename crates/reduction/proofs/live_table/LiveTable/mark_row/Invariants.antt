use Rattle.rules.specs.Shapes.{accepts_in}
use Rattle.reduction.specs.Marking.{live_in}
use Rattle.reduction.specs.Rounds.{AcceptApart}
use Rattle.reduction.proofs.Spreads.{Row}
use Rattle.reduction.proofs.live_table.LiveTable.mark_row.Given as goal

abbrev pub invariant-loop-q : goal.invariant-loop-q
invariant-loop-q g l = Row (AcceptApart (accepts_in l.self.table.shape.now) (live_in l.self.life.now)) l.p l.q l.initial.marks l.marks
