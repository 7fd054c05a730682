use Rattle.std.proofs.Common.{◌≤◌, length}
use Rattle.rules.specs.Shapes.{states_in, accepts_in}
use Rattle.reduction.specs.Choosing.{Accepting}
use Rattle.reduction.specs.Marking.{live_in, set_in}
use Rattle.reduction.specs.Classes.{factor_at}
use Rattle.reduction.proofs.live_table.LiveTable.choose_accepting.Given as goal

abbrev pub invariant-loop-q : goal.invariant-loop-q
invariant-loop-q g l =
    states_in l.self.table.shape.now ≤ length l.initial.work → Accepting g.W.Kind.weights (accepts_in l.self.table.shape.now) (live_in l.self.life.now) l.q (set_in l.chosen) (factor_at g.W.Kind.stands g.W.Kind.weights l.work)
