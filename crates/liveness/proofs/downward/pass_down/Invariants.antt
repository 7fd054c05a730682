use Rattle.rules.specs.Shapes.{automaton}
use Rattle.liveness.proofs.Onward.{Falling}
use Rattle.liveness.proofs.downward.pass_down.Given as goal

abbrev pub invariant-loop-i : goal.invariant-loop-i
invariant-loop-i g l = Falling (automaton g.W.Kind.stands l.table.shape.now l.table.rules.now) l.reach l.before l.life l.i
