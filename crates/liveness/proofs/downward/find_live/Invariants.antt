use Rattle.std.proofs.Common.{◌-◌}
use Rattle.rules.specs.Shapes.{automaton}
use Rattle.liveness.specs.Living.{Living}
use Rattle.liveness.proofs.downward.find_live.Given as goal

abbrev pub invariant-loop : goal.invariant-loop
invariant-loop g l = Living (automaton g.W.Kind.stands l.table.shape.now l.table.rules.now) l.reach l.life

abbrev pub decreases-loop : goal.decreases-loop
decreases-loop g l = 48 - l.life.count
