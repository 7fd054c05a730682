use Rattle.std.proofs.Common.{◌-◌}
use Rattle.rules.specs.Shapes.{automaton}
use Rattle.liveness.specs.Reaching.{Reaching}
use Rattle.liveness.proofs.upward.find_reached.Given as goal

abbrev pub invariant-loop : goal.invariant-loop
invariant-loop g l = Reaching (automaton g.W.Kind.stands l.table.shape.now l.table.rules.now) l.found

abbrev pub decreases-loop : goal.decreases-loop
decreases-loop g l = 48 - l.found.count
