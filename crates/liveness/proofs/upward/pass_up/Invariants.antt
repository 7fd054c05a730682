use Rattle.rules.specs.Shapes.{automaton}
use Rattle.liveness.proofs.Derivations.{Rising}
use Rattle.liveness.proofs.upward.pass_up.Given as goal

abbrev pub invariant-loop-i : goal.invariant-loop-i
invariant-loop-i g l = Rising (automaton g.W.Kind.stands l.table.shape.now l.table.rules.now) l.before l.found l.i
