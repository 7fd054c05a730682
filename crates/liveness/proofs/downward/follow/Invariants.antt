use Rattle.rules.specs.Shapes.{ranks_in, transition, automaton}
use Rattle.liveness.proofs.Onward.{Leading}
use Rattle.liveness.proofs.downward.follow.Given as goal

abbrev pub invariant-loop-k : goal.invariant-loop-k
invariant-loop-k g l =
    Leading (automaton g.W.Kind.stands l.table.shape.now l.table.rules.now) l.reach (transition g.W.Kind.stands (ranks_in l.table.shape.now) l.rule) l.initial.life l.life l.k
