use Rattle.std.proofs.Common.{sym, subst}
use Rattle.liveness.specs.Reaching.{Reaching}
use Rattle.rules.specs.Shapes.{automaton}
use Rattle.liveness.proofs.Derivations.{reaching_none}
use Rattle.liveness.proofs.upward.find_reached.Goals as goal

pub loop-init : goal.loop-init
loop-init g c = subst (Reaching (automaton g.W.Kind.stands c.args.table.now.shape.now c.args.table.now.rules.now)) (sym c.none-found.ensures) (reaching_none (automaton g.W.Kind.stands c.args.table.now.shape.now c.args.table.now.rules.now))

pub returns : goal.returns
returns g c =
    record { listed = c.pass_up.ensures.reaching.0; derived = c.pass_up.ensures.reaching.1; closed = c.pass_up.ensures.rest c.loop-test.false }
