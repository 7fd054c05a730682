use Rattle.std.proofs.Common.{arith}
use Rattle.reduction.proofs.Giving.{grown_set, given_set}
use Rattle.reduction.proofs.choosing.give.Goals as goal

pub returns-then-not-chosen-state : goal.returns-then-not-chosen-state
returns-then-not-chosen-state g c =
    record {
      grown = grown_set c.args.chosen.now c.args.state (omega arith) c.if-not-chosen-state.true;
      given = λ h l off.
          given_set g.W.Kind.weights g.W.Kind.stands c.args.chosen.now c.args.work.now c.args.state c.holding.result (g.W.Kind.stands c.args.weight) (omega arith) l c.holding.ensures;
    }
