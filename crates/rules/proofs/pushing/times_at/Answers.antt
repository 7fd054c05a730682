use Rattle.std.proofs.Common.{◌∙◌}
use Rattle.rules.proofs.Pushes.{times_here, times_other}
use Rattle.rules.proofs.pushing.times_at.Goals as goal

pub returns-then-state-pushed : goal.returns-then-state-pushed
returns-then-state-pushed g c =
    c.times.ensures ∙ times_here g.W.Kind.weights c.args.pushed (g.W.Kind.stands c.args.weight) (g.W.Kind.stands c.args.factor) c.args.state c.if-state-pushed.true

pub returns-else-state-pushed : goal.returns-else-state-pushed
returns-else-state-pushed g c =
    times_other g.W.Kind.weights c.args.pushed (g.W.Kind.stands c.args.weight) (g.W.Kind.stands c.args.factor) c.args.state c.if-state-pushed.false
