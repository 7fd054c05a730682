use Rattle.std.proofs.Common.{◌≡◌}
use Rattle.rules.specs.Pushing.{PushedTo}
use Rattle.rules.specs.Shapes.{ranks_in}
use Rattle.rules.proofs.pushing.push_rules.Given as goal

abbrev pub invariant-loop-rule : goal.invariant-loop-rule
invariant-loop-rule g l =
    g.W.Kind.stands l.fn.back ≡ g.W.Kind.weights.inverse (g.W.Kind.stands l.fn.factor) → PushedTo g.W.Kind.weights g.W.Kind.stands (ranks_in l.shape) l.fn.state (g.W.Kind.stands l.fn.factor) l.initial.rule-items l.rule-items l.rule-index
