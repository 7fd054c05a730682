use Rattle.reduction.specs.Choosing.{Readiness, Choice, unset}
use Rattle.reduction.proofs.chooser.Chooser.choose_factors.Given as goal

abbrev pub invariant-loop-chosen : goal.invariant-loop-chosen
invariant-loop-chosen g l =
    Readiness g.W.Kind.stands g.W.Kind.weights l.self l.work → Choice g.W.Kind.stands g.W.Kind.weights l.self l.chosen l.work

abbrev pub decreases-loop-chosen : goal.decreases-loop-chosen
decreases-loop-chosen g l = unset l.chosen
