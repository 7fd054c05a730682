use Rattle.reduction.specs.Choosing.{Grown}
use Rattle.reduction.proofs.ClassTurns.{Turned}
use Rattle.reduction.proofs.chooser.Chooser.choose_class.Given as goal

abbrev pub invariant-loop-q : goal.invariant-loop-q
invariant-loop-q g l =
    Grown l.initial.chosen l.chosen × Turned g.W.Kind.weights g.W.Kind.stands l.self l.rule l.place l.initial.chosen l.initial.work l.chosen l.work l.q
