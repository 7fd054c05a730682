use Rattle.reduction.proofs.RuleTurns.{Followed}
use Rattle.reduction.proofs.chooser.Chooser.choose_children.Given as goal

abbrev pub invariant-loop-k : goal.invariant-loop-k
invariant-loop-k g l =
    Followed g.W.Kind.weights g.W.Kind.stands l.self l.rule l.initial.chosen l.initial.work l.chosen l.work l.k
