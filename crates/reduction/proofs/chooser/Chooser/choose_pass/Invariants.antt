use Rattle.reduction.proofs.RuleTurns.{Passing}
use Rattle.reduction.proofs.chooser.Chooser.choose_pass.Given as goal

abbrev pub invariant-loop-rule : goal.invariant-loop-rule
invariant-loop-rule g l =
    Passing g.W.Kind.weights g.W.Kind.stands l.self l.initial.chosen l.initial.work l.chosen l.work l.rule-index
