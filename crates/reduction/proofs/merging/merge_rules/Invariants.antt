use Rattle.rules.specs.Shapes.{ranks_in, transition}
use Rattle.reduction.specs.Classes.{grouping}
use Rattle.reduction.proofs.Keeping.{Merging}
use Rattle.reduction.proofs.merging.merge_rules.Given as goal

abbrev pub invariant-loop-i : goal.invariant-loop-i
invariant-loop-i g l =
    Merging g.W.Kind.weights (grouping g.W.Kind.stands g.W.Kind.weights l.classes l.work) (transition g.W.Kind.stands (ranks_in l.shape)) l.initial.rules l.rules l.count l.i
