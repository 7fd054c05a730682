use Rattle.std.proofs.Common.{◌≡◌, length}
use Rattle.rules.specs.Shapes.{children_in}
use Rattle.reduction.proofs.Names.{Named}
use Rattle.reduction.proofs.merging.child_classes.Given as goal

abbrev pub invariant-loop-k : goal.invariant-loop-k
invariant-loop-k l = (length l.places ≡ 4) × Named l.classes (children_in l.shape l.left) l.places l.k
