use Rattle.std.proofs.Common.{◌+◌}
use Rattle.rules.specs.Shapes.{ranks_in}
use Rattle.comparison.specs.Forest.{nodes}
use Rattle.comparison.specs.Marking.{marks, Kept, Marking}
use Rattle.comparison.proofs.marking.mark_used.Given as goal

abbrev pub invariant-loop-e : goal.invariant-loop-e
invariant-loop-e g l = Marking (ranks_in l.shape) (nodes l.work (l.top + 1)) l.top (marks l.work) l.e × Kept l.initial.work l.work
