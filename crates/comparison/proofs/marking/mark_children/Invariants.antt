use Rattle.std.proofs.Common.{◌≡◌, take}
use Rattle.comparison.specs.Marking.{marks, Kept, marked_at}
use Rattle.comparison.proofs.marking.mark_children.Given as goal

abbrev pub invariant-loop-child : goal.invariant-loop-child
invariant-loop-child g l = (marks l.work ≡ marked_at (marks l.initial.work) (take l.child-index l.child-items)) × Kept l.initial.work l.work
