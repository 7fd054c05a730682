use Rattle.std.proofs.Common.{◌≡◌, ◌+◌, drop}
use Rattle.rules.specs.Shapes.{ranks_in}
use Rattle.comparison.specs.Forest.{nodes}
use Rattle.comparison.specs.Marking.{marks, Kept, Numbering}
use Rattle.comparison.proofs.writing.write_marked.Given as goal

abbrev pub invariant-loop-e : goal.invariant-loop-e
invariant-loop-e g l =
    Numbering (ranks_in l.shape) (nodes l.work (l.top + 1)) l.top (marks l.work) l.list l.e l.count × Kept l.initial.work l.work × (drop l.count l.list ≡ drop l.count l.initial.list)
