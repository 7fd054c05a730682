use Rattle.pairs.specs.Cells.{cell_at}
use Rattle.reduction.specs.Marking.{live_in}
use Rattle.reduction.proofs.Entering.{Seen}
use Rattle.reduction.proofs.numbering.number_classes.Given as goal

abbrev pub invariant-loop-q : goal.invariant-loop-q
invariant-loop-q l = Seen (live_in l.life) (cell_at l.marks) l.of l.count l.q
