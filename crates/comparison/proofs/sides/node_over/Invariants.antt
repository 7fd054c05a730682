use Rattle.comparison.proofs.Nodes.{Filling}
use Rattle.comparison.proofs.sides.node_over.Given as goal

abbrev pub invariant-loop-k : goal.invariant-loop-k
invariant-loop-k l = Filling l.entry l.child-items l.children l.k
