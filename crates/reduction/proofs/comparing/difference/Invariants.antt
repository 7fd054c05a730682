use Rattle.reduction.proofs.Differences.{Differing}
use Rattle.reduction.proofs.comparing.difference.Given as goal

abbrev pub invariant-loop-k : goal.invariant-loop-k
invariant-loop-k l = Differing l.rank l.left.children l.other.children l.place l.k
