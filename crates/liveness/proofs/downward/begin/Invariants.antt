use Rattle.liveness.proofs.Onward.{Beginning}
use Rattle.liveness.proofs.downward.begin.Given as goal

abbrev pub invariant-loop-q : goal.invariant-loop-q
invariant-loop-q l = Beginning l.shape l.reach l.life l.q
