use Rattle.std.proofs.Common.{◌≡◌, length}
use Rattle.rules.specs.Running.{run_at}
use Rattle.rules.proofs.Rows.{Gathering}
use Rattle.rules.proofs.running.gather.Given as goal

abbrev pub invariant-loop-k : goal.invariant-loop-k
invariant-loop-k g l =
    (length l.states ≡ 4) × Gathering g.W.Kind.weights (run_at g.W.Kind.stands l.side l.work) l.entries l.states l.k (g.W.Kind.stands l.weight)
