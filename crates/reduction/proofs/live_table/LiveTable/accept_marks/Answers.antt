use Rattle.std.proofs.Common.{arith}
use Rattle.reduction.proofs.live_table.LiveTable.accept_marks.Goals as goal

pub returns : goal.returns
returns g c p q = (
  c.loop-p.invariant.only p q,
  λ d. let small = c.args.self.now.few p d.this_live in c.loop-p.invariant.all p q (omega arith) d,
)
