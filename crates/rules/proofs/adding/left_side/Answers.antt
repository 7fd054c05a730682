use Rattle.std.proofs.Common.{◌<◌, refl, ◌∙◌, arith, length-set}
use Rattle.std.proofs.ByRecursion.{All-get_or}
use Rattle.trees.proofs.Ranks.{copy_more, copy_all}
use Rattle.rules.proofs.adding.left_side.Goals as goal

pub overflow_cast-places : goal.overflow_cast-places
overflow_cast-places c = record { fits = All-get_or (λ q. q < 256) c.args.children.now c.loop-k.k 0 c.loop-k-test.true c.requires.1.1 }

pub loop-k-preserved : goal.loop-k-preserved
loop-k-preserved c = (
  length-set _ _ _ ∙ c.loop-k.invariant.0,
  copy_more c.loop-k.places c.args.children.now c.loop-k.k 0 (omega (arith, c.loop-k.invariant.0)) c.loop-k-test.true c.loop-k.invariant.1,
)

pub returns : goal.returns
returns c = record { symbol = refl; children = copy_all c.loop-k.places c.args.children.now c.loop-k.k (omega arith) c.loop-k.invariant.1 }
