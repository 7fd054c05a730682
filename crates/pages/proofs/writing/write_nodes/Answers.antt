use Rattle.std.proofs.Common.{refl}
use Rattle.trees.specs.Alphabets.{ranks_of}
use Rattle.pages.proofs.Lines.{nodes_written}
use Rattle.pages.proofs.writing.write_nodes.Goals as goal

pub loop-i-preserved : goal.loop-i-preserved
loop-i-preserved c = nodes_written _ _ _ (ranks_of c.args.alphabet.now) c.args.list.now c.loop-i.i _ c.loop-i-test.true refl c.loop-i.invariant c.in_ok-write_node.ensures
