use Rattle.std.proofs.Common.{get_or, None, arith}
use Rattle.trees.specs.Lists.{blank}
use Rattle.rules.specs.declared.side.Side.TheVariants.{First}
use Rattle.rules.proofs.Entries.{run_more}
use Rattle.rules.proofs.running.run_entries.Goals as goal

pub loop-i-preserved : goal.loop-i-preserved
loop-i-preserved g c =
    run_more g.W.Kind.weights g.W.Kind.stands c.args.table.now.shape.now c.args.table.now.rules.now c.args.list.now First c.loop-i.work c.loop-i.i (record { node = get_or c.args.list.now c.loop-i.i blank; first = c.run_node-first.result; second = None; mark = None }) c.loop-i-test.true (c.requires.0.good c.loop-i.i c.loop-i-test.true) (omega arith) c.loop-i.invariant c.run_node-first.ensures
