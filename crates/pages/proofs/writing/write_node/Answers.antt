use Rattle.std.proofs.Common.{◌+◌, ◌-◌, arith}
use Rattle.trees.specs.Alphabets.{ranks_of}
use Rattle.pages.proofs.Lines.{node_written}
use Rattle.pages.proofs.writing.write_node.Goals as goal

pub returns : goal.returns
returns c =
    node_written c.write_line.result _ _ (ranks_of c.args.alphabet.now) c.args.node.now c.args.number (2 + c.rank_or_zero.result - 0) c.rank_or_zero.result c.numbers_of-numbers.result c.numbers_of-numbers.ensures c.rank_or_zero.ensures.value (omega arith) c.write_line.ensures
