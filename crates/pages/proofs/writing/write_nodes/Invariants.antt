use Rattle.std.proofs.Common.{◌≡◌, ◌++◌, take, vec_items}
use Rattle.trees.specs.Alphabets.{ranks_of}
use Rattle.pages.specs.Answering.{node_lines}
use Rattle.pages.proofs.writing.write_nodes.Given as goal

abbrev pub invariant-loop-i : goal.invariant-loop-i
invariant-loop-i l = vec_items l.out ≡ vec_items l.initial.out ++ node_lines (ranks_of l.alphabet) 0 (take l.i l.list)
