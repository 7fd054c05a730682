use Rattle.std.proofs.Common.{ℕ, ◌<◌}
use Rattle.trees.specs.Alphabets.{ranks_of}
use Rattle.trees.specs.Lists.{GoodAt}
use Rattle.trees.proofs.checks.check_list.Given as goal

abbrev pub invariant-loop-i : goal.invariant-loop-i
invariant-loop-i l = (k : ℕ) → k < l.i → GoodAt (ranks_of l.alphabet) l.list k
