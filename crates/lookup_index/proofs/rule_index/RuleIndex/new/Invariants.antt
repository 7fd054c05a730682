use Rattle.std.proofs.Common.{◌≤◌, length}
use Rattle.rules.specs.Shapes.{ranks_in}
use Rattle.lookup_index.specs.Indexes.{IndexesFrom}
use Rattle.lookup_index.proofs.rule_index.RuleIndex.new.Given as goal

abbrev pub invariant-loop-k : goal.invariant-loop-k
invariant-loop-k g l = length l.rules ≤ 1024 → IndexesFrom (ranks_in l.shape) l.index l.rules l.k
