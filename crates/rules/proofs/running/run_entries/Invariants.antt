use Rattle.std.proofs.Common.{◌≡◌, ℕ, ◌<◌}
use Rattle.automata.specs.Runs.{run}
use Rattle.trees.specs.Lists.{tree_at}
use Rattle.rules.specs.declared.side.Side.TheVariants.{First}
use Rattle.rules.specs.Running.{run_at}
use Rattle.rules.specs.Shapes.{ranks_in, automaton}
use Rattle.rules.proofs.running.run_entries.Given as goal

abbrev pub invariant-loop-i : goal.invariant-loop-i
invariant-loop-i g l =
    (j : ℕ) → j < l.i → run_at g.W.Kind.stands First l.work j ≡ run g.W.Kind.weights (automaton g.W.Kind.stands l.table.shape.now l.table.rules.now) (tree_at (ranks_in l.table.shape.now) l.list j)
