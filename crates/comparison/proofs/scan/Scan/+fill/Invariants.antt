use Rattle.std.proofs.Common.{length, take}
use Rattle.comparison.specs.Scanning.{tables_of, runs_of, entry_of}
use Rattle.comparison.proofs.Tuples.{EachClear}
use Rattle.comparison.proofs.scan.Scan.+fill.Given as goal

abbrev pub decreases-fill : goal.decreases-fill
decreases-fill g l = length l.states.now

abbrev pub invariant-loop-q : goal.invariant-loop-q
invariant-loop-q g l =
    EachClear g.W.Kind.weights (tables_of g.W.Kind.stands l.self) (runs_of g.W.Kind.stands l.self) (entry_of l.self) l.side l.node.symbol (take l.place l.node.children) l.state l.rest l.q
