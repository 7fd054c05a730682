use Rattle.std.proofs.Common.{◌-◌}
use Rattle.pairs.specs.Counts.{marked_count}
use Rattle.rules.specs.Shapes.{automaton_of}
use Rattle.reduction.specs.Marking.{live_in}
use Rattle.reduction.specs.Rounds.{round_in, Grown}
use Rattle.reduction.proofs.comparison.Comparison.settle.Given as goal

abbrev pub invariant-loop : goal.invariant-loop
invariant-loop g l =
    Grown g.W.Kind.weights (automaton_of g.W.Kind.stands l.self.live.now.table) (live_in l.self.live.now.life.now) (round_in g.W.Kind.stands g.W.Kind.weights l.self.factors) l.initial.marks l.marks

abbrev pub decreases-loop : goal.decreases-loop
decreases-loop g l = 2304 - marked_count l.marks
