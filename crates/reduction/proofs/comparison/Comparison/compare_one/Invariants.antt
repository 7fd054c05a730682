use Rattle.rules.specs.Shapes.{ranks_in, transition, automaton_of}
use Rattle.reduction.specs.Marking.{live_in}
use Rattle.reduction.specs.Rounds.{round_in, Compared}
use Rattle.reduction.proofs.Passes.{SweptTo}
use Rattle.reduction.proofs.comparison.Comparison.compare_one.Given as goal

abbrev pub invariant-loop-other : goal.invariant-loop-other
invariant-loop-other g l =
    SweptTo g.W.Kind.weights (automaton_of g.W.Kind.stands l.self.live.now.table) (live_in l.self.live.now.life.now) (round_in g.W.Kind.stands g.W.Kind.weights l.self.factors)
    (Compared g.W.Kind.weights (automaton_of g.W.Kind.stands l.self.live.now.table) (live_in l.self.live.now.life.now) (round_in g.W.Kind.stands g.W.Kind.weights l.self.factors) (transition g.W.Kind.stands (ranks_in l.self.live.now.table.shape.now) l.rule))
    l.other-index l.initial.marks l.marks l.marked
