use Rattle.rules.specs.Shapes.{automaton_of}
use Rattle.reduction.specs.Marking.{live_in}
use Rattle.reduction.specs.Rounds.{round_in, ComparedOne}
use Rattle.reduction.proofs.Passes.{SweptTo}
use Rattle.reduction.proofs.comparison.Comparison.compare_all.Given as goal

abbrev pub invariant-loop-rule : goal.invariant-loop-rule
invariant-loop-rule g l =
    SweptTo g.W.Kind.weights (automaton_of g.W.Kind.stands l.self.live.now.table) (live_in l.self.live.now.life.now) (round_in g.W.Kind.stands g.W.Kind.weights l.self.factors)
    (ComparedOne g.W.Kind.weights (automaton_of g.W.Kind.stands l.self.live.now.table) (live_in l.self.live.now.life.now) (round_in g.W.Kind.stands g.W.Kind.weights l.self.factors))
    l.rule-index l.initial.marks l.marks l.marked
