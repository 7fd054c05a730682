use Rattle.rules.specs.Shapes.{ranks_in, transition, automaton_of}
use Rattle.reduction.specs.Marking.{live_in}
use Rattle.reduction.specs.Rounds.{LonePlace}
use Rattle.reduction.proofs.Counterparts.{Below}
use Rattle.reduction.proofs.live_table.LiveTable.lone_rule.Given as goal

abbrev pub invariant-loop-place : goal.invariant-loop-place
invariant-loop-place g l =
    Below g.W.Kind.weights (automaton_of g.W.Kind.stands l.self.table) (live_in l.self.life.now)
    (LonePlace g.W.Kind.weights (automaton_of g.W.Kind.stands l.self.table) (live_in l.self.life.now) (transition g.W.Kind.stands (ranks_in l.self.table.shape.now) l.rule))
    l.initial.marks l.marks l.place
