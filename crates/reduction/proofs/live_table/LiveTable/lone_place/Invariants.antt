use Rattle.rules.specs.Shapes.{ranks_in, transition, automaton_of}
use Rattle.reduction.specs.Marking.{live_in}
use Rattle.reduction.specs.Rounds.{LoneNoted}
use Rattle.reduction.proofs.Counterparts.{Below}
use Rattle.reduction.proofs.live_table.LiveTable.lone_place.Given as goal

abbrev pub invariant-loop-q : goal.invariant-loop-q
invariant-loop-q g l =
    Below g.W.Kind.weights (automaton_of g.W.Kind.stands l.self.table) (live_in l.self.life.now)
    (LoneNoted g.W.Kind.weights (automaton_of g.W.Kind.stands l.self.table) (live_in l.self.life.now) (transition g.W.Kind.stands (ranks_in l.self.table.shape.now) l.rule) l.place)
    l.initial.marks l.marks l.q
