use Rattle.std.proofs.Common.{◌≡◌, Some}
use Rattle.std.specs.List.{slice_get}
use Rattle.automata.specs.Automata.{Transition}
use Rattle.rules.specs.Shapes.{automaton_of}
use Rattle.reduction.specs.Marking.{live_in}
use Rattle.reduction.specs.Rounds.{LoneRule}
use Rattle.reduction.proofs.Counterparts.{Below}
use Rattle.reduction.proofs.live_table.LiveTable.mark_lone.Given as goal

abbrev pub invariant-loop-rule : goal.invariant-loop-rule
invariant-loop-rule g l =
    Below g.W.Kind.weights (automaton_of g.W.Kind.stands l.self.table) (live_in l.self.life.now)
    (λ i t. (r : Transition g.row.W-Weight.Denot) → slice_get (automaton_of g.W.Kind.stands l.self.table).rules i ≡ Some r → LoneRule g.W.Kind.weights (automaton_of g.W.Kind.stands l.self.table) (live_in l.self.life.now) r t)
    l.initial.marks l.marks l.rule-index
