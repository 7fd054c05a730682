use Rattle.rules.specs.Shapes.{automaton_of}
use Rattle.comparison.proofs.Accesses.{Planting}
use Rattle.comparison.proofs.accessing.plant_access.Given as goal

abbrev pub invariant-loop-i : goal.invariant-loop-i
invariant-loop-i g l =
    Planting g.W.Kind.weights g.W.Kind.stands (automaton_of g.W.Kind.stands l.tables.first) (automaton_of g.W.Kind.stands l.tables.second) l.fn.side l.reach l.initial.work l.len l.work l.entry l.i
