use Rattle.std.proofs.Common.{◌+◌, ◌-◌}
use Rattle.rules.specs.Shapes.{automaton_of}
use Rattle.comparison.proofs.Climbs.{Climbing}
use Rattle.comparison.proofs.climbing.climb_from.Given as goal

abbrev pub invariant-loop-table : goal.invariant-loop-table
invariant-loop-table g l =
    Climbing g.W.Kind.weights g.W.Kind.stands (automaton_of g.W.Kind.stands l.tables.first) (automaton_of g.W.Kind.stands l.tables.second) l.fn.side l.survey.life l.survey.access l.initial.work l.len l.entry l.state l.work l.end l.top l.at

abbrev pub decreases-loop-table : goal.decreases-loop-table
decreases-loop-table g l = l.len + l.survey.life.count - l.end
