use Rattle.std.proofs.Common.{length}
use Rattle.pairs.specs.Cells.{cell_at}
use Rattle.comparison.specs.Scanning.{two, runs_in}
use Rattle.comparison.specs.Exploring.{Searching, Passed}
use Rattle.comparison.proofs.Cursors.{search_left}
use Rattle.comparison.proofs.exploring.explore.Given as goal

abbrev pub invariant-loop-finding : goal.invariant-loop-finding
invariant-loop-finding g l =
    Searching g.W.Kind.weights g.W.Kind.stands (two g.W.Kind.stands l.tables) l.base l.initial.work l.work (cell_at l.pairs) l.len
    × Passed g.W.Kind.weights (two g.W.Kind.stands l.tables) (runs_in g.W.Kind.stands l.work) (cell_at l.pairs) l.len l.cursor

abbrev pub decreases-loop-finding : goal.decreases-loop-finding
decreases-loop-finding g l = search_left (length l.initial.work) (length l.tables.tables.first.rules.now) (length l.tables.tables.second.rules.now) l.len l.cursor
