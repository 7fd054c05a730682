use Rattle.std.proofs.Common.{length, arith}
use Rattle.pairs.specs.Cells.{cell_at}
use Rattle.comparison.specs.Scanning.{two, runs_in}
use Rattle.comparison.proofs.Cursors.{passed_found, search_falls}
use Rattle.comparison.proofs.Searches.{cursor_on, cursor_falls, search_within, search_earlier, search_bound, search_settled, search_ended, search_on}
use Rattle.comparison.proofs.exploring.explore.Goals as goal

pub scan_at-requires-clause-within : goal.scan_at-requires-clause-within
scan_at-requires-clause-within g c =
    search_within g.W.Kind.weights g.W.Kind.stands c.args.tables.now c.args.work.now c.args.base c.requires.live c.loop-finding.work (cell_at c.loop-finding.pairs) c.loop-finding.len c.loop-finding.invariant.0

pub returns-in_default-advance : goal.returns-in_default-advance
returns-in_default-advance g c =
    search_settled g.W.Kind.weights g.W.Kind.stands c.args.tables.now c.args.work.now c.args.base c.requires.live c.loop-finding.work (cell_at c.loop-finding.pairs) c.loop-finding.len c.loop-finding.invariant.0 c.loop-finding.cursor c.requires.same c.loop-finding.invariant.1 c.in_default-advance.ensures

pub loop-finding-smaller : goal.loop-finding-smaller
loop-finding-smaller g c =
    cursor_falls g.W.Kind.weights g.W.Kind.stands c.args.tables.now c.args.work.now c.args.base (runs_in g.W.Kind.stands c.loop-finding.work) (cell_at c.loop-finding.pairs) (length c.args.work.now) c.loop-finding.len c.loop-finding.cursor c.in-Some-advance.next c.loop-finding.invariant.1 c.in-Some-advance.ensures

pub loop-finding-preserved : goal.loop-finding-preserved
loop-finding-preserved g c = (
  c.loop-finding.invariant.0,
  cursor_on g.W.Kind.weights g.W.Kind.stands c.args.tables.now c.args.work.now c.args.base (runs_in g.W.Kind.stands c.loop-finding.work) (cell_at c.loop-finding.pairs) c.loop-finding.len c.loop-finding.cursor c.in-Some-advance.next (c.scan_at.ensures.clear c.in_default.is) c.loop-finding.invariant.1 c.in-Some-advance.ensures,
)

pub take_up-requires-clause-room : goal.take_up-requires-clause-room
take_up-requires-clause-room g c =
    let bound = search_bound g.W.Kind.weights g.W.Kind.stands c.args.tables.now c.args.work.now c.args.base c.requires.live c.loop-finding.work (cell_at c.loop-finding.pairs) c.loop-finding.len c.loop-finding.invariant.0 in
    omega (arith, bound, c.requires.room, c.loop-finding.auto.work)

pub take_up-requires-clause-earlier : goal.take_up-requires-clause-earlier
take_up-requires-clause-earlier g c =
    search_earlier g.W.Kind.weights g.W.Kind.stands c.args.tables.now c.args.work.now c.args.base c.requires.live c.loop-finding.work (cell_at c.loop-finding.pairs) c.loop-finding.len c.loop-finding.invariant.0

pub take_up-requires-clause-told : goal.take_up-requires-clause-told
take_up-requires-clause-told g c = c.scan_at.ensures.found c.in-Some.finding c.in-Some.is

pub returns-in-Some-take_up : goal.returns-in-Some-take_up
returns-in-Some-take_up g c =
    search_ended g.W.Kind.weights g.W.Kind.stands c.args.tables.now c.args.work.now c.args.base c.requires.live c.loop-finding.work (cell_at c.loop-finding.pairs) c.loop-finding.len c.loop-finding.invariant.0 c.take_up.new.work (cell_at c.take_up.new.pairs) c.in-Some-take_up.outcome
    (c.in-Some-take_up.ensures c.args.base c.loop-finding.invariant.0.longer c.requires.live c.loop-finding.invariant.0.forest c.loop-finding.invariant.0.pairing)

pub loop-finding-smaller-in-Some : goal.loop-finding-smaller-in-Some
loop-finding-smaller-in-Some g c =
    let bound = search_bound g.W.Kind.weights g.W.Kind.stands c.args.tables.now c.args.work.now c.args.base c.requires.live c.loop-finding.work (cell_at c.loop-finding.pairs) c.loop-finding.len c.loop-finding.invariant.0 in
    search_falls (length c.args.work.now) (length c.args.tables.now.tables.first.rules.now) (length c.args.tables.now.tables.second.rules.now) c.loop-finding.len c.loop-finding.cursor (omega (arith, bound, c.requires.room))

pub loop-finding-preserved-in-Some : goal.loop-finding-preserved-in-Some
loop-finding-preserved-in-Some g c = (
  search_on g.W.Kind.weights g.W.Kind.stands c.args.tables.now c.args.work.now c.args.base c.requires.live c.loop-finding.work (cell_at c.loop-finding.pairs) c.loop-finding.len c.loop-finding.invariant.0 c.take_up.new.work (cell_at c.take_up.new.pairs)
      (c.in_default-take_up.ensures c.args.base c.loop-finding.invariant.0.longer c.requires.live c.loop-finding.invariant.0.forest c.loop-finding.invariant.0.pairing),
  passed_found g.W.Kind.weights (two g.W.Kind.stands c.args.tables.now) (runs_in g.W.Kind.stands c.loop-finding.work) (cell_at c.loop-finding.pairs) (runs_in g.W.Kind.stands c.take_up.new.work) (cell_at c.take_up.new.pairs) c.loop-finding.len c.loop-finding.cursor
      (c.in_default-take_up.ensures c.args.base c.loop-finding.invariant.0.longer c.requires.live c.loop-finding.invariant.0.forest c.loop-finding.invariant.0.pairing).1 c.loop-finding.invariant.1,
)
