use Rattle.std.proofs.Common.{vec_items}
use Rattle.pages.proofs.FirstLines.{first_refused, first_measured}
use Rattle.pages.proofs.measuring.read_measure.Goals as goal

pub returns-in_default : goal.returns-in_default
returns-in_default c =
    let read = c.in_ok-states.ensures.read in
    let refused = first_refused c.args.cursor.now.page.now c.args.cursor.now c.next_line.new.self c.in_ok-states.field-0 c.line-line.result read.0 read.1 read.2 c.in_default.not-Table c.line-line.ensures in
    record { read = refused; page = c.next_line.ensures.page }

pub returns : goal.returns
returns c =
    let read = c.in_ok-states.ensures.read in
    let measured = first_measured c.args.cursor.now.page.now c.args.cursor.now c.next_line.new.self c.in_ok-states.field-0 c.in-Table.states c.in-Table.ranks (vec_items c.in_ok-ranks.ranks) c.deref.result.now read.0 c.line-line.result c.measured.result read.1 read.2 c.in-Table.is c.in_ok-ranks.ensures c.deref.ensures.value c.line-line.ensures c.measured.ensures in
    record { read = measured; page = c.next_line.ensures.page }
