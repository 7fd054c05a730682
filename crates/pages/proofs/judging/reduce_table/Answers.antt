use Rattle.std.proofs.Common.{length}
use Rattle.tables.specs.Images.{closed_holds}
use Rattle.pages.proofs.Judged.{reduced_least}
use Rattle.pages.proofs.judging.reduce_table.Goals as goal

pub returns : goal.returns
returns g c =
    reduced_least g.W.Kind.weights (closed_holds g.W.Kind.stands c.args.table.now) (closed_holds g.W.Kind.stands c.reduce.new.self) (length c.deref_mut.result.now) c.reduce.result c.at_line.result (c.in_ok-states.field-0-0, c.in_ok-states.states) c.at_line.ensures c.in_ok-states.was c.reduce.ensures.unmoved
