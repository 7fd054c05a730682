use Rattle.std.proofs.Common.{arith}
use Rattle.rules.specs.Shapes.{ranks_in}
use Rattle.reduction.specs.Marking.{live_in}
use Rattle.reduction.proofs.Counterparts.{counterpart_read}
use Rattle.reduction.proofs.live_table.LiveTable.has_counterpart.Goals as goal

pub returns : goal.returns
returns g c = record {
  found =
      counterpart_read g.W.Kind.stands (ranks_in c.args.self.now.table.shape.now) c.args.self.now.table.rules.now (live_in c.args.self.now.life.now) c.args.left.now.symbol c.from-symbol.result c.rank-rank.result c.args.place c.args.other c.args.left.now.children c.states-children.result c.leads_on.result
      (omega arith) c.rank-rank.ensures.value c.from-symbol.ensures c.states-children.ensures (c.leads_on.ensures (ranks_in c.args.self.now.table.shape.now));
  four = omega arith;
}
