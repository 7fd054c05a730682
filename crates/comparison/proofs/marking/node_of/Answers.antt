use Rattle.comparison.proofs.Kept.{node_read}
use Rattle.comparison.proofs.marking.node_of.Goals as goal

pub returns : goal.returns
returns g c = node_read c.args.work.now c.args.entry c.index-work-entry.result c.requires
