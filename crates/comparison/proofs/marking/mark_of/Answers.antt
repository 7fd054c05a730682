use Rattle.comparison.proofs.Kept.{mark_read}
use Rattle.comparison.proofs.marking.mark_of.Goals as goal

pub returns : goal.returns
returns g c = mark_read c.args.work.now c.args.entry c.index-work-entry.result c.requires
