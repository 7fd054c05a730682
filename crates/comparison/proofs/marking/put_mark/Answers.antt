use Rattle.comparison.proofs.Kept.{mark_put, mark_keeps}
use Rattle.comparison.proofs.marking.put_mark.Goals as goal

pub returns : goal.returns
returns g c =
    record {
      marks = mark_put c.args.work.now c.args.entry c.index-work-entry.result c.args.mark;
      kept = mark_keeps c.args.work.now c.args.entry c.index-work-entry.result c.args.mark;
    }
