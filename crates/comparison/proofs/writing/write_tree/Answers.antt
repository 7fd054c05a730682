use Rattle.std.proofs.Common.{◌∙◌, arith}
use Rattle.trees.proofs.Ranks.{rank_small}
use Rattle.rules.specs.Shapes.{ranks_in}
use Rattle.comparison.specs.Marking.{marks}
use Rattle.comparison.proofs.Kept.{kept_entries}
use Rattle.comparison.proofs.Prunes.{pruned}
use Rattle.comparison.proofs.writing.write_tree.Goals as goal

pub write_marked-requires : goal.write_marked-requires
write_marked-requires g c =
    record {
      few = c.requires.few;
      room = c.requires.room;
      entries = kept_entries c.args.work.now c.mark_used.new.work c.mark_used.ensures.kept (ranks_in c.args.shape.now) c.args.top c.requires.entries;
      marking = c.mark_used.ensures.marking;
    }

pub returns : goal.returns
returns g c =
    let kept = c.write_marked.ensures.kept ∙ c.mark_used.ensures.kept in
    record {
      written = pruned (ranks_in c.args.shape.now) c.args.work.now c.write_marked.new.work c.args.top (marks c.write_marked.new.work) c.args.list.now c.write_marked.new.list c.write_marked.result (rank_small c.args.shape.now.measure.alphabet) (omega arith) c.write_marked.auto.list c.requires.room c.write_marked.ensures.beyond kept c.requires.entries c.write_marked.ensures.numbering;
      kept = kept;
    }
