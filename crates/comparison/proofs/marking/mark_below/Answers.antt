use Rattle.std.proofs.Common.{◌+◌, ◌<◌, get_or, refl, arith}
use Rattle.std.proofs.lemmas.Bool.{false≢true}
use Rattle.trees.proofs.Ranks.{rank_small}
use Rattle.rules.specs.Shapes.{ranks_in}
use Rattle.comparison.specs.Forest.{nodes}
use Rattle.comparison.specs.Marking.{marks}
use Rattle.comparison.proofs.Marks.{marking_skip}
use Rattle.comparison.proofs.Steps.{entry_within, entry_marked}
use Rattle.comparison.proofs.marking.mark_below.Goals as goal

pub mark_children-requires : goal.mark_children-requires
mark_children-requires g c =
    entry_within (ranks_in c.args.shape.now) (rank_small c.args.shape.now.measure.alphabet) c.args.work.now c.args.top c.requires.entries c.args.entry c.node_of-node.result c.requires.within (c.node_of-node.ensures (c.args.top + 1) c.requires.within)

pub returns-then-is_marked : goal.returns-then-is_marked
returns-then-is_marked g c =
    record {
      marking = entry_marked (ranks_in c.args.shape.now) (rank_small c.args.shape.now.measure.alphabet) c.args.work.now c.args.top c.requires.entries c.args.entry c.node_of-node.result c.requires.within (c.node_of-node.ensures (c.args.top + 1) c.requires.within) c.mark_children.new.work (c.if-is_marked.ensures.0 refl) c.mark_children.ensures.marks c.mark_children.ensures.kept c.requires.marking;
      kept = c.mark_children.ensures.kept;
    }

pub returns-else-is_marked : goal.returns-else-is_marked
returns-else-is_marked g c =
    let unmarked : 0 < get_or (marks c.args.work.now) c.args.entry 0 → ⊥ = λ h. false≢true (c.if-is_marked.ensures.1 h) in
    record {
      marking = marking_skip (ranks_in c.args.shape.now) (nodes c.args.work.now (c.args.top + 1)) c.args.top (marks c.args.work.now) c.args.entry (omega arith) c.requires.marking;
      kept = refl;
    }
