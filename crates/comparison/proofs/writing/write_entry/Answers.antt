use Rattle.std.proofs.Common.{◌+◌, ◌<◌, List, get_or, drop, sym, refl, ap, ◌∙◌, subst, arith}
use Rattle.std.proofs.lemmas.List.{drop-set-lt}
use Rattle.std.proofs.lemmas.Bool.{false≢true}
use Rattle.trees.specs.declared.node.Node.{Node}
use Rattle.trees.proofs.Ranks.{rank_small}
use Rattle.rules.specs.Shapes.{ranks_in}
use Rattle.comparison.specs.Forest.{nodes}
use Rattle.comparison.specs.Marking.{marks, Numbering}
use Rattle.comparison.proofs.Numbers.{numbering_skip}
use Rattle.comparison.proofs.Steps.{entry_closed, entry_numbered}
use Rattle.comparison.proofs.writing.write_entry.Goals as goal

pub returns-then-not-is_marked : goal.returns-then-not-is_marked
returns-then-not-is_marked g c =
    let unmarked : 0 < get_or (marks c.args.work.now) c.args.entry 0 → ⊥ = λ h. false≢true (c.if-not-is_marked.ensures.1 h) in
    record {
      numbering = numbering_skip (ranks_in c.args.shape.now) (nodes c.args.work.now (c.args.top + 1)) c.args.top (marks c.args.work.now) c.args.list.now c.args.entry c.args.count (omega arith) c.requires.numbering;
      kept = refl;
      more = omega arith;
      beyond = refl;
    }

pub renumbered-requires : goal.renumbered-requires
renumbered-requires g c =
    entry_closed (ranks_in c.args.shape.now) (rank_small c.args.shape.now.measure.alphabet) c.args.work.now c.args.top c.requires.entries c.args.entry c.node_of-node.result c.requires.within (c.node_of-node.ensures (c.args.top + 1) c.requires.within) (c.if-not-is_marked.ensures.0 refl) c.requires.numbering.marking

pub returns : goal.returns
returns g c =
    let numbered = entry_numbered (ranks_in c.args.shape.now) (rank_small c.args.shape.now.measure.alphabet) c.args.work.now c.args.top c.requires.entries c.args.entry c.node_of-node.result c.requires.within (c.node_of-node.ensures (c.args.top + 1) c.requires.within) c.put_mark.new.work c.args.list.now c.args.count c.renumbered.result (c.if-not-is_marked.ensures.0 refl) (omega (arith, c.requires.numbering.few, c.requires.within, c.requires.room)) c.renumbered.ensures c.put_mark.ensures.marks c.put_mark.ensures.kept c.requires.numbering in
    record {
      numbering = subst (λ (l : List Node). Numbering (ranks_in c.args.shape.now) (nodes c.put_mark.new.work (c.args.top + 1)) c.args.top (marks c.put_mark.new.work) l (c.args.entry + 1) (c.args.count + 1)) (sym c.put_node.ensures) numbered;
      kept = c.put_mark.ensures.kept;
      more = omega arith;
      beyond = ap (drop (c.args.count + 1)) c.put_node.ensures ∙ drop-set-lt (c.args.count + 1) c.args.list.now c.args.count c.renumbered.result (omega arith);
    }
