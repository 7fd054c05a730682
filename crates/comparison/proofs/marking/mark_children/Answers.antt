use Rattle.std.proofs.Common.{◌≡◌, ◌<◌, length, get_or, set, take, sym, ap, ◌∙◌, arith}
use Rattle.std.proofs.ByRecursion.{All-get_or}
use Rattle.std.proofs.lemmas.List.{take_all}
use Rattle.rules.specs.Shapes.{ranks_in}
use Rattle.trees.specs.Lists.{children_of}
use Rattle.comparison.specs.Marking.{marks, marked_at}
use Rattle.comparison.proofs.Marks.{marked_more}
use Rattle.comparison.proofs.marking.mark_children.Goals as goal

pub put_mark-requires : goal.put_mark-requires
put_mark-requires g c =
    let items = take c.rank.result c.args.node.now.children in
    let same : children_of (ranks_in c.args.shape.now) c.args.node.now ≡ items = ap (λ n. take n c.args.node.now.children) (sym c.rank.ensures.value) in
    let low = All-get_or (λ q. q < length c.args.work.now) items c.loop-child.child-index 0 c.loop-child-test.true (rw (sym same) c.requires) in
    omega (arith, low)

pub loop-child-preserved : goal.loop-child-preserved
loop-child-preserved g c =
    let items = take c.rank.result c.args.node.now.children in (
      c.put_mark.ensures.marks ∙ ap (λ m. set m (get_or items c.loop-child.child-index 0) 1) c.loop-child.invariant.0 ∙ sym (marked_more items (marks c.args.work.now) c.loop-child.child-index c.loop-child-test.true),
      c.put_mark.ensures.kept ∙ c.loop-child.invariant.1,
    )

pub returns : goal.returns
returns g c =
    let items = take c.rank.result c.args.node.now.children in
    record {
      marks = c.loop-child.invariant.0 ∙ ap (marked_at (marks c.args.work.now)) (take_all c.loop-child.child-index items c.loop-child-test.false ∙ ap (λ n. take n c.args.node.now.children) c.rank.ensures.value);
      kept = c.loop-child.invariant.1;
    }
