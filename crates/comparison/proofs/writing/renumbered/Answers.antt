use Rattle.std.proofs.Common.{◌≡◌, ◌<◌, length, get_or, sym, ap, ◌∙◌, subst, arith, length-set}
use Rattle.std.proofs.lemmas.List.{length-take, length-take-le, get_or-take}
use Rattle.rules.specs.Shapes.{ranks_in}
use Rattle.comparison.specs.Marking.{marks, number}
use Rattle.comparison.proofs.Kept.{length_marks}
use Rattle.comparison.proofs.Marks.{marked_within}
use Rattle.comparison.proofs.Numbers.{children_more, padding_more, children_all}
use Rattle.comparison.proofs.Steps.{child_read}
use Rattle.comparison.proofs.writing.renumbered.Goals as goal

pub entry_number-requires : goal.entry_number-requires
entry_number-requires g c =
    let m = marks c.args.work.now in
    let short = length-take c.rank-rank.result c.args.node.now.children in
    let long : c.loop-k.k < length c.args.node.now.children = omega arith in
    let marked : 0 < get_or m (get_or c.args.node.now.children c.loop-k.k 0) 0 =
    child_read (λ q. 0 < get_or m q 0) (ranks_in c.args.shape.now) c.args.node.now c.loop-k.k long (omega arith) c.requires in
    let low : get_or c.args.node.now.children c.loop-k.k 0 < length c.args.work.now = omega (arith, marked_within m (get_or c.args.node.now.children c.loop-k.k 0) marked, length_marks c.args.work.now) in
    subst (λ x. x < length c.args.work.now) (sym (get_or-take c.rank-rank.result c.args.node.now.children c.loop-k.k 0 (omega arith))) low

pub loop-k-preserved : goal.loop-k-preserved
loop-k-preserved g c =
    let m = marks c.args.work.now in
    let short = length-take c.rank-rank.result c.args.node.now.children in
    let wide : length c.args.node.now.children ≡ 4 = omega arith in (
      length-set c.loop-k.children c.loop-k.k c.entry_number.result ∙ c.loop-k.invariant.0,
      children_more m c.args.node.now c.loop-k.children c.loop-k.invariant.0 wide c.loop-k.k c.entry_number.result (omega arith) (c.entry_number.ensures ∙ ap (number m) (get_or-take c.rank-rank.result c.args.node.now.children c.loop-k.k 0 (omega arith))) c.loop-k.invariant.1,
      padding_more m c.args.node.now c.loop-k.children c.loop-k.invariant.0 wide c.loop-k.k c.entry_number.result c.loop-k.invariant.2,
    )

pub returns : goal.returns
returns g c =
    let short = length-take-le c.rank-rank.result c.args.node.now.children (omega arith) in
    let wide : length c.args.node.now.children ≡ 4 = omega arith in
    children_all (marks c.args.work.now) c.args.node.now c.loop-k.children c.loop-k.invariant.0 wide (ranks_in c.args.shape.now) c.loop-k.k (omega arith) (omega arith) c.loop-k.invariant.1 c.loop-k.invariant.2
