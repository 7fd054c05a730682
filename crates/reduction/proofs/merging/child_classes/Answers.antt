use Rattle.std.proofs.Common.{◌≡◌, length, arith}
use Rattle.rules.specs.Shapes.{children_in}
use Rattle.reduction.proofs.Names.{named_none}
use Rattle.reduction.proofs.merging.child_classes.Goals as goal

pub loop-k-init : goal.loop-k-init
loop-k-init c =
    let long : length c.args.left.now.children ≡ 4 = omega arith in
    (long, named_none c.args.classes.now (children_in c.args.shape.now c.args.left.now) c.args.left.now.children)
