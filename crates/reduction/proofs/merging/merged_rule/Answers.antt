use Rattle.std.proofs.Common.{◌≡◌, Some, ap, ◌∙◌}
use Rattle.std.specs.Option.{option_map}
use Rattle.rules.specs.Shapes.{ranks_in, transition}
use Rattle.reduction.specs.Classes.{class_at}
use Rattle.reduction.proofs.Renames.{renamed_is, renamed_lacks}
use Rattle.reduction.proofs.merging.merged_rule.Goals as goal

pub returns : goal.returns
returns g c =
    let target : Some c.in_ok-target.target ≡ class_at c.args.classes.now c.args.rule.now.target = cc c.in_ok-target.ensures in
    renamed_is g.W.Kind.stands g.W.Kind.weights c.args.classes.now c.args.work.now (ranks_in c.args.shape.now) c.args.rule.now c.in_ok-children.children c.in_ok-target.target c.weight_pushed.result target c.in_ok-children.ensures c.weight_pushed.ensures

pub returns-in_err-children : goal.returns-in_err-children
returns-in_err-children g c =
    ap (option_map (transition g.W.Kind.stands (ranks_in c.args.shape.now))) c.from_residual-in_err-children.ensures
    ∙ renamed_lacks g.W.Kind.stands g.W.Kind.weights c.args.classes.now c.args.work.now (ranks_in c.args.shape.now) c.args.rule.now c.in_err-children.ensures
