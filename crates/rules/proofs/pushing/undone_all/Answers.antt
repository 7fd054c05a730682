use Rattle.std.proofs.Common.{refl}
use Rattle.rules.proofs.Undone.{undoing_more, undoing_all}
use Rattle.rules.proofs.pushing.undone_all.Goals as goal

pub loop-child-init : goal.loop-child-init
loop-child-init g c f gives = refl

pub loop-child-preserved : goal.loop-child-preserved
loop-child-preserved g c f gives =
    undoing_more g.W.Kind.weights f (g.W.Kind.stands c.args.weight) c.args.children.now c.loop-child.child-index c.from.result (g.W.Kind.stands c.loop-child.left) (g.W.Kind.stands c.undo-left.result) c.loop-child-test.true c.from.ensures (gives c.loop-child.left c.from.result c.undo-left.result c.undo-left.ensures) (c.loop-child.invariant f gives)

pub returns : goal.returns
returns g c f gives =
    undoing_all g.W.Kind.weights f (g.W.Kind.stands c.args.weight) c.args.children.now c.loop-child.child-index (g.W.Kind.stands c.loop-child.left) c.loop-child-test.false (c.loop-child.invariant f gives)
