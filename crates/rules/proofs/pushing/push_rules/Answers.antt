use Rattle.std.proofs.Common.{get_or, take, refl, ap, ◌∙◌, arith}
use Rattle.rules.specs.Pushing.{at_state}
use Rattle.rules.specs.Shapes.{ranks_in}
use Rattle.rules.proofs.Pushes.{state_undo, pushed_none, pushed_more, pushed_front, pushes}
use Rattle.rules.proofs.pushing.push_rules.Goals as goal

pub loop-rule-init : goal.loop-rule-init
loop-rule-init g c inverted =
    pushed_none g.W.Kind.weights g.W.Kind.stands (ranks_in c.args.shape.now) c.args.state (g.W.Kind.stands c.args.factor) (take c.min-used.result c.args.memory.now)

pub loop-rule-preserved : goal.loop-rule-preserved
loop-rule-preserved g c inverted =
    let K = g.W.Kind.weights in
    let factor = g.W.Kind.stands c.args.factor in
    let f = at_state K c.args.state factor in
    let items = c.loop-rule.rule-items in
    let i = c.loop-rule.rule-index in
    let rule = get_or items i c.rule-item.result in
    pushed_more K g.W.Kind.stands (ranks_in c.args.shape.now) c.args.state factor (take c.min-used.result c.args.memory.now) items i rule c.reweighed_by-rule.result c.loop-rule-test.true (c.loop-rule.invariant inverted) (ap (get_or items i) c.rule-item.is)
    (c.reweighed_by-rule.ensures f (λ w q v p. p) (λ w q v p. p ∙ ap (K.times (g.W.Kind.stands w)) (state_undo K c.args.state factor (g.W.Kind.stands c.args.back) (at_state K c.args.state (g.W.Kind.stands c.args.back) q) q inverted refl)))

pub returns : goal.returns
returns g c inverted =
    let pushed = c.loop-rule.invariant inverted in
    pushes g.W.Kind.weights g.W.Kind.stands c.args.shape.now c.args.count c.args.state c.min-used.result (g.W.Kind.stands c.args.factor) c.args.memory.now _ (omega (arith, c.min-used.ensures))
    (pushed_front g.W.Kind.weights g.W.Kind.stands (ranks_in c.args.shape.now) c.args.state (g.W.Kind.stands c.args.factor) c.args.memory.now c.loop-rule.rule-items c.min-used.result c.loop-rule.rule-index (omega (arith, c.min-used.ensures)) (omega (arith, c.loop-rule-test.false, pushed.same_length)) pushed)
