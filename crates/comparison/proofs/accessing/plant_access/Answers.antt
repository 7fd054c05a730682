use Rattle.std.proofs.Common.{◌≡◌, ℕ, ◌+◌, ◌<◌, length, get_or, set, sym, ap, ◌∙◌, subst, arith}
use Rattle.std.proofs.lemmas.List.{length-take, get_or-take}
use Rattle.rules.specs.Shapes.{automaton_of}
use Rattle.liveness.specs.Reaching.{rule_of}
use Rattle.comparison.specs.Access.{Accessed}
use Rattle.comparison.proofs.Accesses.{Planting, order_few, rule_there, planting_none, planting_good, planting_more, planting_all}
use Rattle.comparison.proofs.OneSide.{side_few, table_below, table_rule, table_over}
use Rattle.comparison.proofs.accessing.plant_access.Goals as goal

pub loop-i-init : goal.loop-i-init
loop-i-init g c =
    planting_none g.W.Kind.weights g.W.Kind.stands c.args.tables.now.first c.args.tables.now.second c.requires.0.alphabet c.args.side c.requires.0.sound c.args.reach.now c.requires.0.reached c.args.work.now c.args.len c.requires.0.forest

pub rule_at-rule-requires : goal.rule_at-rule-requires
rule_at-rule-requires g c =
    let low : c.loop-i.i < c.args.reach.now.count = omega (arith, ap length c.states-state-items.ensures.states, length-take c.args.reach.now.count c.args.reach.now.order, c.loop-i-test.true) in
    let at : get_or c.states-state-items.result.now c.loop-i.i 0 ≡ get_or c.args.reach.now.order c.loop-i.i 0 = ap (λ xs. get_or xs c.loop-i.i 0) c.states-state-items.ensures.states ∙ get_or-take c.args.reach.now.count c.args.reach.now.order c.loop-i.i 0 low in
    table_below c.args.tables.now.first c.args.tables.now.second c.args.side c.on-table.result c.on-table.ensures c.rule.result (rule_of c.args.reach.now (get_or c.args.reach.now.order c.loop-i.i 0)) (c.rule.ensures ∙ ap (rule_of c.args.reach.now) at)
    (rule_there g.W.Kind.weights g.W.Kind.stands c.args.tables.now.first c.args.tables.now.second c.requires.0.alphabet c.args.side c.requires.0.sound c.args.reach.now c.requires.0.reached c.args.work.now c.args.len c.loop-i.i low)

pub plant-requires : goal.plant-requires
plant-requires g c =
    let low : c.loop-i.i < c.args.reach.now.count = omega (arith, ap length c.states-state-items.ensures.states, length-take c.args.reach.now.count c.args.reach.now.order, c.loop-i-test.true) in
    let at : get_or c.states-state-items.result.now c.loop-i.i 0 ≡ get_or c.args.reach.now.order c.loop-i.i 0 = ap (λ xs. get_or xs c.loop-i.i 0) c.states-state-items.ensures.states ∙ get_or-take c.args.reach.now.count c.args.reach.now.order c.loop-i.i 0 low in (
      omega arith,
      planting_good g.W.Kind.weights g.W.Kind.stands c.args.tables.now.first c.args.tables.now.second c.requires.0.alphabet c.args.side c.requires.0.sound c.args.reach.now c.requires.0.reached c.args.work.now c.args.len c.loop-i.work c.loop-i.entry c.loop-i.i c.loop-i.invariant low c.rule_at-rule.result
          (table_rule c.args.tables.now.first c.args.tables.now.second c.args.side c.on-table.result c.on-table.ensures c.rule.result (rule_of c.args.reach.now (get_or c.args.reach.now.order c.loop-i.i 0)) (c.rule.ensures ∙ ap (rule_of c.args.reach.now) at) c.rule_at-rule.result c.rule_at-rule.ensures) c.node_over-node.result
          (table_over c.args.tables.now.first c.args.tables.now.second c.args.side c.on-table.result c.on-table.ensures c.requires.0.alphabet (λ q. get_or c.loop-i.entry q 0) c.rule_at-rule.result.left c.node_over-node.result c.node_over-node.ensures),
    )

pub bounds-entry-state : goal.bounds-entry-state
bounds-entry-state g c =
    let low : c.loop-i.i < c.args.reach.now.count = omega (arith, ap length c.states-state-items.ensures.states, length-take c.args.reach.now.count c.args.reach.now.order, c.loop-i-test.true) in
    let at : get_or c.states-state-items.result.now c.loop-i.i 0 ≡ get_or c.args.reach.now.order c.loop-i.i 0 = ap (λ xs. get_or xs c.loop-i.i 0) c.states-state-items.ensures.states ∙ get_or-take c.args.reach.now.count c.args.reach.now.order c.loop-i.i 0 low in
    subst (λ (q : ℕ). q < 48) (sym at) (order_few g.W.Kind.weights g.W.Kind.stands c.args.tables.now.first c.args.tables.now.second c.requires.0.alphabet c.args.side c.requires.0.sound c.args.reach.now c.requires.0.reached c.args.work.now c.args.len c.loop-i.i low).1

pub offset_bounds-entry-state : goal.offset_bounds-entry-state
offset_bounds-entry-state g c =
    let few = bounds-entry-state g c in
    omega arith

pub loop-i-preserved : goal.loop-i-preserved
loop-i-preserved g c =
    let low : c.loop-i.i < c.args.reach.now.count = omega (arith, ap length c.states-state-items.ensures.states, length-take c.args.reach.now.count c.args.reach.now.order, c.loop-i-test.true) in
    let at : get_or c.states-state-items.result.now c.loop-i.i 0 ≡ get_or c.args.reach.now.order c.loop-i.i 0 = ap (λ xs. get_or xs c.loop-i.i 0) c.states-state-items.ensures.states ∙ get_or-take c.args.reach.now.count c.args.reach.now.order c.loop-i.i 0 low in
    let few = order_few g.W.Kind.weights g.W.Kind.stands c.args.tables.now.first c.args.tables.now.second c.requires.0.alphabet c.args.side c.requires.0.sound c.args.reach.now c.requires.0.reached c.args.work.now c.args.len c.loop-i.i low in
    subst (λ (q : ℕ). Planting g.W.Kind.weights g.W.Kind.stands (automaton_of g.W.Kind.stands c.args.tables.now.first) (automaton_of g.W.Kind.stands c.args.tables.now.second) c.args.side c.args.reach.now c.args.work.now c.args.len c.plant.new.work (set c.loop-i.entry q (c.args.len + c.loop-i.i)) (c.loop-i.i + 1)) (sym at)
    (planting_more g.W.Kind.weights g.W.Kind.stands c.args.tables.now.first c.args.tables.now.second c.requires.0.alphabet c.args.side c.requires.0.sound c.args.reach.now c.requires.0.reached c.args.work.now c.args.len c.loop-i.work c.loop-i.entry c.loop-i.i c.loop-i.invariant low c.rule_at-rule.result
    (table_rule c.args.tables.now.first c.args.tables.now.second c.args.side c.on-table.result c.on-table.ensures c.rule.result (rule_of c.args.reach.now (get_or c.args.reach.now.order c.loop-i.i 0)) (c.rule.ensures ∙ ap (rule_of c.args.reach.now) at) c.rule_at-rule.result c.rule_at-rule.ensures) c.node_over-node.result
    (table_over c.args.tables.now.first c.args.tables.now.second c.args.side c.on-table.result c.on-table.ensures c.requires.0.alphabet (λ q. get_or c.loop-i.entry q 0) c.rule_at-rule.result.left c.node_over-node.result c.node_over-node.ensures) c.plant.new.work (omega (arith, ap length c.states-state-items.ensures.states, length-take c.args.reach.now.count c.args.reach.now.order, c.loop-i-test.true)) few.1 (c.plant.ensures.grown c.requires.0.alphabet c.loop-i.invariant.forest) c.plant.ensures.nodes c.plant.ensures.before)

pub returns : goal.returns
returns g c =
    let few = side_few g.W.Kind.stands c.args.tables.now.first c.args.tables.now.second c.args.side in
    let all = c.states-state-items.ensures.all (omega (arith, few, c.requires.0.reached.listed.bounded)) in
    subst (λ (n : ℕ). Accessed g.W.Kind.weights g.W.Kind.stands (automaton_of g.W.Kind.stands c.args.tables.now.first) (automaton_of g.W.Kind.stands c.args.tables.now.second) c.args.side c.args.reach.now c.args.work.now c.args.len c.loop-i.work (record { entry = c.loop-i.entry; len = c.args.len + n })) (sym c.len.ensures)
    (planting_all g.W.Kind.weights g.W.Kind.stands c.args.tables.now.first c.args.tables.now.second c.requires.0.alphabet c.args.side c.requires.0.sound c.args.reach.now c.requires.0.reached c.args.work.now c.args.len c.loop-i.work c.loop-i.entry c.loop-i.i (omega (arith, all, c.loop-i.auto.i-end)) (omega (arith, all, c.loop-i-test.false)) c.loop-i.invariant)
