use Rattle.std.proofs.Common.{ℕ, List, length, get_or, sym, ap, ◌∙◌, subst, arith}
use Rattle.automata.specs.Merging.{all_in}
use Rattle.liveness.specs.Listings.{Listed, flags_of}
use Rattle.liveness.proofs.Following.{target_off, children_off, leading_none, child_noted, children_noted}
use Rattle.liveness.proofs.downward.follow.Goals as goal

pub returns-then-not-has : goal.returns-then-not-has
returns-then-not-has g c =
    target_off g.W.Kind.stands c.args.table.now.shape.now c.args.table.now.rules.now c.args.reach.now c.args.life.now c.args.at c.args.rule.now c.requires.0 c.requires.1 c.from.result c.from.ensures c.if-not-has.ensures

pub returns-then-not-has_all : goal.returns-then-not-has_all
returns-then-not-has_all g c =
    children_off g.W.Kind.stands c.args.table.now.shape.now c.args.table.now.rules.now c.args.reach.now c.args.life.now c.args.at c.args.rule.now c.requires.0 c.requires.1
    (c.if-not-has_all.ensures ∙ ap (all_in (λ q. get_or (flags_of c.args.reach.now) q _)) c.children-children.ensures)

pub loop-k-init : goal.loop-k-init
loop-k-init g c =
    leading_none g.W.Kind.stands c.args.table.now.shape.now c.args.table.now.rules.now c.args.reach.now c.args.life.now c.args.at c.args.rule.now c.requires.0
    (record { how = omega arith; order = omega arith }) c.requires.1 c.from.result c.from.ensures c.if-not-has.ensures

pub note_child-requires : goal.note_child-requires
note_child-requires g c =
    (omega (arith, c.loop-k-test.true), omega arith, subst (λ (n : ℕ). Listed n (flags_of c.loop-k.life) c.loop-k.life.order c.loop-k.life.count) (sym c.states.ensures) c.loop-k.invariant.living.listed)

pub loop-k-preserved : goal.loop-k-preserved
loop-k-preserved g c =
    child_noted g.W.Kind.stands c.args.table.now.shape.now c.args.table.now.rules.now c.args.reach.now c.args.life.now c.args.at c.args.rule.now c.requires.0 (omega arith)
    (c.if-not-has_all.ensures ∙ ap (all_in (λ q. get_or (flags_of c.args.reach.now) q _)) c.children-children.ensures)
    c.loop-k.life c.note_child.new.life c.states.result (get_or c.children-children.result.now c.loop-k.k 0) c.loop-k.k c.states.ensures
    (ap (λ (qs : List ℕ). get_or qs c.loop-k.k 0) c.children-children.ensures)
    (omega (arith, ap length c.children-children.ensures, c.loop-k-test.true)) c.loop-k.invariant c.note_child.ensures

pub returns : goal.returns
returns g c =
    children_noted g.W.Kind.stands c.args.table.now.shape.now c.args.table.now.rules.now c.args.reach.now c.args.life.now c.args.at c.args.rule.now c.requires.0
    c.loop-k.life c.loop-k.k (omega (arith, ap length c.children-children.ensures, c.loop-k-test.false)) c.loop-k.invariant
