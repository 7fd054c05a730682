use Rattle.std.proofs.Common.{◌≡◌, ℕ, List, map, length, get_or, ap, ◌∙◌, subst, arith}
use Rattle.std.proofs.lemmas.List.{length-take-le}
use Rattle.automata.specs.Trees.{rank}
use Rattle.trees.proofs.Ranks.{rank_small}
use Rattle.rules.specs.Shapes.{ranks_in}
use Rattle.comparison.specs.Access.{NodeOver}
use Rattle.comparison.proofs.Nodes.{filling_none, filling_more, filled_node}
use Rattle.comparison.proofs.sides.node_over.Goals as goal

pub loop-k-init : goal.loop-k-init
loop-k-init c = filling_none c.args.entry.now c.children-child-items.result.now

pub loop-k-preserved : goal.loop-k-preserved
loop-k-preserved c =
    let s = c.args.left.now.symbol in
    let rs = ranks_in c.args.shape.now in
    let many : length c.children-child-items.result.now ≡ rank rs s = ap length c.children-child-items.ensures ∙ length-take-le (rank rs s) c.args.left.now.children (omega (arith, rank_small c.args.shape.now.measure.alphabet s)) in
    filling_more c.args.entry.now c.children-child-items.result.now c.loop-k.children c.loop-k.k c.number_of.result c.from.result (omega (arith, rank_small c.args.shape.now.measure.alphabet s)) c.from.ensures c.number_of.ensures c.loop-k.invariant

pub returns : goal.returns
returns c =
    let s = c.args.left.now.symbol in
    let rs = ranks_in c.args.shape.now in
    let qs = c.children-child-items.result.now in
    let many : length qs ≡ rank rs s = ap length c.children-child-items.ensures ∙ length-take-le (rank rs s) c.args.left.now.children (omega (arith, rank_small c.args.shape.now.measure.alphabet s)) in
    subst (λ (ps : List ℕ). NodeOver rs s (map (λ q. get_or c.args.entry.now q 0) ps) (record { symbol = c.from-2.result; children = c.loop-k.children })) c.children-child-items.ensures
    (filled_node c.args.entry.now qs rs s c.from-2.result c.loop-k.children c.from-2.ensures c.loop-k.k (omega arith) many (omega (arith, rank_small c.args.shape.now.measure.alphabet s)) c.loop-k.invariant)
