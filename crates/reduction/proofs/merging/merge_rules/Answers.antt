use Rattle.std.proofs.Common.{arith}
use Rattle.rules.specs.Shapes.{ranks_in, transition}
use Rattle.reduction.specs.Classes.{grouping}
use Rattle.reduction.proofs.Keeping.{merging_none, merging_drops, merging_adds, merging_all}
use Rattle.reduction.proofs.merging.merge_rules.Goals as goal
use Rattle.reduction.proofs.merging.merge_rules.Goals.{in-Some, in_default}

pub loop-i-init : goal.loop-i-init
loop-i-init g c =
    merging_none g.W.Kind.weights (grouping g.W.Kind.stands g.W.Kind.weights c.args.classes.now c.args.work.now) (transition g.W.Kind.stands (ranks_in c.args.shape.now)) c.args.rules.now

pub add_rule-count-requires : goal.add_rule-count-requires
add_rule-count-requires g c = omega (arith, c.loop-i.invariant.behind)

pub loop-i-preserved : goal.loop-i-preserved
loop-i-preserved g c =
    let K = g.W.Kind.weights in
    let G = grouping g.W.Kind.stands K c.args.classes.now c.args.work.now in
    let f = transition g.W.Kind.stands (ranks_in c.args.shape.now) in
    elim c.match-merged_rule.branch [
      | in-Some w ↦ merging_adds K G f c.args.rules.now c.loop-i.rules c.match-merged_rule.rules c.loop-i.count c.match-merged_rule.count c.loop-i.i c.index-rules-i.result w.in-Some.rule (omega arith) w.in-Some.ensures (rw w.count-is w.add_rule-count.ensures.number) (rw w.rules-is w.add_rule-count.ensures.rules) c.loop-i.invariant
      | in_default w ↦ merging_drops K G f c.args.rules.now c.loop-i.rules c.match-merged_rule.rules c.loop-i.count c.match-merged_rule.count c.loop-i.i c.index-rules-i.result (omega arith) w.in_default.ensures w.count-is w.rules-is c.loop-i.invariant
    ]

pub returns : goal.returns
returns g c = record {
  few = omega (arith, c.loop-i.invariant.behind);
  rules = merging_all g.W.Kind.weights (grouping g.W.Kind.stands g.W.Kind.weights c.args.classes.now c.args.work.now) (transition g.W.Kind.stands (ranks_in c.args.shape.now)) c.args.rules.now c.loop-i.rules c.loop-i.count c.loop-i.i (omega arith) c.loop-i.invariant;
}
