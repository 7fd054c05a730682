use Rattle.std.proofs.Common.{◌≡◌, Some, arith}
use Rattle.std.specs.List.{slice_get}
use Rattle.std.proofs.lemmas.List.{length-map}
use Rattle.automata.specs.Automata.{Transition}
use Rattle.rules.specs.Shapes.{ranks_in, transition, automaton_of}
use Rattle.liveness.proofs.Derivations.{has_below}
use Rattle.reduction.specs.Marking.{live_in}
use Rattle.reduction.specs.Rounds.{LoneRule}
use Rattle.reduction.proofs.Counterparts.{noted_kept, below_onward}
use Rattle.reduction.proofs.Passes.{has_mapped, at_mapped}
use Rattle.reduction.proofs.live_table.LiveTable.mark_lone.Goals as goal

pub lone_rule-requires : goal.lone_rule-requires
lone_rule-requires g c =
    has_mapped (transition g.W.Kind.stands (ranks_in c.args.self.now.table.shape.now)) c.args.self.now.table.rules.now c.loop-rule.rule-index c.rule-item.result c.loop-rule-test.true c.rule-item.is

pub loop-rule-preserved : goal.loop-rule-preserved
loop-rule-preserved g c =
    let K = g.W.Kind.weights in
    let A = automaton_of g.W.Kind.stands c.args.self.now.table in
    let live = live_in c.args.self.now.life.now in
    below_onward K A live (λ i t. (r : Transition g.row.W-Weight.Denot) → slice_get A.rules i ≡ Some r → LoneRule K A live r t) (λ i s s' h n r e k q. noted_kept K A live r k q s s' h (n r e k q)) c.args.marks.now c.loop-rule.marks c.lone_rule.new.marks c.loop-rule.rule-index c.lone_rule.ensures.grown
    (at_mapped (transition g.W.Kind.stands (ranks_in c.args.self.now.table.shape.now)) c.args.self.now.table.rules.now c.loop-rule.rule-index c.rule-item.result c.loop-rule-test.true c.rule-item.is (λ r. LoneRule K A live r c.lone_rule.new.marks) c.lone_rule.ensures.noted) c.loop-rule.invariant

pub returns : goal.returns
returns g c =
    let K = g.W.Kind.weights in
    let A = automaton_of g.W.Kind.stands c.args.self.now.table in
    let n = length-map c.args.self.now.table.rules.now (transition g.W.Kind.stands (ranks_in c.args.self.now.table.shape.now)) in
    record {
      grown = c.loop-rule.invariant.0;
      noted = has_below (λ r. LoneRule K A (live_in c.args.self.now.life.now) r c.loop-rule.marks) A.rules c.loop-rule.rule-index (omega arith) c.loop-rule.invariant.1;
    }
