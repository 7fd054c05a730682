use Rattle.std.proofs.Common.{ℕ, subst, arith}
use Rattle.std.proofs.lemmas.List.{length-map}
use Rattle.std.proofs.lemmas.Bool.{ltb-true, ltb-false}
use Rattle.rules.specs.Shapes.{ranks_in, states_in, transition, automaton}
use Rattle.liveness.specs.Reaching.{Follows, Tried}
use Rattle.liveness.proofs.Derivations.{nth_mapped, tried_more, has_below}
use Rattle.liveness.proofs.upward.pass_up.Goals as goal

pub loop-i-init : goal.loop-i-init
loop-i-init g c = (record { how = omega arith; order = omega arith }, c.requires, omega arith, λ e k h. absurd (omega arith))

pub try_rule-requires : goal.try_rule-requires
try_rule-requires g c = c.loop-i.invariant.1.0

pub loop-i-preserved : goal.loop-i-preserved
loop-i-preserved g c =
    let r = transition g.W.Kind.stands (ranks_in c.args.table.now.shape.now) c.rule-item.result in
    tried_more (automaton g.W.Kind.stands c.args.table.now.shape.now c.args.table.now.rules.now) (omega arith) c.loop-i.found c.try_rule.new.found r c.loop-i.i c.args.found.now.count
    (nth_mapped (transition g.W.Kind.stands (ranks_in c.args.table.now.shape.now)) c.args.table.now.rules.now c.loop-i.i c.rule-item.result c.loop-i-test.true c.rule-item.is)
    (subst (λ (q : ℕ). Tried (states_in c.args.table.now.shape.now) r.children q c.loop-i.i c.loop-i.found c.try_rule.new.found) c.from.ensures c.try_rule.ensures)
    c.loop-i.invariant

pub returns : goal.returns
returns g c =
    let A = automaton g.W.Kind.stands c.args.table.now.shape.now c.args.table.now.rules.now in
    let n = length-map c.args.table.now.rules.now (transition g.W.Kind.stands (ranks_in c.args.table.now.shape.now)) in
    record {
      reaching = c.loop-i.invariant.1;
      more = λ e. ltb-true c.args.found.now.count c.loop-i.found.count e;
      rest = λ e. has_below (Follows A c.loop-i.found) A.rules c.loop-i.i (omega arith) (c.loop-i.invariant.3 (omega (arith, ltb-false c.args.found.now.count c.loop-i.found.count e)));
    }
