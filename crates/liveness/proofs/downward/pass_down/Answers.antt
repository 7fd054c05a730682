use Rattle.std.proofs.Common.{arith}
use Rattle.std.proofs.lemmas.List.{length-map}
use Rattle.std.proofs.lemmas.Bool.{ltb-true, ltb-false}
use Rattle.rules.specs.Shapes.{ranks_in, transition, automaton}
use Rattle.liveness.specs.Living.{GoesOn}
use Rattle.liveness.proofs.Derivations.{nth_mapped, has_below}
use Rattle.liveness.proofs.Onward.{falling_more}
use Rattle.liveness.proofs.downward.pass_down.Goals as goal

pub loop-i-init : goal.loop-i-init
loop-i-init g c = record { living = c.requires; longer = omega arith; goes_on = λ e k h. absurd (omega arith) }

pub follow-requires : goal.follow-requires
follow-requires g c =
    (nth_mapped (transition g.W.Kind.stands (ranks_in c.args.table.now.shape.now)) c.args.table.now.rules.now c.loop-i.i c.rule-item.result c.loop-i-test.true c.rule-item.is, c.loop-i.invariant.living)

pub loop-i-preserved : goal.loop-i-preserved
loop-i-preserved g c =
    falling_more (automaton g.W.Kind.stands c.args.table.now.shape.now c.args.table.now.rules.now) c.args.reach.now c.args.life.now.count c.loop-i.life c.follow.new.life c.loop-i.i c.loop-i.invariant c.follow.ensures

pub returns : goal.returns
returns g c =
    let A = automaton g.W.Kind.stands c.args.table.now.shape.now c.args.table.now.rules.now in
    let n = length-map c.args.table.now.rules.now (transition g.W.Kind.stands (ranks_in c.args.table.now.shape.now)) in
    record {
      living = c.loop-i.invariant.living;
      more = λ e. ltb-true c.args.life.now.count c.loop-i.life.count e;
      rest = λ e. has_below (GoesOn A c.args.reach.now c.loop-i.life) A.rules c.loop-i.i (omega arith) (c.loop-i.invariant.goes_on (omega (arith, c.loop-i.invariant.longer, ltb-false c.args.life.now.count c.loop-i.life.count e)));
    }
