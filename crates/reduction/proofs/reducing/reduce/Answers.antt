use Rattle.std.proofs.Common.{◌≡◌, ◌≤◌, min, length, take, ◌∙◌, arith}
use lib.Seq.{length_front}
use Rattle.std.proofs.lemmas.List.{length-take-le}
use Rattle.std.proofs.lemmas.Slice.{drop-append-drop}
use Rattle.rules.specs.Shapes.{states_in}
use Rattle.reduction.proofs.Reductions.{reduced_front}
use Rattle.reduction.proofs.reducing.reduce.Goals as goal

pub returns : goal.returns
returns g c =
    let n = c.min-used.result in
    let capped : n ≡ min c.args.count (length c.args.memory.now) = omega (arith, c.min-used.ensures) in
    let room : states_in c.args.shape.now ≤ length c.args.work.now = omega (arith, c.states.ensures, c.if-work-states.false) in
    let long : length c.reduce_rules.new.rules ≡ length (take n c.args.memory.now) = c.reduce_rules.auto.rules in
    record {
      answer = (
        ((λ x met. omega (arith, met.0)), tt),
        reduced_front g.W.Kind.stands g.W.Kind.weights c.args.shape.now c.reduce_rules.result c.args.count n c.args.memory.now c.reduce_rules.new.rules capped (omega (arith, c.reduce_rules.ensures.few)) (c.reduce_rules.ensures.reduced room),
      );
      length = length_front c.args.memory.now c.reduce_rules.new.rules n long;
      beyond = drop-append-drop n c.args.memory.now c.reduce_rules.new.rules c.args.count (omega arith) (long ∙ length-take-le n c.args.memory.now (omega arith));
    }
