use Rattle.std.proofs.Common.{arith}
use Rattle.std.proofs.lemmas.Bool.{ltb-true, ltb-false}
use Rattle.reduction.proofs.RuleTurns.{passing_none, passing_more, passing_all}
use Rattle.reduction.proofs.chooser.Chooser.choose_pass.Goals as goal

pub loop-rule-init : goal.loop-rule-init
loop-rule-init g c =
    passing_none g.W.Kind.weights g.W.Kind.stands c.args.self.now c.args.chosen.now c.args.work.now

pub loop-rule-preserved : goal.loop-rule-preserved
loop-rule-preserved g c =
    passing_more g.W.Kind.weights g.W.Kind.stands c.args.self.now c.args.chosen.now c.args.work.now
    c.loop-rule.chosen c.choose_children.new.chosen c.loop-rule.work c.choose_children.new.work c.loop-rule.rule-index c.rule-item.result c.loop-rule-test.true c.rule-item.is c.loop-rule.auto.work c.choose_children.ensures.grown c.choose_children.ensures.choice c.loop-rule.invariant

pub returns : goal.returns
returns g c =
    record {
      more = λ e. omega (arith, ltb-true c.missing.result c.missing-before.result e, c.missing.ensures, c.missing-before.ensures);
      choice = λ ready choice. (c.loop-rule.invariant.1 ready choice).0;
      rest = λ e.
          passing_all g.W.Kind.weights g.W.Kind.stands c.args.self.now c.args.chosen.now c.args.work.now
          c.loop-rule.chosen c.loop-rule.work c.loop-rule.rule-index (omega arith) c.loop-rule.invariant (omega (arith, ltb-false c.missing.result c.missing-before.result e, c.missing.ensures, c.missing-before.ensures));
    }
