use Rattle.std.proofs.Common.{arith}
use Rattle.reduction.specs.Marking.{set_in}
use Rattle.reduction.specs.Classes.{factor_at}
use Rattle.reduction.proofs.Giving.{grown_none}
use Rattle.reduction.proofs.Replacing.{gets_some, gets_none}
use Rattle.reduction.proofs.chooser.Chooser.choose_state.Goals as goal

pub returns-in-Some : goal.returns-in-Some
returns-in-Some g c =
    record {
      grown = c.give.ensures.grown;
      gets = λ h l.
          gets_some g.W.Kind.weights g.W.Kind.stands c.args.self.now.live.now.table.shape.now c.args.self.now.live.now.table.rules.now c.args.rule.now c.from-symbol.result c.rank-rank.result c.args.place c.args.state c.from-symbol.ensures c.rank-rank.ensures.value c.requires
          (set_in c.args.chosen.now) (set_in c.give.new.chosen) (factor_at g.W.Kind.stands g.W.Kind.weights c.args.work.now) (factor_at g.W.Kind.stands g.W.Kind.weights c.give.new.work)
          c.in-Some.other c.states-children.result (g.W.Kind.stands c.led_weight.result) c.states-children.ensures (omega arith) c.in-Some.ensures
          c.led_weight.ensures (c.give.ensures.given h l);
    }

pub returns-in_default : goal.returns-in_default
returns-in_default g c =
    record {
      grown = grown_none c.args.chosen.now;
      gets = λ h l.
          gets_none g.W.Kind.weights g.W.Kind.stands c.args.self.now.live.now.table.shape.now c.args.self.now.live.now.table.rules.now c.args.rule.now c.from-symbol.result c.rank-rank.result c.args.place c.args.state c.from-symbol.ensures c.rank-rank.ensures.value c.requires
          (set_in c.args.chosen.now) (set_in c.args.chosen.now) (factor_at g.W.Kind.stands g.W.Kind.weights c.args.work.now) (factor_at g.W.Kind.stands g.W.Kind.weights c.args.work.now)
          c.states-children.result c.states-children.ensures (omega arith) c.in_default.ensures;
    }
