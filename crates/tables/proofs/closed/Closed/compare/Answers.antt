use Rattle.std.proofs.Common.{◌≡◌, length}
use Rattle.tables.specs.Images.{closed_holds}
use Rattle.tables.proofs.Wholes.{whole}
use Rattle.tables.proofs.closed.Closed.compare.Goals as goal

pub returns : goal.returns
returns g c =
    record {
      answer = c.compare_rules.ensures.answer;
      same = c.compare_rules.ensures.same;
      other = c.compare_rules.ensures.other;
      whole = λ o₁ o₂ h₁ h₂ l₁ l₂.
          whole g.W.Kind.weights g.W.Kind.stands (closed_holds g.W.Kind.stands c.args.self.now) (closed_holds g.W.Kind.stands c.args.other.now) c.args.list.now c.compare_rules.new.list (length c.args.work.now)
          ((c.compare_rules.new.list ≡ c.args.list.now) × (c.compare_rules.new.work ≡ c.args.work.now)) o₁ o₂ h₁ h₂ c.compare_rules.result c.compare_rules.ensures.answer l₁ l₂;
    }
