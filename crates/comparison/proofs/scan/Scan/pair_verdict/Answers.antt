use Rattle.std.proofs.Common.{sym, refl, ◌∙◌}
use Rattle.rules.specs.Running.{at_of}
use Rattle.comparison.specs.Scanning.{runs_of, entry_of}
use Rattle.comparison.proofs.Judgments.{judged_new, judged_uneven}
use Rattle.comparison.proofs.scan.Scan.pair_verdict.Goals as goal

pub returns-in_default : goal.returns-in_default
returns-in_default g c =
    judged_new g.W.Kind.weights (runs_of g.W.Kind.stands c.args.self.now) (entry_of c.args.self.now) (at_of g.W.Kind.stands c.args.first) (at_of g.W.Kind.stands c.args.second) (sym c.get.ensures.there ∙ c.in_default.is)

pub returns-else-is_even : goal.returns-else-is_even
returns-else-is_even g c =
    judged_uneven g.W.Kind.weights (runs_of g.W.Kind.stands c.args.self.now) (entry_of c.args.self.now) (at_of g.W.Kind.stands c.args.first) (at_of g.W.Kind.stands c.args.second) c.in-Some.other (sym c.get.ensures.there ∙ c.in-Some.is) (c.if-is_even.ensures.uneven refl)
