use Rattle.rules.specs.Running.{at_of}
use Rattle.comparison.specs.Scanning.{runs_in}
use Rattle.comparison.proofs.Judgments.{even_tested, uneven_tested}
use Rattle.comparison.proofs.scan_judging.is_even.Goals as goal

pub returns : goal.returns
returns g c =
    let stands = g.W.Kind.stands in
    record {
      even = even_tested g.W.Kind.weights (runs_in stands c.args.work.now) c.args.entry (stands c.args.first) (stands c.args.second) (at_of stands c.in-Some.one) (at_of stands c.in-Some-run_of.other) c.in-Some.ensures c.in-Some-run_of.ensures c.are_in_ratio.result c.are_in_ratio.ensures;
      uneven = uneven_tested g.W.Kind.weights (runs_in stands c.args.work.now) c.args.entry (stands c.args.first) (stands c.args.second) (at_of stands c.in-Some.one) (at_of stands c.in-Some-run_of.other) c.in-Some.ensures c.in-Some-run_of.ensures c.are_in_ratio.result c.are_in_ratio.ensures;
    }
