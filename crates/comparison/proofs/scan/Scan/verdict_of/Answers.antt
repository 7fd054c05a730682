use Rattle.std.proofs.Common.{ap}
use Rattle.std.specs.Option.{option_map}
use Rattle.rules.specs.Running.{at_of}
use Rattle.comparison.proofs.scan.Scan.verdict_of.Goals as goal

pub returns-in-None-Some : goal.returns-in-None-Some
returns-in-None-Some g c =
    record { one = at_of g.W.Kind.stands c.in-None-Some.field-0-1; there = ap (option_map (at_of g.W.Kind.stands)) c.in-None-Some.is-1; no_other = ap (option_map (at_of g.W.Kind.stands)) c.in-None-Some.is-0 }

pub returns-in-Some-None : goal.returns-in-Some-None
returns-in-Some-None g c =
    record { one = at_of g.W.Kind.stands c.in-Some-None.field-0-0; there = ap (option_map (at_of g.W.Kind.stands)) c.in-Some-None.is-0; no_other = ap (option_map (at_of g.W.Kind.stands)) c.in-Some-None.is-1 }
