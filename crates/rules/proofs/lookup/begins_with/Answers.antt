use Rattle.std.proofs.Common.{eqb, length, take, ap, ◌∙◌, rules, tests, arith}
use Rattle.std.proofs.lemmas.List.{length-take}
use Rattle.std.proofs.lemmas.Bool.{lt-leb}
use Rattle.std.proofs.lemmas.Iterator.{YieldsList-from_slice, YieldsList-from_zip}
use Rattle.std.proofs.lemmas.Iterator.Search.{all_from_yields_List}
use Rattle.rules.proofs.Prefixes.{begins_same, not_same}
use Rattle.rules.proofs.lookup.begins_with.Goals as goal

pub returns-then-states-le4 : goal.returns-then-states-le4
returns-then-states-le4 c =
    all_from_yields_List (λ p. eqb p.0 p.1) c.all.new.self _ c.all.result c.all.ensures.ran (YieldsList-from_zip (YieldsList-from_slice c.args.places.now cc) (YieldsList-from_slice c.args.states.now cc)) (λ x b q k. search (rules, tests))
    ∙ begins_same c.args.places.now c.args.states.now (omega arith)

pub returns-else-states-le4 : goal.returns-else-states-le4
returns-else-states-le4 c =
    let short = length-take (length c.args.states.now) c.args.places.now in
    lt-leb (length c.args.states.now) 4 c.if-states-le4.false ∙ not_same (take (length c.args.states.now) c.args.places.now) c.args.states.now (λ e. omega (arith, ap length e))
