use Rattle.std.proofs.Common.{sym, ◌∙◌, rules, tests}
use Rattle.std.proofs.lemmas.Iterator.{YieldsList-from_slice}
use Rattle.std.proofs.lemmas.Iterator.Search.{all_from_yields_List}
use Rattle.comparison.specs.Scanning.{tables_of, entry_of, of_side, other_side, early_pairs}
use Rattle.comparison.proofs.Restings.{rested_by}
use Rattle.comparison.proofs.scan.Scan.is_rested.Goals as goal

pub returns : goal.returns
returns g c e =
    let T = tables_of g.W.Kind.stands c.args.self.now in
    let N = entry_of c.args.self.now in
    let tested = all_from_yields_List (early_pairs c.args.side N c.in-Some.since (of_side T (other_side c.args.side)).states) c.all.new.self _ c.all.result c.all.ensures.ran (YieldsList-from_slice c.args.states.now cc) (λ x b q k. search (rules, tests)) in
    (c.in-Some.since, c.in-Some.is, rested_by T c.args.side N c.in-Some.since c.args.states.now c.requires (sym tested ∙ e))
