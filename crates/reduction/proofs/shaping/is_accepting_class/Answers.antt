use Rattle.std.proofs.Common.{rules, tests, ◌∙◌, arith}
use Rattle.std.proofs.lemmas.Iterator.{YieldsList-from_range}
use Rattle.std.proofs.lemmas.Iterator.Search.{any_from_yields_List}
use Rattle.rules.specs.Shapes.{states_in}
use Rattle.reduction.specs.Acceptance.{accepts_as}
use Rattle.reduction.proofs.Marks.{any_below}
use Rattle.reduction.proofs.shaping.is_accepting_class.Goals as goal

pub returns : goal.returns
returns c =
    let test = accepts_as c.args.shape.now c.args.classes.now c.args.class in
    any_from_yields_List test _ _ c.any.result c.any.ensures.ran (YieldsList-from_range 0 (states_in c.args.shape.now) (states_in c.args.shape.now) (cc) (omega arith)) (λ x b q k. search (rules, tests))
    ∙ any_below (states_in c.args.shape.now) test
