use Rattle.std.proofs.Common.{ap, ◌∙◌}
use Rattle.std.specs.Option.{option_map}
use Rattle.rules.specs.Shapes.{transition}
use Rattle.rules.proofs.Lookups.{find_agrees}
use Rattle.rules.proofs.lookup.rule_for.Goals as goal

pub returns : goal.returns
returns g c ranks fits =
    ap (option_map (transition g.W.Kind.stands ranks)) (c.copied.ensures ∙ c.first_with.ensures) ∙ find_agrees g.W.Kind.stands ranks c.args.symbol c.args.children.now fits c.args.rules.now
