use Rattle.std.proofs.Common.{length, ◌∙◌}
use Rattle.trees.specs.Refusals.{first_met}
use Rattle.rules.specs.Books.{add_checks}
use Rattle.rules.specs.Shapes.{automaton}
use Rattle.rules.proofs.adding.memory_refusal.Goals as goal

pub returns : goal.returns
returns g c =
    c.add_refusal.ensures
    ∙ (λ i. first_met (add_checks (record { places = length c.args.memory.now; content = automaton g.W.Kind.stands (c.of_first-table.ensures.shape i) (c.of_first-table.ensures.rules i) }) c.args.symbol c.args.children.now c.args.target))
