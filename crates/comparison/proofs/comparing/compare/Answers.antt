use Rattle.std.proofs.Common.{◌≡◌, length, subst₂, ap₂}
use Rattle.automata.specs.Automata.{Automaton}
use Rattle.trees.specs.Refusals.{Answers}
use Rattle.rules.specs.Shapes.{automaton}
use Rattle.comparison.specs.Comparing.{compare_tests, Compares}
use Rattle.comparison.proofs.comparing.compare.Goals as goal

pub returns-clause-answer : goal.returns-clause-answer
returns-clause-answer g c =
    subst₂ (λ (A B : Automaton g.row.W-Weight.Denot). Answers (compare_tests A B (length c.args.list.now) (length c.args.work.now)) (Compares g.W.Kind.weights A B c.args.list.now c.compare_tables.new.list) ((c.compare_tables.new.list ≡ c.args.list.now) × (c.compare_tables.new.work ≡ c.args.work.now)) c.compare_tables.result)
    (ap₂ (automaton g.W.Kind.stands) c.of_first.ensures.shape c.of_first.ensures.rules)
    (ap₂ (automaton g.W.Kind.stands) c.of_first-2.ensures.shape c.of_first-2.ensures.rules)
    c.compare_tables.ensures
