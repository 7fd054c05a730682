use Rattle.std.proofs.Common.{length, arith}
use Rattle.rules.specs.declared.side.Side.TheVariants.{First, Second}
use Rattle.rules.specs.Shapes.{states_in, automaton_of}
use Rattle.comparison.proofs.Endings.{enough_search, search_within}
use Rattle.comparison.proofs.Surveys.{known_still}
use Rattle.comparison.proofs.witnesses.find_witness.Goals as goal

pub explore-end-requires : goal.explore-end-requires
explore-end-requires g c = record {
  same = c.requires.matched.alphabet;
  live = search_within g.W.Kind.stands c.args.tables.now.first c.args.tables.now.second c.survey_side-one.result c.survey_side-two.result c.survey_side-one.new.work c.survey_side-two.new.work c.survey_side-one.result.access.len c.survey_side-two.result.access.len c.survey_side-one.ensures.known c.survey_side-two.ensures.known;
  forest = c.survey_side-two.ensures.forest;
  room = enough_search (states_in c.args.tables.now.first.shape.now) (states_in c.args.tables.now.second.shape.now) c.survey_side-two.result.access.len (length c.survey_side-two.new.work) (omega (arith, c.survey_side-one.ensures.few, c.survey_side-two.ensures.few)) (omega (arith, c.requires.room));
}

pub settle-requires : goal.settle-requires
settle-requires g c =
    let one = c.survey_side-one in
    let two = c.survey_side-two in
    let end = c.explore-end in
    let after_two = known_still g.W.Kind.weights g.W.Kind.stands (automaton_of g.W.Kind.stands c.args.tables.now.first) (automaton_of g.W.Kind.stands c.args.tables.now.second) c.requires.matched First one.result one.new.work one.result.access.len one.ensures.known two.new.work two.result.access.len two.ensures.same two.ensures.longer in
    record {
      searched = record {
        matched = c.requires.matched;
        forest = end.ensures.forest;
        first_known = known_still g.W.Kind.weights g.W.Kind.stands (automaton_of g.W.Kind.stands c.args.tables.now.first) (automaton_of g.W.Kind.stands c.args.tables.now.second) c.requires.matched First one.result two.new.work two.result.access.len after_two end.new.work end.result.len end.ensures.older end.ensures.longer;
        second_known = known_still g.W.Kind.weights g.W.Kind.stands (automaton_of g.W.Kind.stands c.args.tables.now.first) (automaton_of g.W.Kind.stands c.args.tables.now.second) c.requires.matched Second two.result two.new.work two.result.access.len two.ensures.known end.new.work end.result.len end.ensures.older end.ensures.longer;
        few = omega (arith, end.ensures.bounded, one.ensures.few, two.ensures.few);
        room = omega (arith, c.requires.room);
      };
      ends = end.ensures.outcome;
    }
