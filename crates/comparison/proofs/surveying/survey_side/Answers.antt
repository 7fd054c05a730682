use Rattle.std.proofs.Common.{sym, subst, arith}
use Rattle.automata.specs.Automata.{Automaton}
use Rattle.liveness.specs.Reaching.{Reached}
use Rattle.liveness.specs.Living.{Lively}
use Rattle.rules.specs.Shapes.{automaton_of}
use Rattle.comparison.proofs.OneSide.{table_stands}
use Rattle.comparison.proofs.Surveys.{side_sound}
use Rattle.comparison.proofs.surveying.survey_side.Goals as goal

pub plant_access-access-requires : goal.plant_access-access-requires
plant_access-access-requires g c =
    let stands = g.W.Kind.stands in
    let reached = subst (λ (S : Automaton g.row.W-Weight.Denot). Reached S c.find_reached-reach.result) (sym (table_stands c.args.tables.now.first c.args.tables.now.second c.args.side c.on-table.result c.on-table.ensures stands)) c.find_reached-reach.ensures in (
      record {
        sound = side_sound g.W.Kind.weights stands (automaton_of stands c.args.tables.now.first) (automaton_of stands c.args.tables.now.second) c.requires.matched c.args.side;
        reached = reached;
        alphabet = c.requires.matched.alphabet;
        forest = c.requires.forest;
      },
      omega (arith, reached.listed.bounded, c.requires.room),
    )

pub returns : goal.returns
returns g c =
    let stands = g.W.Kind.stands in
    let same = sym (table_stands c.args.tables.now.first c.args.tables.now.second c.args.side c.on-table.result c.on-table.ensures stands) in
    let reached = subst (λ (S : Automaton g.row.W-Weight.Denot). Reached S c.find_reached-reach.result) same c.find_reached-reach.ensures in
    let lively = subst (λ (S : Automaton g.row.W-Weight.Denot). Lively S c.find_reached-reach.result c.find_live-life.result) same (c.find_live-life.ensures c.find_reached-reach.ensures) in
    let low = reached.listed.bounded in
    record {
      longer = omega (arith, c.plant_access-access.ensures.more);
      few = omega (arith, c.plant_access-access.ensures.more);
      forest = c.plant_access-access.ensures.forest;
      same = c.plant_access-access.ensures.same;
      known = record { reached = reached; lively = lively; enters = c.plant_access-access.ensures.enters };
    }
