use Rattle.std.proofs.Common.{◌+◌, Some, subst, arith}
use Rattle.rules.specs.declared.side.Side.{Side}
use Rattle.rules.specs.Shapes.{states_in, automaton_of}
use Rattle.comparison.specs.declared.exploring_outcome.Outcome.TheVariants.{Lone}
use Rattle.comparison.specs.Scanning.{two_of, runs_in}
use Rattle.comparison.specs.Exploring.{Ends}
use Rattle.comparison.specs.Witnesses.{places_needed}
use Rattle.comparison.proofs.Endings.{enough_lone, found_within, lonely_first, lonely_second}
use Rattle.comparison.proofs.witnesses.settle_lone.Goals as goal

pub lone_top-requires : goal.lone_top-requires
lone_top-requires g c =
    let s = c.requires.searched in
    let ends = subst (λ (x : Side). Ends g.W.Kind.weights (two_of g.W.Kind.stands c.args.tables.now.first.shape.now c.args.tables.now.first.rules.now c.args.one.now.life c.args.tables.now.second.shape.now c.args.tables.now.second.rules.now c.args.two.now.life) (runs_in g.W.Kind.stands c.args.work.now) c.args.len (Some (Lone x c.args.entry))) c.in-First.is c.requires.ends in
    record {
      matched = s.matched;
      forest = s.forest;
      known = s.first_known;
      below = ends.0;
      room = omega (arith, s.room, (enough_lone (states_in c.args.tables.now.first.shape.now) (states_in c.args.tables.now.second.shape.now) c.args.len s.few).0);
      lonely = lonely_first g.W.Kind.weights g.W.Kind.stands c.args.tables.now.first c.args.tables.now.second c.args.one.now c.args.two.now c.args.work.now c.args.len s c.args.entry ends;
    }

pub lone_top-requires-in-Second : goal.lone_top-requires-in-Second
lone_top-requires-in-Second g c =
    let s = c.requires.searched in
    let ends = subst (λ (x : Side). Ends g.W.Kind.weights (two_of g.W.Kind.stands c.args.tables.now.first.shape.now c.args.tables.now.first.rules.now c.args.one.now.life c.args.tables.now.second.shape.now c.args.tables.now.second.rules.now c.args.two.now.life) (runs_in g.W.Kind.stands c.args.work.now) c.args.len (Some (Lone x c.args.entry))) c.in-Second.is c.requires.ends in
    record {
      matched = s.matched;
      forest = s.forest;
      known = s.second_known;
      below = ends.0;
      room = omega (arith, s.room, (enough_lone (states_in c.args.tables.now.first.shape.now) (states_in c.args.tables.now.second.shape.now) c.args.len s.few).1);
      lonely = lonely_second g.W.Kind.weights g.W.Kind.stands c.args.tables.now.first c.args.tables.now.second c.args.one.now c.args.two.now c.args.work.now c.args.len s c.args.entry ends;
    }

pub returns-in-First : goal.returns-in-First
returns-in-First g c =
    found_within g.W.Kind.weights g.W.Kind.stands (automaton_of g.W.Kind.stands c.args.tables.now.first) (automaton_of g.W.Kind.stands c.args.tables.now.second) (c.args.len + states_in c.args.tables.now.first.shape.now) (places_needed (automaton_of g.W.Kind.stands c.args.tables.now.first) (automaton_of g.W.Kind.stands c.args.tables.now.second)) c.lone_top.new.work c.lone_top.result (enough_lone (states_in c.args.tables.now.first.shape.now) (states_in c.args.tables.now.second.shape.now) c.args.len c.requires.searched.few).0 c.lone_top.ensures

pub returns-in-Second : goal.returns-in-Second
returns-in-Second g c =
    found_within g.W.Kind.weights g.W.Kind.stands (automaton_of g.W.Kind.stands c.args.tables.now.first) (automaton_of g.W.Kind.stands c.args.tables.now.second) (c.args.len + states_in c.args.tables.now.second.shape.now) (places_needed (automaton_of g.W.Kind.stands c.args.tables.now.first) (automaton_of g.W.Kind.stands c.args.tables.now.second)) c.lone_top-in-Second.new.work c.lone_top-in-Second.result (enough_lone (states_in c.args.tables.now.first.shape.now) (states_in c.args.tables.now.second.shape.now) c.args.len c.requires.searched.few).1 c.lone_top-in-Second.ensures
