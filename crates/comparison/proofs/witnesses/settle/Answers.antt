use Rattle.std.proofs.Common.{◌+◌, Some, sym, ap, ◌∙◌, subst, arith}
use Rattle.rules.specs.Shapes.{states_in, automaton_of}
use Rattle.comparison.specs.Scanning.{two_of, runs_in}
use Rattle.comparison.specs.Exploring.{Ends}
use Rattle.comparison.specs.Witnesses.{places_needed, Witnessed}
use Rattle.comparison.proofs.Endings.{found_within, ends_settled, ends_differs, uneven_room}
use Rattle.comparison.proofs.witnesses.settle.Goals as goal

pub settle_lone-requires : goal.settle_lone-requires
settle_lone-requires g c = record {
  searched = c.requires.searched;
  ends = subst (Ends g.W.Kind.weights (two_of g.W.Kind.stands c.args.tables.now.first.shape.now c.args.tables.now.first.rules.now c.args.one.now.life c.args.tables.now.second.shape.now c.args.tables.now.second.rules.now c.args.two.now.life) (runs_in g.W.Kind.stands c.args.work.now) c.args.end.len) (c.in_ok-outcome.was ∙ ap Some c.in-Lone.is) c.requires.ends;
}

pub uneven_top-requires : goal.uneven_top-requires
uneven_top-requires g c =
    let s = c.requires.searched in
    let ends = subst (Ends g.W.Kind.weights (two_of g.W.Kind.stands c.args.tables.now.first.shape.now c.args.tables.now.first.rules.now c.args.one.now.life c.args.tables.now.second.shape.now c.args.tables.now.second.rules.now c.args.two.now.life) (runs_in g.W.Kind.stands c.args.work.now) c.args.end.len) (c.in_ok-outcome.was ∙ ap Some c.in-Uneven.is) c.requires.ends in
    record {
      matched = s.matched;
      forest = s.forest;
      known = s.first_known;
      below = ends.0;
      other_below = ends.1;
      room = omega (arith, s.room, uneven_room g.W.Kind.weights g.W.Kind.stands c.args.tables.now.first c.args.tables.now.second c.args.one.now c.args.two.now c.args.work.now c.args.end.len s c.in-Uneven.entry c.in-Uneven.other ends);
      ratios = ends.2;
    }

pub returns-in_err-outcome : goal.returns-in_err-outcome
returns-in_err-outcome g c =
    subst (Witnessed g.W.Kind.weights g.W.Kind.stands (automaton_of g.W.Kind.stands c.args.tables.now.first) (automaton_of g.W.Kind.stands c.args.tables.now.second) c.args.work.now) (sym c.from_residual.ensures)
    (ends_settled g.W.Kind.weights g.W.Kind.stands c.args.tables.now.first c.args.tables.now.second c.args.one.now c.args.two.now c.args.work.now c.args.end.len c.requires.searched
    (subst (Ends g.W.Kind.weights (two_of g.W.Kind.stands c.args.tables.now.first.shape.now c.args.tables.now.first.rules.now c.args.one.now.life c.args.tables.now.second.shape.now c.args.tables.now.second.rules.now c.args.two.now.life) (runs_in g.W.Kind.stands c.args.work.now) c.args.end.len) c.in_err-outcome.was c.requires.ends))

pub returns-in-Differs : goal.returns-in-Differs
returns-in-Differs g c =
    ends_differs g.W.Kind.weights g.W.Kind.stands c.args.tables.now.first c.args.tables.now.second c.args.one.now c.args.two.now c.args.work.now c.args.end.len c.requires.searched c.in-Differs.entry
    (subst (Ends g.W.Kind.weights (two_of g.W.Kind.stands c.args.tables.now.first.shape.now c.args.tables.now.first.rules.now c.args.one.now.life c.args.tables.now.second.shape.now c.args.tables.now.second.rules.now c.args.two.now.life) (runs_in g.W.Kind.stands c.args.work.now) c.args.end.len) (c.in_ok-outcome.was ∙ ap Some c.in-Differs.is) c.requires.ends)

pub returns-in-Uneven : goal.returns-in-Uneven
returns-in-Uneven g c =
    let room = uneven_room g.W.Kind.weights g.W.Kind.stands c.args.tables.now.first c.args.tables.now.second c.args.one.now c.args.two.now c.args.work.now c.args.end.len c.requires.searched c.in-Uneven.entry c.in-Uneven.other (subst (Ends g.W.Kind.weights (two_of g.W.Kind.stands c.args.tables.now.first.shape.now c.args.tables.now.first.rules.now c.args.one.now.life c.args.tables.now.second.shape.now c.args.tables.now.second.rules.now c.args.two.now.life) (runs_in g.W.Kind.stands c.args.work.now) c.args.end.len) (c.in_ok-outcome.was ∙ ap Some c.in-Uneven.is) c.requires.ends) in
    found_within g.W.Kind.weights g.W.Kind.stands (automaton_of g.W.Kind.stands c.args.tables.now.first) (automaton_of g.W.Kind.stands c.args.tables.now.second) (c.args.end.len + states_in c.args.tables.now.first.shape.now + states_in c.args.tables.now.first.shape.now) (places_needed (automaton_of g.W.Kind.stands c.args.tables.now.first) (automaton_of g.W.Kind.stands c.args.tables.now.second)) c.uneven_top.new.work c.uneven_top.result room c.uneven_top.ensures
