use Rattle.std.proofs.Common.{◌≡◌, ◌+◌, List, take, drop, set, None, sym, ap, ◌∙◌, subst, arith}
use Rattle.std.specs.Option.{option_map}
use Rattle.std.specs.List.{slice_get}
use Rattle.std.proofs.lemmas.List.{take-set, drop-set-lt}
use Rattle.trees.proofs.Ranks.{nth_set_same}
use Rattle.rules.specs.declared.place.Place.{Place}
use Rattle.rules.specs.Shapes.{automaton_of}
use Rattle.comparison.specs.Forest.{nodes, Forest}
use Rattle.comparison.proofs.Plants.{nodes_planted, planted}
use Rattle.comparison.proofs.planting.plant.Goals as goal

pub returns : goal.returns
returns g c =
    let K = g.W.Kind.weights in
    let stands = g.W.Kind.stands in
    let work = c.args.work.now in
    let len = c.args.len in
    let r = c.place_of.result in
    let p : Place g.row.W.Denot = record { node = c.args.node; first = r.first; second = r.second; mark = None } in
    let is : r ≡ p = λ i. record { node = c.place_of.ensures.node i; first = r.first; second = r.second; mark = c.place_of.ensures.mark i } in
    let A = automaton_of stands c.args.tables.now.first in
    let B = automaton_of stands c.args.tables.now.second in
    let exit : set work len r ≡ set work len p = ap (set work len) is in
    record {
      grown = λ same f. subst (λ (w : List (Place g.row.W.Denot)). Forest K stands A B w (len + 1)) (sym exit)
          (planted K stands work len p c.requires.0 c.args.tables.now.first c.args.tables.now.second c.requires.1 c.place_of.ensures.first c.place_of.ensures.second same f);
      nodes = ap (λ w. nodes w (len + 1)) exit ∙ nodes_planted work len p c.requires.0;
      mark = ap (λ w. option_map (λ q. q.mark) (slice_get w len)) exit ∙ ap (option_map (λ (q : Place g.row.W.Denot). q.mark)) (nth_set_same work len p c.requires.0);
      before = ap (take len) exit ∙ take-set work len p;
      beyond = ap (drop (len + 1)) exit ∙ drop-set-lt (len + 1) work len p (omega arith);
    }
