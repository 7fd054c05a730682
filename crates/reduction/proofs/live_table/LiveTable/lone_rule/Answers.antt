use Rattle.std.proofs.Common.{◌≡◌, ap, ◌∙◌, arith}
use Rattle.automata.specs.Trees.{rank}
use Rattle.rules.specs.Shapes.{ranks_in, transition, automaton_of}
use Rattle.reduction.specs.Marking.{live_in}
use Rattle.reduction.specs.Rounds.{LonePlace}
use Rattle.reduction.proofs.Comparisons.{place_within}
use Rattle.reduction.proofs.Counterparts.{noted_kept, below_onward}
use Rattle.reduction.proofs.live_table.LiveTable.lone_rule.Goals as goal

pub loop-place-preserved : goal.loop-place-preserved
loop-place-preserved g c =
    let K = g.W.Kind.weights in
    let A = automaton_of g.W.Kind.stands c.args.self.now.table in
    let live = live_in c.args.self.now.life.now in
    let r = transition g.W.Kind.stands (ranks_in c.args.self.now.table.shape.now) c.args.rule.now in
    below_onward K A live (LonePlace K A live r) (λ k s s' h n q. noted_kept K A live r k q s s' h (n q)) c.args.marks.now c.loop-place.marks c.lone_place.new.marks c.loop-place.place c.lone_place.ensures.grown c.lone_place.ensures.noted c.loop-place.invariant

pub returns : goal.returns
returns g c =
    let fits : c.rank-place-end.result ≡ rank (ranks_in c.args.self.now.table.shape.now) c.args.rule.now.left.symbol = c.rank-place-end.ensures.value ∙ ap (rank (ranks_in c.args.self.now.table.shape.now)) c.from.ensures in
    record {
      grown = c.loop-place.invariant.0;
      noted = λ k q a b on d. let low = place_within (rank (ranks_in c.args.self.now.table.shape.now) c.args.rule.now.left.symbol) c.args.rule.now.left.children k b in c.loop-place.invariant.1 k (omega arith) q a b on d;
    }
