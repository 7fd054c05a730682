use Rattle.std.proofs.Common.{arith}
use Rattle.rules.specs.Shapes.{ranks_in, transition, automaton_of}
use Rattle.reduction.specs.Marking.{live_in}
use Rattle.reduction.specs.Rounds.{LoneNoted}
use Rattle.reduction.proofs.Counterparts.{noted_kept, below_onward}
use Rattle.reduction.proofs.live_table.LiveTable.lone_place.Goals as goal

pub loop-q-preserved : goal.loop-q-preserved
loop-q-preserved g c =
    let K = g.W.Kind.weights in
    let A = automaton_of g.W.Kind.stands c.args.self.now.table in
    let live = live_in c.args.self.now.life.now in
    let r = transition g.W.Kind.stands (ranks_in c.args.self.now.table.shape.now) c.args.rule.now in
    below_onward K A live (LoneNoted K A live r c.args.place) (noted_kept K A live r c.args.place) c.args.marks.now c.loop-q.marks c.note_lone.new.marks c.loop-q.q c.note_lone.ensures.grown c.note_lone.ensures.noted c.loop-q.invariant

pub returns : goal.returns
returns g c = record {
  grown = c.loop-q.invariant.0;
  noted = λ q a b on d. let small = c.args.self.now.few q on in c.loop-q.invariant.1 q (omega arith) a b on d;
}
