use Rattle.std.proofs.Common.{sym, subst, arith}
use Rattle.pairs.proofs.Counts.{marked_bound}
use Rattle.rules.specs.Shapes.{automaton_of}
use Rattle.reduction.specs.Marking.{live_in}
use Rattle.reduction.specs.Rounds.{round_in, ComparedAll}
use Rattle.reduction.proofs.Telling.{grown_onward}
use Rattle.reduction.proofs.comparison.Comparison.settle.Goals as goal

pub loop-smaller : goal.loop-smaller
loop-smaller g c =
    let more = c.compare_all.ensures.more c.loop-test.true in
    omega (arith, marked_bound c.compare_all.new.marks)

pub loop-preserved : goal.loop-preserved
loop-preserved g c =
    grown_onward g.W.Kind.weights (automaton_of g.W.Kind.stands c.args.self.now.live.now.table) (live_in c.args.self.now.live.now.life.now) (round_in g.W.Kind.stands g.W.Kind.weights c.args.self.now.factors) c.args.marks.now c.loop.marks c.compare_all.new.marks c.loop.invariant c.compare_all.ensures.grown

pub returns : goal.returns
returns g c =
    let K = g.W.Kind.weights in
    let A = automaton_of g.W.Kind.stands c.args.self.now.live.now.table in
    let live = live_in c.args.self.now.live.now.life.now in
    let ρ = round_in g.W.Kind.stands K c.args.self.now.factors in
    record {
      grown = grown_onward K A live ρ c.args.marks.now c.loop.marks c.compare_all.new.marks c.loop.invariant c.compare_all.ensures.grown;
      rest = subst (ComparedAll K A live ρ) (sym (c.compare_all.ensures.same c.loop-test.false)) (c.compare_all.ensures.rest c.loop-test.false);
    }
