use Rattle.std.proofs.Common.{◌+◌, Bool, sym, subst, arith}
use Rattle.std.proofs.lemmas.List.{length-map}
use Rattle.rules.specs.Shapes.{ranks_in, transition, automaton_of}
use Rattle.reduction.specs.Marking.{live_in}
use Rattle.reduction.specs.Rounds.{round_in, Compared}
use Rattle.reduction.proofs.Passes.{has_mapped, at_mapped, SweptTo, to_marks, to_past, to_all}
use Rattle.reduction.proofs.comparison.Comparison.compare_one.Goals as goal
use Rattle.reduction.proofs.comparison.Comparison.compare_one.Goals.{then-compare, else-compare}

pub compare-requires : goal.compare-requires
compare-requires g c =
    (c.requires, (has_mapped (transition g.W.Kind.stands (ranks_in c.args.self.now.live.now.table.shape.now)) c.args.self.now.live.now.table.rules.now c.loop-other.other-index c.other-item.result c.loop-other-test.true c.other-item.is, sym c.if-not-is_live_rule.ensures))

pub loop-other-preserved : goal.loop-other-preserved
loop-other-preserved g c =
    let K = g.W.Kind.weights in
    let T = transition g.W.Kind.stands (ranks_in c.args.self.now.live.now.table.shape.now) in
    let A = automaton_of g.W.Kind.stands c.args.self.now.live.now.table in
    let live = live_in c.args.self.now.live.now.life.now in
    let ρ = round_in g.W.Kind.stands K c.args.self.now.factors in
    let P = Compared K A live ρ (T c.args.rule.now) in
    let Q = P (T c.other-item.result) in
    elim c.if-compare.branch [
      | then-compare w ↦ subst (λ (b : Bool). SweptTo K A live ρ P (c.loop-other.other-index + 1) c.args.marks.now c.compare.new.marks b) (sym w.marked-is)
          (to_marks K A live ρ P Q c.loop-other.other-index c.args.marks.now c.loop-other.marks c.compare.new.marks c.loop-other.marked c.loop-other.invariant w.if-compare.ensures)
      | else-compare w ↦ subst (λ (b : Bool). SweptTo K A live ρ P (c.loop-other.other-index + 1) c.args.marks.now c.compare.new.marks b) (sym w.marked-is)
          (to_past K A live ρ P Q c.loop-other.other-index c.args.marks.now c.loop-other.marks c.compare.new.marks c.loop-other.marked
          (at_mapped T c.args.self.now.live.now.table.rules.now c.loop-other.other-index c.other-item.result c.loop-other-test.true c.other-item.is (λ r. P r c.args.marks.now))
          c.loop-other.invariant w.if-compare.ensures)
    ]

pub returns : goal.returns
returns g c =
    let K = g.W.Kind.weights in
    let T = transition g.W.Kind.stands (ranks_in c.args.self.now.live.now.table.shape.now) in
    let A = automaton_of g.W.Kind.stands c.args.self.now.live.now.table in
    let live = live_in c.args.self.now.live.now.life.now in
    let ρ = round_in g.W.Kind.stands K c.args.self.now.factors in
    let n = length-map c.args.self.now.live.now.table.rules.now T in
    to_all K A live ρ (Compared K A live ρ (T c.args.rule.now)) c.loop-other.other-index c.args.marks.now c.loop-other.marks c.loop-other.marked (omega arith) c.loop-other.invariant
