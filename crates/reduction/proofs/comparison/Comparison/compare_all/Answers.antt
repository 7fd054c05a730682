use Rattle.std.proofs.Common.{◌+◌, Bool, sym, subst, arith}
use Rattle.std.proofs.lemmas.List.{length-map}
use Rattle.rules.specs.Shapes.{ranks_in, transition, automaton_of}
use Rattle.reduction.specs.Marking.{live_in}
use Rattle.reduction.specs.Rounds.{round_in, ComparedOne}
use Rattle.reduction.proofs.Passes.{has_mapped, at_mapped, SweptTo, to_marks, to_past, to_all}
use Rattle.reduction.proofs.comparison.Comparison.compare_all.Goals as goal
use Rattle.reduction.proofs.comparison.Comparison.compare_all.Goals.{then-compare_one, else-compare_one}

pub compare_one-requires : goal.compare_one-requires
compare_one-requires g c =
    has_mapped (transition g.W.Kind.stands (ranks_in c.args.self.now.live.now.table.shape.now)) c.args.self.now.live.now.table.rules.now c.loop-rule.rule-index c.rule-item.result c.loop-rule-test.true c.rule-item.is

pub loop-rule-preserved : goal.loop-rule-preserved
loop-rule-preserved g c =
    let K = g.W.Kind.weights in
    let T = transition g.W.Kind.stands (ranks_in c.args.self.now.live.now.table.shape.now) in
    let A = automaton_of g.W.Kind.stands c.args.self.now.live.now.table in
    let live = live_in c.args.self.now.live.now.life.now in
    let ρ = round_in g.W.Kind.stands K c.args.self.now.factors in
    let P = ComparedOne K A live ρ in
    let Q = P (T c.rule-item.result) in
    elim c.if-compare_one.branch [
      | then-compare_one w ↦ subst (λ (b : Bool). SweptTo K A live ρ P (c.loop-rule.rule-index + 1) c.args.marks.now c.compare_one.new.marks b) (sym w.marked-is)
          (to_marks K A live ρ P Q c.loop-rule.rule-index c.args.marks.now c.loop-rule.marks c.compare_one.new.marks c.loop-rule.marked c.loop-rule.invariant w.if-compare_one.ensures)
      | else-compare_one w ↦ subst (λ (b : Bool). SweptTo K A live ρ P (c.loop-rule.rule-index + 1) c.args.marks.now c.compare_one.new.marks b) (sym w.marked-is)
          (to_past K A live ρ P Q c.loop-rule.rule-index c.args.marks.now c.loop-rule.marks c.compare_one.new.marks c.loop-rule.marked
          (at_mapped T c.args.self.now.live.now.table.rules.now c.loop-rule.rule-index c.rule-item.result c.loop-rule-test.true c.rule-item.is (λ r. P r c.args.marks.now))
          c.loop-rule.invariant w.if-compare_one.ensures)
    ]

pub returns : goal.returns
returns g c =
    let K = g.W.Kind.weights in
    let T = transition g.W.Kind.stands (ranks_in c.args.self.now.live.now.table.shape.now) in
    let A = automaton_of g.W.Kind.stands c.args.self.now.live.now.table in
    let live = live_in c.args.self.now.live.now.life.now in
    let ρ = round_in g.W.Kind.stands K c.args.self.now.factors in
    let n = length-map c.args.self.now.live.now.table.rules.now T in
    to_all K A live ρ (ComparedOne K A live ρ) c.loop-rule.rule-index c.args.marks.now c.loop-rule.marks c.loop-rule.marked (omega arith) c.loop-rule.invariant
