use Rattle.std.proofs.Common.{length, arith}
use Rattle.pairs.specs.Cells.{cell_at}
use Rattle.rules.specs.Shapes.{automaton_of}
use Rattle.reduction.specs.Choosing.{Readiness}
use Rattle.reduction.specs.Marking.{live_in, set_in}
use Rattle.reduction.specs.Classes.{factor_at}
use Rattle.reduction.proofs.Beginnings.{accepting_chosen, chosen_all}
use Rattle.reduction.proofs.RuleTurns.{ready_still}
use Rattle.reduction.proofs.chooser.Chooser.choose_factors.Goals as goal

pub loop-chosen-init : goal.loop-chosen-init
loop-chosen-init g c ready =
    accepting_chosen g.W.Kind.weights (automaton_of g.W.Kind.stands c.args.self.now.live.now.table) (live_in c.args.self.now.live.now.life.now) (cell_at c.args.self.now.marks.now) (length c.choose_accepting-chosen.new.work) ready
    (set_in c.choose_accepting-chosen.result) (factor_at g.W.Kind.stands g.W.Kind.weights c.choose_accepting-chosen.new.work) (c.choose_accepting-chosen.ensures (omega (arith, ready.room, c.choose_accepting-chosen.auto.work)))

pub loop-chosen-preserved : goal.loop-chosen-preserved
loop-chosen-preserved g c ready =
    let before = ready_still g.W.Kind.weights g.W.Kind.stands c.args.self.now c.choose_pass.new.work c.loop-chosen.work (omega (arith, c.choose_pass.auto.work)) ready in
    c.choose_pass.ensures.choice before (c.loop-chosen.invariant before)

pub returns : goal.returns
returns g c sound decides room told =
    let ready : Readiness g.W.Kind.stands g.W.Kind.weights c.args.self.now c.loop-chosen.work =
    record { sound = sound; decides = decides; room = omega arith; told = told } in
    let choice = c.loop-chosen.invariant ready in
    chosen_all g.W.Kind.weights (automaton_of g.W.Kind.stands c.args.self.now.live.now.table) (live_in c.args.self.now.live.now.life.now) (cell_at c.args.self.now.marks.now) (length c.loop-chosen.work) ready
    (set_in c.choose_pass.new.chosen) (factor_at g.W.Kind.stands g.W.Kind.weights c.choose_pass.new.work) (c.choose_pass.ensures.choice ready choice) (c.choose_pass.ensures.rest c.loop-chosen-test.false ready choice)
