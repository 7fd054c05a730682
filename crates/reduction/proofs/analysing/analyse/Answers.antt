use Rattle.liveness.specs.Listings.{flags_of}
use Rattle.std.proofs.Common.{arith}
use Rattle.pairs.specs.Cells.{cell_at}
use Rattle.rules.specs.Shapes.{states_in, automaton_of}
use Rattle.liveness.proofs.Listings.{flagged_within}
use Rattle.liveness.proofs.Lives.{lives}
use Rattle.reduction.specs.Marking.{live_in}
use Rattle.reduction.proofs.Partitioning.{analysed}
use Rattle.reduction.proofs.analysing.analyse.Goals as goal

pub invariant_of-live : goal.invariant_of-live
invariant_of-live g c =
    let lively = c.find_live-life.ensures c.find_reached-reach.ensures in
    record { few = λ q on. omega (arith, c.args.table.now.shape.now.measure.few, flagged_within (states_in c.args.table.now.shape.now) (flags_of c.find_live-life.result) c.find_live-life.result.order c.find_live-life.result.count lively.listed q on) }

pub returns : goal.returns
returns g c sound room =
    let K = g.W.Kind.weights in
    let A = automaton_of g.W.Kind.stands c.args.table.now in
    let life = c.find_live-life.result in
    let lively = c.find_live-life.ensures c.find_reached-reach.ensures in
    let decides = lives K A sound c.find_reached-reach.result c.find_reached-reach.ensures life lively in
    let told = c.first_marks-marks.ensures sound decides in
    analysed K g.W.Kind.stands A (live_in life) (cell_at c.first_marks-marks.result) (cell_at c.second_marks.new.marks) c.number_classes.result c.choose_factors.new.work sound decides told
    (c.choose_factors.ensures sound decides room told) (c.second_marks.ensures sound decides)
    (c.number_classes.ensures
    (λ q on. omega (arith, c.states.ensures, flagged_within (states_in c.args.table.now.shape.now) (flags_of life) life.order life.count lively.listed q on))
    (omega (arith, c.states.ensures, c.args.table.now.shape.now.measure.few)))
