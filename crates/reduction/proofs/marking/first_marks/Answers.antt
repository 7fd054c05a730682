use Rattle.rules.specs.Shapes.{automaton_of}
use Rattle.reduction.specs.Marking.{live_in}
use Rattle.reduction.proofs.Passes.{told_first}
use Rattle.reduction.proofs.marking.first_marks.Goals as goal

pub returns : goal.returns
returns g c =
    told_first g.W.Kind.weights (automaton_of g.W.Kind.stands c.args.live.now.table) (live_in c.args.live.now.life.now) c.accept_marks-marks.result c.mark_lone.new.marks c.settle.new.marks c.accept_marks-marks.ensures c.mark_lone.ensures.grown c.mark_lone.ensures.noted c.settle.ensures.grown c.settle.ensures.rest
