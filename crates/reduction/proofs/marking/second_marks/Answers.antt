use Rattle.rules.specs.Shapes.{automaton_of}
use Rattle.reduction.specs.Classes.{factor_at}
use Rattle.reduction.specs.Marking.{live_in}
use Rattle.reduction.proofs.Passes.{told_second}
use Rattle.reduction.proofs.marking.second_marks.Goals as goal

pub returns : goal.returns
returns g c =
    told_second g.W.Kind.weights (automaton_of g.W.Kind.stands c.args.live.now.table) (live_in c.args.live.now.life.now) (factor_at g.W.Kind.stands g.W.Kind.weights c.args.work.now) c.args.marks.now c.settle.new.marks c.settle.ensures.grown c.settle.ensures.rest
