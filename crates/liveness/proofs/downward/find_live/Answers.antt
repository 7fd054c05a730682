use Rattle.rules.specs.Shapes.{automaton}
use Rattle.liveness.proofs.Onward.{living_begun, lively}
use Rattle.liveness.proofs.downward.find_live.Goals as goal

pub loop-init : goal.loop-init
loop-init g c = living_begun g.W.Kind.stands c.args.table.now.shape.now c.args.table.now.rules.now c.args.reach.now c.begin-life.result c.begin-life.ensures

pub returns : goal.returns
returns g c =
    lively (automaton g.W.Kind.stands c.args.table.now.shape.now c.args.table.now.rules.now) c.args.reach.now c.pass_down.new.life c.pass_down.ensures.living (c.pass_down.ensures.rest c.loop-test.false)
