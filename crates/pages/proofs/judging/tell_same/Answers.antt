use Rattle.tables.specs.Images.{closed_holds}
use Rattle.pages.specs.Judging.{TellsSame}
use Rattle.pages.proofs.Calls.{thrown}
use Rattle.pages.proofs.judging.tell_same.Goals as goal

pub returns-in_err-second_states : goal.returns-in_err-second_states
returns-in_err-second_states g c =
    thrown (TellsSame g.W.Kind.weights (closed_holds g.W.Kind.stands c.args.first.now) (closed_holds g.W.Kind.stands c.args.second.now)) c.from_residual-in_err-second_states.result c.in_err-second_states.field-0.0 c.from_residual-in_err-second_states.ensures.1
    (λ o h l o' h' l' a. c.in_err-second_states.ensures o' h' l')
