use Rattle.std.proofs.Common.{refl, ap}
use Rattle.automata.specs.Examples.{residue}
use Rattle.rules.specs.Shapes.{states_in}
use Rattle.tables.specs.Images.{closed_holds}
use Rattle.known.specs.Rounds.{chain_opening, first_calls}
use Rattle.known.proofs.Reductions.{push_let_in, reduced_two}
use Rattle.known.proofs.rounds.push_and_reduce.Goals as goal

pub returns-in_err-push : goal.returns-in_err-push
returns-in_err-push c n room lived =
    absurd (push_let_in n (residue 4 tt tt) (residue 8 tt tt) room (closed_holds (λ v. v) c.args.table.now) lived _ c.in_err-push.ensures.answer.0)

pub returns : goal.returns
returns c n room lived =
    let pushed = c.in_ok-push.ensures in
    reduced_two n room (closed_holds (λ v. v) c.args.table.now) lived (closed_holds (λ v. v) c.push.new.self) (closed_holds (λ v. v) c.reduce.new.self) _ c.residue.result c.reduce.result
    (c.residue.ensures (residue 2 tt tt) refl) (ap states_in pushed.answer.1.shape) (pushed.unmoved (chain_opening n) first_calls lived)
    c.reduce.ensures.answer (c.reduce.ensures.unmoved (chain_opening n))
