use Rattle.std.proofs.Common.{length, Ok, Err}
use Rattle.std.proofs.lemmas.Result.{err_from_is_err_and}
use Rattle.tables.specs.Images.{closed_holds}
use Rattle.tables.specs.Reductions.{Reduces}
use Rattle.tables.proofs.Continuing.{continues_reduced, reduces, reduce_refused}
use Rattle.tables.proofs.closed.Closed.reduce.Goals as goal

pub returns-in_err-reduce_rules : goal.returns-in_err-reduce_rules
returns-in_err-reduce_rules g c =
    let K = g.W.Kind.weights in
    let b = closed_holds g.W.Kind.stands c.args.self.now in
    let b' = closed_holds g.W.Kind.stands c.reduce_rules.new.self in
    let n = length c.args.work.now in
    let e = c.in_err-reduce_rules.field-0.0 in
    let unchanged = c.in_err-reduce_rules.ensures.answer in
    let answer : Reduces K b n (Err e) b' = reduce_refused K g.W.Kind.stands c.args.self.now c.reduce_rules.new.self n e unchanged.0 unchanged.1.0 in
    let p = err_from_is_err_and c.from_residual.result c.from_residual.ensures.1 in
    rw (p.1, p.2) (record { answer = answer; refused = unchanged.1; unmoved = λ o h. continues_reduced K o h b b' n (Err e) answer })

pub returns : goal.returns
returns g c =
    let K = g.W.Kind.weights in
    let b = closed_holds g.W.Kind.stands c.args.self.now in
    let b' = closed_holds g.W.Kind.stands c.reduce_rules.new.self in
    let n = length c.args.work.now in
    let done = c.in_ok-reduce_rules.ensures in
    let answer : Reduces K b n (Ok (c.states-before.result, c.states.result)) b' =
    (done.answer.0, reduces K g.W.Kind.stands c.args.self.now c.reduce_rules.new.self c.states-before.result c.states.result c.states-before.ensures c.states.ensures done.length done.answer.1) in
    record { answer = answer; refused = tt; unmoved = λ o h. continues_reduced K o h b b' n (Ok (c.states-before.result, c.states.result)) answer }
