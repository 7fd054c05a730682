use Rattle.std.proofs.Common.{◌≡◌, length, Ok, ap, ◌∙◌}
use Rattle.tables.specs.Images.{closed_holds}
use Rattle.pages.specs.declared.fault.Fault.TheVariants.{Table}
use Rattle.pages.specs.declared.trouble.Trouble.TheVariants.{Fault as refused}
use Rattle.pages.specs.Judging.{ByHistories, Judges}
use Rattle.pages.proofs.Calls.{thrown}
use Rattle.pages.proofs.Judged.{restored, judged_refused, judged_same, judged_different}
use Rattle.pages.proofs.judging.judge.Goals as goal

pub returns-in_err-at_line : goal.returns-in_err-at_line
returns-in_err-at_line g c =
    let K = g.W.Kind.weights in
    let x = c.in_err-at_line.field-0.0 in
    let long : length c.deref_mut.result.now ≡ 4802 = c.deref_mut.ensures.len ∙ c.in_ok-list.ensures.len in
    let many : length c.deref_mut-2.result.now ≡ 4802 = c.deref_mut-2.ensures.len ∙ c.in_ok-work.work.enough in
    thrown (λ r. ByHistories K (closed_holds g.W.Kind.stands c.args.first.now) (closed_holds g.W.Kind.stands c.args.second.now) (λ b d. Judges K b d r)) c.from_residual-in_err-at_line.result (refused (Table x.line x.error)) c.from_residual-in_err-at_line.ensures.1
    (judged_refused K g.W.Kind.stands c.args.first.now c.args.second.now c.deref_mut.result.now c.compare.new.list (length c.deref_mut-2.result.now) _ c.compare.result c.at_line.result c.at_line.ensures c.compare.ensures.answer x c.in_err-at_line.was long many)

pub returns-in-Same : goal.returns-in-Same
returns-in-Same g c =
    judged_same g.W.Kind.weights g.W.Kind.stands c.args.first.now c.args.second.now c.deref_mut.result.now c.compare.new.list (length c.deref_mut-2.result.now) _ c.compare.result c.at_line.result c.at_line.ensures c.compare.ensures.answer c.compare.new.self c.compare.new.other c.compare.ensures.same c.compare.ensures.other c.compare.ensures.whole c.tell_same.result
    (c.in_ok-at_line.was ∙ ap Ok c.in-Same.is) c.tell_same.ensures

pub returns : goal.returns
returns g c =
    let whole : length c.compare.new.list ≡ c.in_ok-list.list.len = c.compare.auto.list ∙ c.deref_mut.ensures.len in
    judged_different g.W.Kind.weights g.W.Kind.stands c.args.first.now c.args.second.now c.deref_mut.result.now c.compare.new.list (length c.deref_mut-2.result.now) _ c.compare.result c.at_line.result c.at_line.ensures c.compare.ensures.answer c.compare.new.self c.compare.new.other c.compare.ensures.same c.compare.ensures.other c.compare.ensures.whole c.tell_different.result
    c.in-Different.entries c.deref.result.now (c.in_ok-at_line.was ∙ ap Ok c.in-Different.is) (restored c.in_ok-list.list.len c.in-Different.entries c.compare.new.list _ c.deref.result.now whole (c.deref.ensures.value ∙ c.truncate.ensures.items)) c.tell_different.ensures
