use Rattle.std.proofs.Common.{Ok, Err, refl, ◌∙◌, subst}
use Rattle.tables.specs.Images.{draft_holds}
use Rattle.pages.specs.declared.trouble.Trouble.TheVariants.{Fault as refused}
use Rattle.pages.specs.Reading.{ReadsNext, FillsRest}
use Rattle.pages.proofs.Calls.{thrown}
use Rattle.pages.proofs.Said.{said_end, said_other}
use Rattle.pages.proofs.Walks.{going_more, going_ended, going_refused, going_silent}
use Rattle.pages.proofs.filling.fill_table.Goals as goal

pub returns-in_err-line : goal.returns-in_err-line
returns-in_err-line g c =
    let K = g.W.Kind.weights in
    let b = draft_holds g.W.Kind.stands c.args.draft.now in
    let b' = draft_holds g.W.Kind.stands c.loop-line.draft in
    let page = c.args.cursor.now.page.now in
    let none = subst (λ p. ReadsNext p c.loop-line.cursor c.next_line.new.self (Err c.in_err-line.field-0.0)) c.loop-line.invariant.0 c.in_err-line.ensures.read in
    record {
      page = c.next_line.ensures.page ∙ c.loop-line.invariant.0;
      filled =
          thrown (FillsRest K page c.args.cursor.now c.next_line.new.self b b') c.from_residual.result (refused c.in_err-line.field-0.0) c.from_residual.ensures.1
          (going_silent K page c.args.cursor.now b c.loop-line.cursor c.next_line.new.self b' b' c.in_err-line.field-0.0 c.loop-line.invariant.1 none.1 none.0);
    }

pub returns-in-End : goal.returns-in-End
returns-in-End g c =
    let b = draft_holds g.W.Kind.stands c.args.draft.now in
    let b' = draft_holds g.W.Kind.stands c.loop-line.draft in
    let read = subst (λ p. ReadsNext p c.loop-line.cursor c.next_line.new.self (Ok c.in_ok-line.line)) c.loop-line.invariant.0 c.in_ok-line.ensures.read in
    record {
      page = c.next_line.ensures.page ∙ c.loop-line.invariant.0;
      filled = going_ended g.W.Kind.weights c.args.cursor.now.page.now c.args.cursor.now b c.loop-line.cursor c.next_line.new.self b' b' read.0 c.loop-line.invariant.1 read.1 (said_end c.in_ok-line.line read.0 c.in-End.is read.2) refl;
    }

pub loop-line-preserved : goal.loop-line-preserved
loop-line-preserved g c =
    let b = draft_holds g.W.Kind.stands c.args.draft.now in
    let b' = draft_holds g.W.Kind.stands c.loop-line.draft in
    let b'' = draft_holds g.W.Kind.stands c.enter.new.draft in
    let read = subst (λ p. ReadsNext p c.loop-line.cursor c.next_line.new.self (Ok c.in_ok-line.line)) c.loop-line.invariant.0 c.in_ok-line.ensures.read in (
      c.next_line.ensures.page ∙ c.loop-line.invariant.0,
      going_more g.W.Kind.weights c.args.cursor.now.page.now c.args.cursor.now b c.loop-line.cursor c.next_line.new.self b' b'' read.0 c.loop-line.invariant.1 read.1
          (c.in_ok-enter.ensures read.0 read.2 read.1.begins.fits (said_other c.in_ok-line.line read.0 c.in_default.not-End read.2)),
    )

pub returns-in_err-enter : goal.returns-in_err-enter
returns-in_err-enter g c =
    let K = g.W.Kind.weights in
    let b = draft_holds g.W.Kind.stands c.args.draft.now in
    let b' = draft_holds g.W.Kind.stands c.loop-line.draft in
    let b'' = draft_holds g.W.Kind.stands c.enter.new.draft in
    let page = c.args.cursor.now.page.now in
    let read = subst (λ p. ReadsNext p c.loop-line.cursor c.next_line.new.self (Ok c.in_ok-line.line)) c.loop-line.invariant.0 c.in_ok-line.ensures.read in
    record {
      page = c.next_line.ensures.page ∙ c.loop-line.invariant.0;
      filled =
          thrown (FillsRest K page c.args.cursor.now c.next_line.new.self b b'') c.from_residual-in_err-enter.result c.in_err-enter.field-0.0 c.from_residual-in_err-enter.ensures.1
          (going_refused K page c.args.cursor.now b c.loop-line.cursor c.next_line.new.self b' b'' read.0 c.line-number.result c.in_err-enter.field-0.0 c.loop-line.invariant.1 read.1 c.line-number.ensures
          (c.in_err-enter.ensures read.0 read.2 read.1.begins.fits (said_other c.in_ok-line.line read.0 c.in_default.not-End read.2)));
    }
