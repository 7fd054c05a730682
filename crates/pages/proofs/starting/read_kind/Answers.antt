use Rattle.std.proofs.Common.{◌≡◌, IfOk, Ok, Err, sym, ap, ◌∙◌, subst}
use Rattle.std.proofs.lemmas.Bool.{both_ways}
use Rattle.pages.specs.declared.fault.Fault.TheVariants.{Layout}
use Rattle.pages.specs.Pages.{FirstFault, too_long}
use Rattle.pages.specs.Reading.{ReadsNext, ReadsKind}
use Rattle.pages.proofs.Calls.{thrown}
use Rattle.pages.proofs.Starts.{kind_found, no_line, no_kind_line, no_known_kind}
use Rattle.pages.proofs.starting.read_kind.Goals as goal

pub returns-then-not-fits_page : goal.returns-then-not-fits_page
returns-then-not-fits_page c = record { read = too_long (λ fits. both_ways c.fits_page.result c.if-not-fits_page.true (c.fits_page.ensures.1 fits)); page = tt }

pub returns-in_err-number : goal.returns-in_err-number
returns-in_err-number c =
    let none = subst (λ p. ReadsNext p c.start-cursor.result c.next_line.new.self (Err c.in_err-number.field-0.0)) c.start-cursor.ensures.page c.in_err-number.ensures.read in
    let fits = c.fits_page.ensures.0 c.if-not-fits_page.false in
    let by = c.from_residual.ensures.1 in
    record {
      read =
          thrown (ReadsKind c.args.page.now) c.from_residual.result c.in_err-number.field-0.0 by
          (subst (FirstFault c.args.page.now) (ap Layout c.line-line.ensures ∙ sym none.0) (no_line c.args.page.now c.start-cursor.result c.next_line.new.self fits c.start-cursor.ensures.place c.start-cursor.ensures.number c.line-line.result c.line-line.ensures none.1));
      page = thrown (λ r. IfOk r (λ v. v.1.page.now ≡ c.args.page.now)) c.from_residual.result c.in_err-number.field-0.0 by tt;
    }

pub returns-in_default : goal.returns-in_default
returns-in_default c =
    let read = subst (λ p. ReadsNext p c.start-cursor.result c.next_line.new.self (Ok c.in_ok-number.field-0)) c.start-cursor.ensures.page c.in_ok-number.ensures.read in
    let fits = c.fits_page.ensures.0 c.if-not-fits_page.false in
    record {
      read =
          no_kind_line c.args.page.now c.start-cursor.result c.next_line.new.self fits c.start-cursor.ensures.place c.start-cursor.ensures.number c.line-line.result c.in_ok-number.field-0 read.0 c.line-line.ensures read.1 read.2 c.in_default.not-Kind;
      page = tt;
    }

pub returns-in-Ok : goal.returns-in-Ok
returns-in-Ok c =
    let read = subst (λ p. ReadsNext p c.start-cursor.result c.next_line.new.self (Ok c.in_ok-number.field-0)) c.start-cursor.ensures.page c.in_ok-number.ensures.read in
    let fits = c.fits_page.ensures.0 c.if-not-fits_page.false in
    record {
      read =
          kind_found c.args.page.now c.start-cursor.result c.next_line.new.self fits c.start-cursor.ensures.place c.start-cursor.ensures.number c.in_ok-number.field-0 c.in-Kind.number read.0 c.in-Ok.named read.1 read.2 c.in-Kind.is c.in-Ok.ensures;
      page = c.next_line.ensures.page ∙ c.start-cursor.ensures.page;
    }

pub returns-in-Err : goal.returns-in-Err
returns-in-Err c =
    let read = subst (λ p. ReadsNext p c.start-cursor.result c.next_line.new.self (Ok c.in_ok-number.field-0)) c.start-cursor.ensures.page c.in_ok-number.ensures.read in
    let fits = c.fits_page.ensures.0 c.if-not-fits_page.false in
    record {
      read =
          no_known_kind c.args.page.now c.start-cursor.result c.next_line.new.self fits c.start-cursor.ensures.place c.start-cursor.ensures.number c.line-line.result c.in_ok-number.field-0 c.in-Kind.number read.0 c.line-line.ensures read.1 read.2 c.in-Kind.is c.in-Err.ensures;
      page = tt;
    }
