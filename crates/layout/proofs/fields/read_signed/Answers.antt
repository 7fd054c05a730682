use Rattle.std.proofs.Common.{w64, SFits, rules, arith}
use Rattle.std.proofs.lemmas.Int.{to_z-of_z, to_z_pos}
use Rattle.layout.proofs.Decided.{fails}
use Rattle.layout.proofs.Decimal.{signed_refused, plain_found, plain_none, minus_found, minus_none}
use Rattle.layout.proofs.fields.read_signed.Goals as goal

pub returns-then-not-starts_number : goal.returns-then-not-starts_number
returns-then-not-starts_number c = signed_refused c.args.text.now (fails c.starts_number.result c.starts_number.ensures c.if-not-starts_number.true)

pub returns-in_err-value_of-in-Some : goal.returns-in_err-value_of-in-Some
returns-in_err-value_of-in-Some c = rw c.from_residual.ensures (minus_none c.args.text.now c.in-Some.digits.now c.in-Some.ensures c.in_err-value_of-in-Some.ensures)

pub returns-in_ok-value_of-in-Some : goal.returns-in_ok-value_of-in-Some
returns-in_ok-value_of-in-Some c =
    let fits : SFits w64 c.negative.result = search rules in
    rw (to_z-of_z w64 c.negative.result fits, c.negative.ensures)
    (minus_found c.args.text.now c.in-Some.digits.now c.in_ok-value_of-in-Some.field-0 c.requires (c.starts_number.ensures.0 c.if-not-starts_number.false) c.in-Some.ensures c.in_ok-value_of-in-Some.ensures)

pub returns-in_err-value_of-in-None : goal.returns-in_err-value_of-in-None
returns-in_err-value_of-in-None c = rw c.from_residual-in_err-value_of-in-None.ensures (plain_none c.args.text.now c.in-None.ensures c.in_err-value_of-in-None.ensures)

pub returns-in_ok-value_of-in-None : goal.returns-in_ok-value_of-in-None
returns-in_ok-value_of-in-None c =
    rw (to_z_pos w64 c.in_ok-value_of-in-None.field-0 (omega (arith, c.in_ok-value_of-in-None.ensures.0)))
    (plain_found c.args.text.now c.in_ok-value_of-in-None.field-0 c.requires (c.starts_number.ensures.0 c.if-not-starts_number.false) c.in-None.ensures c.in_ok-value_of-in-None.ensures)
