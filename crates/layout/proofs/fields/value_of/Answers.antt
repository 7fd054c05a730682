use Rattle.std.proofs.Common.{arith}
use Rattle.std.proofs.lemmas.Int.Digits.{digits_more}
use Rattle.std.proofs.lemmas.List.{take_all}
use Rattle.layout.proofs.Decimal.{value_room, value_step, value_small, no_digit}
use Rattle.layout.proofs.fields.value_of.Goals as goal

pub returns-then-not-is_ascii_digit : goal.returns-then-not-is_ascii_digit
returns-then-not-is_ascii_digit c = no_digit c.args.text.now c.loop-byte.byte-index c.loop-byte-test.true c.if-not-is_ascii_digit.ensures.cases

pub overflow_mul-value : goal.overflow_mul-value
overflow_mul-value c = record { fits = omega (arith, value_room c.args.text.now c.loop-byte.byte-index c.requires c.loop-byte-test.true c.loop-byte.invariant.0, c.loop-byte.invariant.1) }

pub overflow_add-value : goal.overflow_add-value
overflow_add-value c = record { fits = omega (arith, value_room c.args.text.now c.loop-byte.byte-index c.requires c.loop-byte-test.true c.loop-byte.invariant.0, c.loop-byte.invariant.1, c.if-not-is_ascii_digit.ensures.cases) }

pub loop-byte-preserved : goal.loop-byte-preserved
loop-byte-preserved c = (
  digits_more 10 c.args.text.now c.loop-byte.byte-index c.loop-byte-test.true c.loop-byte.invariant.0 c.if-not-is_ascii_digit.ensures.bound,
  omega (arith, value_step c.args.text.now c.loop-byte.byte-index c.loop-byte-test.true c.if-not-is_ascii_digit.ensures.cases, c.loop-byte.invariant.1),
)

pub returns : goal.returns
returns c =
    let whole = take_all c.loop-byte.byte-index c.args.text.now c.loop-byte-test.false in
    let all = rw whole at c.loop-byte.invariant.0 in
    let is = rw whole at c.loop-byte.invariant.1 in
    (value_small c.args.text.now c.loop-byte.value c.requires all is, (all, is))
