use Rattle.std.proofs.Common.{◌+◌, ◌^◌, ◌≤◌, take, arith, rules}
use Rattle.std.specs.Str.Parse.{digits_value}
use Rattle.lt_text.proofs.Numbers.{one_more, too_large, digits_more}
use Rattle.lt_text.proofs.number.value.Goals as goal

pub returns-in_err-checked_mul : goal.returns-in_err-checked_mul
returns-in_err-checked_mul c =
    let digits = c.args.digits.now in
    let next = one_more digits c.loop-digit.digit-index c.loop-digit.n c.loop-digit-test.true (search rules) c.loop-digit.invariant.1 in
    let large : 2 ^ 64 ≤ digits_value 10 (take (c.loop-digit.digit-index + 1) digits) = grind arith in
    rw (c.from_residual.ensures) (too_large digits (c.loop-digit.digit-index + 1) large)

pub returns-in_err-n : goal.returns-in_err-n
returns-in_err-n c =
    let digits = c.args.digits.now in
    let next = one_more digits c.loop-digit.digit-index c.loop-digit.n c.loop-digit-test.true (search rules) c.loop-digit.invariant.1 in
    let large : 2 ^ 64 ≤ digits_value 10 (take (c.loop-digit.digit-index + 1) digits) = grind arith in
    rw (c.from_residual-in_err-n.ensures) (too_large digits (c.loop-digit.digit-index + 1) large)

pub loop-digit-preserved : goal.loop-digit-preserved
loop-digit-preserved c =
    let digits = c.args.digits.now in
    let next = one_more digits c.loop-digit.digit-index c.loop-digit.n c.loop-digit-test.true (search rules) c.loop-digit.invariant.1 in
    (digits_more digits c.loop-digit.digit-index c.loop-digit-test.true (search rules) c.loop-digit.invariant.0, grind arith)
