use Rattle.std.proofs.Common.{◌<◌, arith, ◌∙◌, sym, ap, Some}
use Rattle.reg_file.proofs.Digits.{one_digit_more}
use Rattle.reg_file.proofs.Scans.{digits_more}
use Rattle.reg_file.proofs.hex_number.digits_behind.Goals as goal

pub overflow_mul-number : goal.overflow_mul-number
overflow_mul-number c =
    let more = one_digit_more c.loop-unit.left c.loop-unit.number 0 c.loop-unit.invariant.1 c.if-left-eq0.false c.loop-unit.invariant.2 (omega arith) in
    omega (arith, more.0)

pub overflow_add-number : goal.overflow_add-number
overflow_add-number c =
    let small : c.from.result < 16 = omega (arith, c.in-Some-digit.ensures.bound, c.from.ensures) in
    let more = one_digit_more c.loop-unit.left c.loop-unit.number c.from.result c.loop-unit.invariant.1 c.if-left-eq0.false c.loop-unit.invariant.2 small in
    omega (arith, more.0)

pub loop-unit-preserved : goal.loop-unit-preserved
loop-unit-preserved c =
    let small : c.from.result < 16 = omega (arith, c.in-Some-digit.ensures.bound, c.from.ensures) in
    let more = one_digit_more c.loop-unit.left c.loop-unit.number c.from.result c.loop-unit.invariant.1 c.if-left-eq0.false c.loop-unit.invariant.2 small in
    (digits_more c.loop-unit.left c.loop-unit.number c.in-Some.unit.now c.from.result c.in-Some.others.now c.loop-unit.rest.now (c.in-Some.ensures.cases).0 (sym c.in-Some-digit.ensures.value ∙ ap Some (sym c.from.ensures)) c.if-left-eq0.false ∙ c.loop-unit.invariant.0, more.1, more.2)
