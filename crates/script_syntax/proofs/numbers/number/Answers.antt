use Rattle.std.proofs.Common.{◌≡◌, sym, subst, rules, None}
use Rattle.script_syntax.specs.Words.{number_of}
use Rattle.script_syntax.proofs.Digits.{AreDigits, digits_are_text, not_parsed}
use Rattle.script_syntax.proofs.numbers.number.Goals as goal

pub returns-in_default : goal.returns-in_default
returns-in_default c =
    let digits : AreDigits c.args.word.now = search rules in
    absurd (c.in_default.ensures.cases.0 (digits_are_text _ digits))

pub returns-in_default-parse-2 : goal.returns-in_default-parse-2
returns-in_default-parse-2 c =
    let digits : AreDigits c.args.word.now = search rules in
    let same : c.in-Ok.text.now ≡ c.args.word.now = c.in-Ok.ensures.cases.0 in
    let read : AreDigits c.in-Ok.text.now = subst AreDigits (sym same) digits in
    subst (λ word. None ≡ number_of c.args.most word) same (not_parsed c.args.most c.in-Ok.text.now c.in_default-parse.field-0 c.ranges.most.fits read c.in_default-parse.ensures.value.0)
