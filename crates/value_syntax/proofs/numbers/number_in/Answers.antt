use Rattle.std.proofs.Common.{◌≡◌, sym, subst, rules, None}
use Rattle.value_syntax.specs.TypeWords.{number_in}
use Rattle.value_syntax.proofs.Digits.{AreDigits, digits_are_text, not_parsed}
use Rattle.value_syntax.proofs.numbers.number_in.Goals as goal

pub returns-in_default : goal.returns-in_default
returns-in_default c =
    let digits : AreDigits c.args.base c.args.word.now = search rules in
    absurd (c.in_default.ensures.cases.0 (digits_are_text c.args.base _ c.requires.high digits))

pub returns-in_default-from_str_radix-2 : goal.returns-in_default-from_str_radix-2
returns-in_default-from_str_radix-2 c =
    let digits : AreDigits c.args.base c.args.word.now = search rules in
    let same : c.in-Ok.text.now ≡ c.args.word.now = c.in-Ok.ensures.cases.0 in
    let read : AreDigits c.args.base c.in-Ok.text.now = subst (AreDigits c.args.base) (sym same) digits in
    subst (λ word. None ≡ number_in c.args.base c.args.most word) same
    (not_parsed c.args.base c.args.most c.in-Ok.text.now c.in_default-from_str_radix.field-0 c.requires.high c.ranges.most.fits read c.in_default-from_str_radix.ensures.value)
