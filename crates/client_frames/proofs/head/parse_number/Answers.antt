use Rattle.std.proofs.Common.{◌≡◌, ◌<◌, ℕ, true, false, List, length, get_or, Ok, refl, sym, subst}
use Rattle.std.specs.Str.Parse.{ParsesUnsigned}
use Rattle.client_frames.specs.Heads.{IsNoNumber}
use Rattle.client_frames.proofs.Numbers.{leading_zero, no_digits, digits_are_utf8, not_parsed, too_large, is_decimal}
use Rattle.client_frames.proofs.head.parse_number.Goals as goal

pub returns-then-not-are_digits : goal.returns-then-not-are_digits
returns-then-not-are_digits c = no_digits c.args.most c.args.text.now c.ranges.most.fits (sym c.if-not-are_digits.ensures)

pub returns-in_default : goal.returns-in_default
returns-in_default c = absurd (c.in_default.ensures.cases.0 (digits_are_utf8 c.args.text.now (sym c.if-not-are_digits.ensures)))

pub returns-in_default-parse : goal.returns-in_default-parse
returns-in_default-parse c =
    subst (IsNoNumber c.args.most) c.in-Ok.ensures.cases.0 (too_large c.args.most c.in-Ok.digits.now c.in-Ok-parse.number c.ranges.most.fits c.in-Ok-parse.ensures.value.0 c.if-number-most.false)

pub returns-in_default-parse-2 : goal.returns-in_default-parse-2
returns-in_default-parse-2 c =
    subst (IsNoNumber c.args.most) c.in-Ok.ensures.cases.0 (not_parsed c.args.most c.in-Ok.digits.now c.in_default-parse.field-0 c.ranges.most.fits c.in_default-parse.ensures.value.0)

pub returns-then-is_padded : goal.returns-then-is_padded
returns-then-is_padded c =
    let both = c.if-is_padded.ensures.0 refl in
    leading_zero c.args.most c.args.text.now c.ranges.most.fits both.0 both.1

pub returns-in-Ok-parse : goal.returns-in-Ok-parse
returns-in-Ok-parse c =
    let plain : ¬ ((1 < length c.args.text.now) × (get_or c.args.text.now 0 0 ≡ 48)) = λ both. let no : false ≡ true = c.if-is_padded.ensures.1 both in cc in
    let parses = subst (λ (l : List ℕ). ParsesUnsigned {E = ℕ} 64 10 l (Ok c.in-Ok-parse.number)) c.in-Ok.ensures.cases.0 c.in-Ok-parse.ensures.value.0 in
    (c.if-number-most.true, is_decimal c.args.text.now c.in-Ok-parse.number (sym c.if-not-are_digits.ensures) plain parses)
