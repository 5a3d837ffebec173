use Rattle.std.proofs.Common.{rules, ◌≡◌, ◌<◌, length, ap, sym, subst, Some}
use Rattle.std.specs.Option.{option_copied}
use Rattle.script_syntax.proofs.Escapes.{left, left_smaller, begins, goes_on, stops, ends}
use Rattle.script_syntax.proofs.Refusing.{carried, handed_on}
use Rattle.script_syntax.specs.Words.{escaped, units_of}
use Rattle.script_syntax.proofs.word_parser.text.Goals as goal

pub loop-rest-init : goal.loop-rest-init
loop-rest-init c =
    begins c.push_bytes.new.units.items c.first_part.result.0.now c.args.word.now (option_copied c.first_part.result.1)
    (search (rules, c.in_ok-push_bytes.ensures, c.in_ok-units.ensures.items)) c.first_part.ensures.before c.first_part.ensures.behind

pub returns-in_err-push_escaped : goal.returns-in_err-push_escaped
returns-in_err-push_escaped c =
    handed_on c.from_residual-in_err-push_escaped.result c.in_err-push_escaped.field-0.0 (units_of c.args.word.now) c.from_residual-in_err-push_escaped.ensures.1
    (carried c.in_err-push_escaped.field-0.0 (escaped c.first_part-in-Some.result.0.now) (units_of c.args.word.now)
    (stops c.loop-rest.units.items c.first_part-in-Some.result.0.now c.in-Some.escapes.now c.args.word.now (option_copied c.first_part-in-Some.result.1) (option_copied c.loop-rest.rest)
    (ap option_copied c.in-Some.is) c.first_part-in-Some.ensures.parts c.loop-rest.invariant)
    c.in_err-push_escaped.ensures)

pub loop-rest-smaller : goal.loop-rest-smaller
loop-rest-smaller c =
    subst (λ rest. left (option_copied c.first_part-in-Some.result.1) < left rest) (sym (ap option_copied c.in-Some.is))
    (left_smaller c.first_part-in-Some.result.1 (length c.in-Some.escapes.now) c.first_part-in-Some.ensures.shorter)

pub loop-rest-preserved : goal.loop-rest-preserved
loop-rest-preserved c =
    let more = c.in_ok-push_escaped.ensures in
    goes_on c.loop-rest.units.items more.0 c.first_part-in-Some.result.0.now c.in-Some.escapes.now c.args.word.now c.push_escaped.new.units.items
    (option_copied c.first_part-in-Some.result.1) (option_copied c.loop-rest.rest) (ap option_copied c.in-Some.is) c.first_part-in-Some.ensures.parts c.loop-rest.invariant more.1 more.2

pub returns : goal.returns
returns c = subst (λ units. units_of c.args.word.now ≡ Some units) (sym c.new.ensures) (ends c.loop-rest.units.items c.args.word.now (option_copied c.loop-rest.rest) (ap option_copied c.in_default.is) c.loop-rest.invariant)
