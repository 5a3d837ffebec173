use Rattle.std.proofs.Common.{◌≡◌, length, arith, rules}
use Rattle.std.proofs.lemmas.Bool.Decides.{nat_tests}
use Rattle.reg_names.proofs.Parts.{no_names, names_are_parts}
use Rattle.regtx_c.proofs.names.parts.Goals as goal

pub returns-then-is_empty : goal.returns-then-is_empty
returns-then-is_empty c =
    let empty : length c.args.text.now ≡ 0 = grind (arith, nat_tests) in
    rw (no_names c.args.text.now empty) (search rules)

pub returns-else-is_empty : goal.returns-else-is_empty
returns-else-is_empty c = rw (names_are_parts c.args.text.now (λ empty. grind (arith, nat_tests))) c.names_between.ensures
