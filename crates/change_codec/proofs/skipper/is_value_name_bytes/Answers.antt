use Rattle.std.proofs.Common.{◌≡◌, arith}
use Rattle.std.specs.List.{list_all}
use borrow.Author.Tests.{tests}
use Rattle.std.proofs.Common.{rules}
use Rattle.std.proofs.lemmas.Iterator.{YieldsList-from_slice}
use Rattle.std.proofs.lemmas.Iterator.Search.{all_from_yields_List}
use Rattle.std.proofs.lemmas.Bool.Decides.{nat_tests}
use Rattle.std.proofs.lemmas.Grind.{common_steps}
use Rattle.reg_names.specs.Names.{is_name_unit}
use Rattle.change_codec.proofs.skipper.is_value_name_bytes.Goals as goal

pub returns-then-bytes-le-MOST_VALUE_NAME_UNITS : goal.returns-then-bytes-le-MOST_VALUE_NAME_UNITS
returns-then-bytes-le-MOST_VALUE_NAME_UNITS c =
    let every : c.all-known.result ≡ list_all is_name_unit c.args.bytes.now = all_from_yields_List is_name_unit _ _ c.all-known.result c.all-known.ensures.ran (YieldsList-from_slice c.args.bytes.now cc) (λ x b q k. search (rules, tests)) in
    grind (arith, common_steps, nat_tests, every)
