use Rattle.std.proofs.Common.{◌≡◌, false, sym, arith, rules}
use Rattle.hive_records.specs.NameEncodings.{is_latin}
use Rattle.hive_records.proofs.Puts.{length-wide_bytes}
use Rattle.hive_records.proofs.names.stored_len.Goals as goal

pub overflow_cast-result-else-is_latin : goal.overflow_cast-result-else-is_latin
overflow_cast-result-else-is_latin c =
    let no : is_latin c.args.name.now ≡ false = search rules in
    omega (arith, length-wide_bytes c.args.name.now no, c.requires)

pub returns-else-is_latin : goal.returns-else-is_latin
returns-else-is_latin c =
    let no : is_latin c.args.name.now ≡ false = search rules in
    sym (length-wide_bytes c.args.name.now no)
