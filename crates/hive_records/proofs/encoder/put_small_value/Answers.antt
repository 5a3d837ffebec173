use Rattle.std.proofs.Common.{◌≡◌, ◌+◌, ◌++◌, ℕ, List, length, subst}
use Rattle.std.specs.Prelude.{OnOk}
use Rattle.hive_records.specs.ValueEncodings.{value_record}
use Rattle.hive_records.proofs.Puts.{small_field}
use Rattle.hive_records.proofs.encoder.put_small_value.Goals as goal

pub returns : goal.returns
returns c =
    let said = rw (c.copy_from_slice.ensures.after, c.bytes-data.ensures) at c.put_value.ensures in
    subst (λ (f : List ℕ). OnOk c.put_value.result (c.put_value.new.bytes.items ≡ c.args.bytes.now.items ++ value_record c.args.value.now (2147483648 + length c.args.value.now.data) f))
    (small_field c.args.value.now.data c.requires.few) said
