use Rattle.std.proofs.Common.{refl}
use Rattle.reg_tree.specs.declared.op.Op.TheVariants.{CreateKey, DeleteKey, DeleteValue}
use Rattle.change_codec.specs.Readers.{give}
use Rattle.change_codec.specs.Encoding.{set_fields_at, set_value, value_name_at}
use Rattle.change_codec.proofs.Taken.{then_some}
use Rattle.change_codec.proofs.skipper.skip_tail.Goals as goal

pub returns-in-1 : goal.returns-in-1
returns-in-1 c = λ hive path. (CreateKey hive path, rw c.in-1.is refl, refl)

pub returns-in-2 : goal.returns-in-2
returns-in-2 c = λ hive path. (DeleteKey hive path, rw c.in-2.is refl, refl)

pub returns-in_ok-skip_set_fields-in-3 : goal.returns-in_ok-skip_set_fields-in-3
returns-in_ok-skip_set_fields-in-3 c = λ hive path.
    let got = c.in_ok-skip_set_fields-in-3 in
    (set_value hive path got.ensures.0, rw c.in-3.is (then_some set_fields_at (λ x. give (set_value hive path x)) c.args.bytes.now got.ensures.0 got.field-0.now got.ensures.1), refl)

pub returns-in_ok-first_value_name-in-4 : goal.returns-in_ok-first_value_name-in-4
returns-in_ok-first_value_name-in-4 c = λ hive path.
    let got = c.in_ok-first_value_name-in-4 in
    (DeleteValue hive path got.field-0.0.now, rw c.in-4.is (then_some value_name_at (λ name. give (DeleteValue hive path name)) c.args.bytes.now got.field-0.0.now got.field-0.1.now got.ensures), refl)
