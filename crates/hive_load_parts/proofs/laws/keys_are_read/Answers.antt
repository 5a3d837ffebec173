use Rattle.hive_load_parts.proofs.KeyTold.{key_parts, key_told}
use Rattle.hive_load_parts.proofs.laws.keys_are_read.Goals as goal

pub returns : goal.returns
returns c = record {
  parts = λ split cells at old new row subkey_list h. key_parts split cells at old new row subkey_list h;
  refused = λ split cells at old new why h. key_told split cells at old new why h;
}
