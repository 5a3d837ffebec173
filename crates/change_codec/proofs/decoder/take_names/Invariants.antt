use Rattle.std.proofs.Common.{◌≡◌, ◌-◌, length, true}
use Rattle.std.specs.List.{list_all}
use Rattle.reg_names.specs.Names.{is_key_name}
use Rattle.change_codec.specs.Readers.{repeat}
use Rattle.change_codec.specs.Encoding.{key_name_at}
use Rattle.change_codec.proofs.Taken.{behind}
use Rattle.change_codec.proofs.decoder.take_names.Given as goal

abbrev pub invariant-loop-taken : goal.invariant-loop-taken
invariant-loop-taken l = record {
  read : repeat l.count key_name_at l.bytes ≡ behind l.names.items (repeat (l.count - l._taken) key_name_at l.rest);
  keys : list_all is_key_name l.names.items ≡ true;
  many : length l.names.items ≡ l._taken;
}
