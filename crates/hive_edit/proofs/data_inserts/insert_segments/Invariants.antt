use Rattle.std.proofs.Common.{◌≡◌, ◌*◌, ℕ, length, take}
use Rattle.hive_savepoint.specs.Puts.{HasData}
use Rattle.hive_emit.specs.Values.{InSegments}
use Rattle.hive_emit.proofs.Datas.{AllFull}
use Rattle.hive_edit.specs.DataInserts.{Inserts}
use Rattle.hive_edit.proofs.data_inserts.insert_segments.Given as goal

abbrev pub invariant-loop-index : goal.invariant-loop-index
invariant-loop-index l = record {
  added : Inserts l.fn.image.bytes l.image.bytes (InSegments AllFull l.offsets.items (take (16_344 * l.index) l.«data»));
  count : length l.offsets.items ≡ l.index;
  sizes : (cell len : ℕ) → HasData l.fn.image.bytes cell len → HasData l.image.bytes cell len;
  saved : l.image.saved ≡ l.fn.image.saved;
}
