use Rattle.std.proofs.Common.{◌≡◌, ◌+◌, ◌<◌, ℕ, length, take}
use Rattle.hive_emit.specs.CellWrites.{Makes, HasFreeRoomAt, Uses}
use Rattle.hive_emit.specs.EmittedKeys.{KeepsSecurityCells, Keeps, AreShort}
use Rattle.hive_emit.specs.SecurityTables.{tallies, planned_offset, Laid}
use Rattle.hive_emit.specs.KeyCosts.{securities_cost}
use Rattle.hive_emit.proofs.security.SecurityTable.put.Given as goal

abbrev pub invariant-loop-index : goal.invariant-loop-index
invariant-loop-index l = record {
  made : Makes l.fn.image.bytes l.image.bytes (KeepsSecurityCells (take l.index l.self));
  uses : Uses l.fn.image.bytes l.image.bytes (securities_cost (take l.index l.self));
  cost : securities_cost l.self ≡ securities_cost l.fn.self;
  keeps : Keeps l.fn.self l.self;
  short : AreShort l.self;
  len : length l.self ≡ length l.fn.self;
  same : tallies l.self ≡ tallies l.fn.self;
  next : l.index < length l.fn.self → l.next ≡ planned_offset l.fn.self l.index;
  laid : (more : ℕ) → HasFreeRoomAt l.fn.image.bytes 32 (securities_cost l.fn.self + more) → Laid l.fn.self l.self l.image.bytes l.index l.previous more;
}
