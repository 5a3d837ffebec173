use Rattle.std.proofs.Common.{◌≡◌, ◌≤◌, length}
use Rattle.std.specs.Prelude.{vec_capacity}
use Rattle.recovery.specs.Created.{AreImagesOf}
use Rattle.recovery.proofs.creation.images_of.Given as goal

abbrev pub invariant-loop-hive : goal.invariant-loop-hive
invariant-loop-hive l = record {
  many : length l.images.items ≡ l.hive;
  room : l.count ≤ vec_capacity l.images;
  images : AreImagesOf l.id l.number l.trees l.images.items;
}
