use Rattle.std.proofs.Common.{◌≡◌, length}
use Rattle.hive_files.specs.Frames.{TouchesOwnFiles}
use Rattle.recovery.specs.Created.{IsOfHives}
use Rattle.recovery.proofs.Creations.{WrittenUpTo}
use Rattle.recovery.proofs.creation.write_hives.Given as goal

abbrev pub invariant-loop-hive : goal.invariant-loop-hive
invariant-loop-hive g l = record {
  made : g.D.Disk.faithful l.disk → WrittenUpTo l.hive l.images (g.D.Disk.state_at l.disk (g.D.Disk.clock l.disk));
  stays : TouchesOwnFiles (IsOfHives (length l.images)) (g.D.Disk.state_at l.fn.disk) (g.D.Disk.state_at l.disk) (g.D.Disk.clock l.fn.disk) (g.D.Disk.clock l.disk);
  failures : g.D.Disk.failures l.disk ≡ g.D.Disk.failures l.fn.disk;
  faithful : g.D.Disk.faithful l.disk → g.D.Disk.faithful l.fn.disk;
}
