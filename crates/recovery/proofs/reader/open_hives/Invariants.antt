use Rattle.std.proofs.Common.{◌≡◌, ◌≤◌, length}
use Rattle.std.specs.Prelude.{vec_capacity}
use Rattle.disk_model.specs.Call.{Extends}
use Rattle.disk_model.specs.ReadOnly.{OnlySyncs}
use Rattle.recovery.specs.Reading.{AreOpened}
use Rattle.recovery.specs.Recovered.{seen_in}
use Rattle.recovery.specs.Repairs.{most_repairs, repairs_left}
use Rattle.recovery.proofs.reader.open_hives.Given as goal

abbrev pub invariant-loop-place : goal.invariant-loop-place
invariant-loop-place g l = record {
  many : length l.hives.items ≡ l.place;
  room : l.count ≤ vec_capacity l.hives;
  opened : AreOpened (g.D.Disk.faithful l.disk) l.fn.store (g.D.Disk.state_at l.fn.disk (g.D.Disk.clock l.fn.disk)) (g.D.Disk.state_at l.disk (g.D.Disk.clock l.disk)) l.hives.items;
  synced : g.D.Disk.faithful l.disk → OnlySyncs (g.D.Disk.state_at l.fn.disk) (g.D.Disk.state_at l.disk) (g.D.Disk.clock l.fn.disk) (g.D.Disk.clock l.disk);
  few : g.D.Disk.faithful l.disk → repairs_left l.hives.items ≤ most_repairs (seen_in (g.D.Disk.state_at l.fn.disk (g.D.Disk.clock l.fn.disk))) l.place;
  time : Extends (g.D.Disk.state_at l.fn.disk) (g.D.Disk.state_at l.disk) (g.D.Disk.clock l.fn.disk) (g.D.Disk.clock l.disk);
  failures : g.D.Disk.failures l.fn.disk ≤ g.D.Disk.failures l.disk;
  faithful : g.D.Disk.faithful l.disk → g.D.Disk.faithful l.fn.disk;
}
