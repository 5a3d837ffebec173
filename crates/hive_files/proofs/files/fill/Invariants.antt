use Rattle.std.proofs.Common.{◌≡◌, ◌⊎◌, ◌-◌, ◌+◌, ◌%◌, ◌≤◌, length, take, drop}
use Rattle.disk_model.specs.ReadOnly.{OnlyReads}
use Rattle.hive_files.specs.Chunks.{reads_of}
use Rattle.hive_files.proofs.files.fill.Given as goal

abbrev pub invariant-chunks : goal.invariant-chunks
invariant-chunks g l =
    let seen = (g.D.Disk.state_at l.fn.disk (g.D.Disk.clock l.fn.disk) l.fn.file).seen in
    record {
      size : length l.bytes ≡ length l.fn.bytes;
      within : l.at ≤ length l.fn.bytes;
      bytes : g.D.Disk.faithful l.disk → l.fn.offset + length l.fn.bytes ≤ length seen → take l.at l.bytes ≡ take l.at (drop l.fn.offset seen);
      calls : g.D.Disk.clock l.disk ≡ g.D.Disk.clock l.fn.disk + reads_of l.at;
      whole : (l.at % 65536 ≡ 0) ⊎ (l.at ≡ length l.fn.bytes);
      reads : OnlyReads (g.D.Disk.state_at l.fn.disk) (g.D.Disk.state_at l.disk) (g.D.Disk.clock l.fn.disk) (g.D.Disk.clock l.disk);
      failures : g.D.Disk.failures l.fn.disk ≤ g.D.Disk.failures l.disk;
      faithful : g.D.Disk.faithful l.disk → g.D.Disk.faithful l.fn.disk;
    }

abbrev pub decreases-chunks : goal.decreases-chunks
decreases-chunks g l = length l.initial.bytes - l.at
