use Rattle.std.proofs.Common.{◌≡◌, ◌-◌, ◌≤◌, ◌++◌, length, take}
use Rattle.hive_files.specs.Frames.{TouchesOwnFiles}
use Rattle.hive_files.specs.Chunks.{KeepsWritesShort}
use Rattle.hive_files.proofs.creation.append.Given as goal

abbrev pub invariant-chunks : goal.invariant-chunks
invariant-chunks g l =
    let old = (g.D.Disk.state_at l.fn.disk (g.D.Disk.clock l.fn.disk) l.fn.file).seen in
    let now = (g.D.Disk.state_at l.disk (g.D.Disk.clock l.disk) l.fn.file).seen in
    record {
      within : l.at ≤ length l.fn.bytes;
      seen : g.D.Disk.faithful l.disk → length old ≡ l.fn.from → now ≡ old ++ take l.at l.fn.bytes;
      stays : TouchesOwnFiles (λ f. f ≡ l.fn.file) (g.D.Disk.state_at l.fn.disk) (g.D.Disk.state_at l.disk) (g.D.Disk.clock l.fn.disk) (g.D.Disk.clock l.disk);
      chunks : g.D.Disk.faithful l.disk → KeepsWritesShort (g.D.Disk.state_at l.fn.disk) (g.D.Disk.state_at l.disk) (g.D.Disk.clock l.fn.disk) (g.D.Disk.clock l.disk);
      failures : g.D.Disk.failures l.disk ≡ g.D.Disk.failures l.fn.disk;
      faithful : g.D.Disk.faithful l.disk → g.D.Disk.faithful l.fn.disk;
    }

abbrev pub decreases-chunks : goal.decreases-chunks
decreases-chunks g l = length l.initial.bytes - l.at
