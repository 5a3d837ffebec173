use Rattle.std.proofs.Common.{◌≡◌, ◌-◌, ◌≤◌, max, length}
use Rattle.disk_model.specs.ReadOnly.{OnlyReads}
use Rattle.commit_journal.specs.ReadBuffers.{journal_bytes_at, rest_of, left_of}
use Rattle.commit_journal.proofs.buffer.ReadBuffer.fill.Given as goal

abbrev pub invariant-pieces : goal.invariant-pieces
invariant-pieces g l =
    let file = journal_bytes_at (g.D.Disk.state_at l.fn.disk) (g.D.Disk.clock l.fn.disk) in
    record {
      start : l.self.start ≡ 0;
      end : l.self.end_of_file ≡ l.fn.self.end_of_file;
      limit : l.self.limit ≡ max 65536 l.wanted;
      left : left_of l.self ≡ left_of l.fn.self;
      rest : g.D.Disk.faithful l.disk → l.fn.self.end_of_file ≡ length file → rest_of file l.self ≡ rest_of file l.fn.self;
      no_change : OnlyReads (g.D.Disk.state_at l.fn.disk) (g.D.Disk.state_at l.disk) (g.D.Disk.clock l.fn.disk) (g.D.Disk.clock l.disk);
      failures : g.D.Disk.failures l.fn.disk ≤ g.D.Disk.failures l.disk;
      faithful : g.D.Disk.faithful l.disk → g.D.Disk.faithful l.fn.disk;
    }

abbrev pub decreases-pieces : goal.decreases-pieces
decreases-pieces g l = l.self.end_of_file - l.self.at
