use Rattle.std.proofs.Common.{◌≡◌, ◌+◌, ◌*◌, ◌≤◌, List, ℕ, length}
use Rattle.disk_model.specs.ReadOnly.{OnlyReads}
use Rattle.commit_journal.specs.Reading.{ReaderIsSound, NumbersAgree, TakesOn, IsReading, waits}
use Rattle.commit_journal.specs.ReadBuffers.{journal_bytes_at, rest_of, left_of}
use Rattle.commit_journal.proofs.scan.read_to_end.Given as goal

abbrev pub invariant-reading : goal.invariant-reading
invariant-reading g l =
    let file = journal_bytes_at (g.D.Disk.state_at l.fn.disk) (g.D.Disk.clock l.fn.disk) in
    record {
      keeps : ReaderIsSound l.reader;
      tied : NumbersAgree l.reader;
      takes : TakesOn g.S.ElementSink.Took l.fn.sink l.sink l.fn.reader l.reader;
      hives : l.reader.hives ≡ l.fn.reader.hives;
      end : l.buffer.end_of_file ≡ l.fn.buffer.end_of_file;
      reads : g.D.Disk.faithful l.disk → l.fn.buffer.end_of_file ≡ length file → (header : List ℕ) → IsReading header file l.fn.reader (rest_of file l.fn.buffer) → IsReading header file l.reader (rest_of file l.buffer);
      no_change : OnlyReads (g.D.Disk.state_at l.fn.disk) (g.D.Disk.state_at l.disk) (g.D.Disk.clock l.fn.disk) (g.D.Disk.clock l.disk);
      failures : g.D.Disk.failures l.fn.disk ≤ g.D.Disk.failures l.disk;
      faithful : g.D.Disk.faithful l.disk → g.D.Disk.faithful l.fn.disk;
    }

abbrev pub decreases-reading : goal.decreases-reading
decreases-reading g l = 2 * left_of l.buffer + waits l.reader.next
