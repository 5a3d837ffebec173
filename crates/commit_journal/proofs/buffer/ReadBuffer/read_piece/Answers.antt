use Rattle.std.proofs.Common.{arith}
use Rattle.commit_journal.specs.ReadBuffers.{journal_bytes_at}
use Rattle.commit_journal.proofs.Pieces.{piece_on}
use Rattle.commit_journal.proofs.buffer.ReadBuffer.read_piece.Goals as goal

pub returns-clause-rest : goal.returns-clause-rest
returns-clause-rest g c = λ faithful end_is.
    let w = c.args.self.now in
    let file = journal_bytes_at (g.D.Disk.state_at c.args.disk.now) (g.D.Disk.clock c.args.disk.now) in
    piece_on file w.bytes.items c.read_behind.new.place.items w.start w.end w.at c.in_ok-came.came c.min-count.result w.taken (omega (arith, w.filled, w.place)) c.in_ok-came.ensures.front (c.in_ok-came.ensures.read faithful) (omega (arith, c.min-count.ensures))
