use Rattle.std.proofs.Common.{arith}
use Rattle.commit_journal.proofs.Pieces.{part_length, part_on}
use Rattle.commit_journal.proofs.buffer.ReadBuffer.skip.Goals as goal

pub returns-clause-held : goal.returns-clause-held
returns-clause-held c =
    let w = c.args.self.now in
    part_on w.start w.end c.args.count w.bytes.items (omega (arith, c.requires, w.taken, part_length w.start w.end w.bytes.items w.taken (omega (arith, w.filled, w.place))))
