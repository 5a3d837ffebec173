use Rattle.std.proofs.Common.{ap, arith}
use Rattle.crash_model.specs.Promises.{Content, top}
use Rattle.change_codec.specs.ModelChanges.{TimedOp}
use Rattle.commit_journal.proofs.Keepings.{none_logged}
use Rattle.commit_journal.proofs.reader.Reader.new.Goals as goal

pub returns-clause-keeps : goal.returns-clause-keeps
returns-clause-keeps c =
    let elements = ap (λ (s : Content TimedOp). s.elements) c.nothing.ensures.decodes in
    let last = ap (top 0) c.nothing.ensures.decodes in
    record { are = none_logged c.nothing.result.ghost_log elements; ghost_log = elements; fit = tt; last = omega (arith, c.nothing.result.kept.last_is, last) }
