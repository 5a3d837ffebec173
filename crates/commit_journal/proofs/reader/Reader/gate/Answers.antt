use Rattle.std.proofs.Common.{◌++◌, drop, get_or, sym, subst}
use Rattle.commit_journal.specs.Reading.{reading_at, read_by, encodings_for}
use Rattle.commit_journal.specs.declared.reader.NextField.{NextField}
use Rattle.commit_journal.proofs.Transitions.{gate_front, gate_shut, gate_open}
use Rattle.commit_journal.proofs.reader.Reader.gate.Goals as goal
use Rattle.commit_journal.proofs.reader.Reader.gate.Goals.{then-bytes, else-bytes}

pub returns-clause-reads : goal.returns-clause-reads
returns-clause-reads c = λ header file behind here.
    let r = c.args.self.now in
    let bytes = c.args.bytes.now in
    let prefix = gate_front bytes c.requires.there in
    elim c.if-bytes.branch [
      | then-bytes w ↦ subst (λ (n : NextField). reading_at (encodings_for header r) file r.on_device (read_by r) n (drop 1 bytes ++ behind)) (sym w.self-is)
          (gate_open header r.hives r.few file r.on_device bytes behind (get_or bytes 0 0) (drop 1 bytes) prefix w.if-bytes.true here)
      | else-bytes w ↦ subst (λ (n : NextField). reading_at (encodings_for header r) file r.on_device (read_by r) n (drop 1 bytes ++ behind)) (sym w.self-is)
          (gate_shut header r.hives r.few file r.on_device bytes behind (get_or bytes 0 0) (drop 1 bytes) prefix w.if-bytes.false here)
    ]
