use Rattle.std.proofs.Common.{subst}
use Rattle.commit_journal.specs.Journals.{content_of}
use Rattle.commit_journal.specs.Reading.{reading_at, read_by, encodings_for}
use Rattle.commit_journal.specs.declared.reader.NextField.{NextField}
use Rattle.commit_journal.proofs.Parts.{short_gate, short_head}
use Rattle.commit_journal.proofs.reader.Reader.wants.Goals as goal

pub returns-in-Gate-clause-short : goal.returns-in-Gate-clause-short
returns-in-Gate-clause-short c = λ header file rest here few.
    let r = c.args.self.now in
    short_gate (encodings_for header r) file (content_of r.on_device) r.on_device.gate rest (subst (λ (n : NextField). reading_at (encodings_for header r) file r.on_device (read_by r) n rest) c.in-Gate.is here) few

pub returns-in-Head-clause-short : goal.returns-in-Head-clause-short
returns-in-Head-clause-short c = λ header file rest here few.
    let r = c.args.self.now in
    short_head (encodings_for header r) file (content_of r.on_device) r.on_device.gate rest (subst (λ (n : NextField). reading_at (encodings_for header r) file r.on_device (read_by r) n rest) c.in-Head.is here) few
