use Rattle.commit_journal.specs.Reading.{FromBytes, taken_by}
use Rattle.commit_journal.specs.declared.reader.NextField.TheVariants.{Size, Encoding}
use Rattle.commit_journal.proofs.Fails.{answer_from}
use Rattle.commit_journal.proofs.reader.Reader.sized_element.Goals as goal

pub returns-clause-refused : goal.returns-clause-refused
returns-clause-refused g c =
    let r = c.args.self.now in
    answer_from c.encodings.result _ (FromBytes r (Size c.args.partial_body) c.args.bytes.now) (FromBytes r (Encoding c.args.partial_body c.args.len) c.args.bytes.now) (taken_by c.encodings.new.self)
    (λ P said header file behind here. said header file behind here.0) c.encodings.ensures.refused
