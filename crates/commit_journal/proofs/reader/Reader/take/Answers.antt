use Rattle.std.proofs.Common.{◌++◌, inl, inr, ⊎_elim, ℕ, List, sym, subst}
use Rattle.commit_journal.specs.Numbered.{NumberedChange}
use Rattle.commit_journal.specs.Scans.{DecodeFirst}
use Rattle.commit_journal.specs.Reading.{FromBytes, FromReader, IsReading, reading_at, read_by, encodings_for, taken_by}
use Rattle.commit_journal.specs.declared.reader.NextField.{NextField}
use Rattle.commit_journal.specs.declared.reader.NextField.TheVariants.{Head, Size, Encoding}
use Rattle.commit_journal.proofs.Fails.{answer_from, own_fails}
use Rattle.commit_journal.proofs.Firsts.{first_of_reader}
use Rattle.commit_journal.proofs.reader.Reader.take.Goals as goal

pub returns-in-Encoding-clause-refused : goal.returns-in-Encoding-clause-refused
returns-in-Encoding-clause-refused g c =
    let r = c.args.self.now in
    answer_from c.sized_element.result _ (FromBytes r (Encoding c.in-Encoding.partial_body c.in-Encoding.len) c.args.bytes.now) (FromReader r c.args.bytes.now c.args.left) (taken_by c.sized_element.new.self)
    (λ P said header file behind left here. said header file behind (subst (λ (n : NextField). reading_at (encodings_for header r) file r.on_device (read_by r) n (c.args.bytes.now ++ behind)) c.in-Encoding.is here)) c.sized_element.ensures.refused

pub returns-in-Size-clause-refused : goal.returns-in-Size-clause-refused
returns-in-Size-clause-refused g c =
    let r = c.args.self.now in
    answer_from c.size.result _ (FromBytes r (Size c.in-Size.partial_body) c.args.bytes.now) (FromReader r c.args.bytes.now c.args.left) (taken_by c.size.new.self)
    (λ P said header file behind left here. said header file behind (subst (λ (n : NextField). reading_at (encodings_for header r) file r.on_device (read_by r) n (c.args.bytes.now ++ behind)) c.in-Size.is here)) c.size.ensures.refused

pub returns-in-Err-clause-refused : goal.returns-in-Err-clause-refused
returns-in-Err-clause-refused g c =
    let r = c.args.self.now in
    let bytes = c.args.bytes.now in
    let at : (header file behind : List ℕ) → IsReading header file r (bytes ++ behind) → reading_at (encodings_for header r) file r.on_device (read_by r) Head (bytes ++ behind)
    = λ header file behind here. subst (λ (n : NextField). reading_at (encodings_for header r) file r.on_device (read_by r) n (bytes ++ behind)) c.in-Head.is here in
    own_fails _ (FromReader r bytes c.args.left) (taken_by c.head.new.self) c.in-Err.why
    (λ header file behind left here. subst (λ (l : List NumberedChange). DecodeFirst l (encodings_for header r) file) (sym c.head.ensures.same) (first_of_reader header file (bytes ++ behind) r c.requires.keeps c.requires.tied here))
    (⊎_elim (λ damaged. inl (damaged.0, λ header file behind left here. damaged.1 header file behind left (at header file behind here))) (λ none. inr none) c.in-Err.ensures.refused)
