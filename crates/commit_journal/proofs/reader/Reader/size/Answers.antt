use Rattle.std.proofs.Common.{◌≡◌, ◌++◌, inl, refl, arith, None}
use Rattle.refusals.specs.declared.refusal.Refusal.TheVariants.{JournalDamaged}
use Rattle.commit_journal.specs.Encoding.{decoded}
use Rattle.commit_journal.specs.Reading.{FromBytes, read_by, taken_by, encodings_for}
use Rattle.commit_journal.specs.declared.reader.NextField.TheVariants.{Size}
use Rattle.commit_journal.proofs.Fails.{none_first, own_fails}
use Rattle.commit_journal.proofs.Transitions.{number_front, size_none}
use Rattle.commit_journal.proofs.reader.Reader.size.Goals as goal
use Rattle.commit_journal.proofs.reader.Reader.size.Goals.{then-len-lt-LEAST_ELEMENT_BYTES-via-then-len-lt-LEAST_ELEMENT_BYTES, then-len-lt-LEAST_ELEMENT_BYTES-via-else-len-lt-LEAST_ELEMENT_BYTES+then-len-partial_body}

pub returns-then-len-lt-LEAST_ELEMENT_BYTES-clause-refused : goal.returns-then-len-lt-LEAST_ELEMENT_BYTES-clause-refused
returns-then-len-lt-LEAST_ELEMENT_BYTES-clause-refused g c =
    let r = c.args.self.now in
    let bytes = c.args.bytes.now in
    let none : FromBytes r (Size c.args.partial_body) bytes (λ t file. decoded t file ≡ None)
    = λ header file behind here.
    let n = number_front 0 4 bytes behind c.requires.there in
    let k = c.requires.keeps.1.1 in
    size_none header r.hives r.few file r.on_device (read_by r) c.args.partial_body (bytes ++ behind) here k.0 k.1 (λ low high. elim c.then-len-lt-LEAST_ELEMENT_BYTES.branch [
      | then-len-lt-LEAST_ELEMENT_BYTES-via-then-len-lt-LEAST_ELEMENT_BYTES w ↦ omega (arith, n, low, c.from-len.ensures, c.read_u32.ensures, w.if-len-lt-LEAST_ELEMENT_BYTES.true)
      | then-len-lt-LEAST_ELEMENT_BYTES-via-else-len-lt-LEAST_ELEMENT_BYTES+then-len-partial_body w ↦ omega (arith, n, high, c.from-len.ensures, c.read_u32.ensures, w.if-len-partial_body.true)
    ]) in
    own_fails _ (FromBytes r (Size c.args.partial_body) bytes) (taken_by r) JournalDamaged (λ header file behind here. none_first (taken_by r) (encodings_for header r) file (none header file behind here)) (inl (refl, none))
