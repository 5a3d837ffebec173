use Rattle.std.proofs.Common.{◌∙◌, ◌++◌, ◌-◌, take, drop, ℕ, List, inl, inr, ⊎_elim, length, length-drop, sym, ap, subst, arith}
use Rattle.commit_journal.specs.Encoding.{decoded}
use Rattle.commit_journal.specs.Store.{encodings_after}
use Rattle.commit_journal.specs.Reading.{in_partial_body, read_by, encodings_for}
use Rattle.commit_journal.specs.Numbered.{NumberedChange}
use Rattle.commit_journal.specs.Reading.{FromBytes, taken_by}
use Rattle.commit_journal.specs.Scans.{DecodeFirst}
use Rattle.commit_journal.specs.declared.reader.NextField.TheVariants.{Size}
use Rattle.commit_journal.proofs.Fails.{fails_from, own_fails}
use Rattle.commit_journal.proofs.Firsts.{first_partial}
use Rattle.commit_journal.proofs.Transitions.{rest_is, rest_on}
use Rattle.commit_journal.proofs.reader.Reader.encodings.Goals as goal

pub elements-preserved : goal.elements-preserved
elements-preserved g c =
    let was = c.elements.self in
    let is = c.encoding-in-Some.new.self in
    let inv = c.elements.invariant in
    let taken = c.elements.taken in
    let bytes = c.args.bytes.now in
    let now = c.in-Ok.ensures in
    record {
      elements = now.elements;
      partial_body = now.partial_body;
      tied = now.tied;
      hives = now.hives ∙ inv.hives;
      takes = λ start taken. now.takes start (inv.takes start taken);
      some = omega (arith, inv.some);
      within = omega (arith, c.in-Some.ensures.1.0, ap (λ (l : List ℕ). length l) (rest_is taken bytes), length-drop taken bytes, inv.within);
      reads = λ header file behind here.
          subst (λ (l : List ℕ). in_partial_body (encodings_for header is) file is.on_device (read_by is) c.encoding-in-Some.new.partial_body (l ++ behind)) (rest_on taken c.in-Some.more bytes)
          (now.reads header file behind (subst (λ (l : List ℕ). in_partial_body (encodings_for header was) file was.on_device (read_by was) c.elements.partial_body (l ++ behind)) (sym (rest_is taken bytes)) (inv.reads header file behind here)));
    }

pub returns-in-Err-clause-refused : goal.returns-in-Err-clause-refused
returns-in-Err-clause-refused g c =
    let was = c.elements.self in
    let inv = c.elements.invariant in
    let rest = take (length c.args.bytes.now - c.elements.taken) (drop c.elements.taken c.args.bytes.now) in
    fails_from _ (FromBytes was (Size c.elements.partial_body) rest) (FromBytes c.args.self.now (Size c.args.partial_body) c.args.bytes.now) (taken_by c.encoding-in-Some.new.self) c.in-Err.why
    (λ P said header file behind here.
    subst (λ (h : ℕ). P (encodings_after header h) file) inv.hives
    (said header file behind (subst (λ (l : List ℕ). in_partial_body (encodings_for header was) file was.on_device (read_by was) c.elements.partial_body (l ++ behind)) (sym (rest_is c.elements.taken c.args.bytes.now)) (inv.reads header file behind here)))) c.in-Err.ensures.refused

pub returns-in-Err-partial_body-clause-refused : goal.returns-in-Err-partial_body-clause-refused
returns-in-Err-partial_body-clause-refused g c =
    let was = c.elements.self in
    let inv = c.elements.invariant in
    let From = FromBytes c.args.self.now (Size c.args.partial_body) c.args.bytes.now in
    own_fails _ (FromBytes c.args.self.now (Size c.args.partial_body) c.args.bytes.now) (taken_by c.partial_body.new.self) c.in-Err-partial_body.why
    (λ header file behind here.
    subst (λ (l : List NumberedChange). DecodeFirst l (encodings_for header c.args.self.now) file) (sym c.partial_body.ensures.same)
    (subst (λ (h : ℕ). DecodeFirst (taken_by was) (encodings_after header h) file) inv.hives
    (first_partial header was.hives file was.on_device (read_by was) c.elements.partial_body _ was.last inv.elements inv.partial_body inv.tied (inv.reads header file behind here))))
    (⊎_elim (λ damaged. inl (
      damaged.0,
      λ header file behind here.
          ap (λ (h : ℕ). decoded (encodings_after header h) file) (sym inv.hives)
          ∙ damaged.1 header file _ (inv.reads header file behind here),
    )) (λ none. inr none) c.in-Err-partial_body.ensures.refused)
