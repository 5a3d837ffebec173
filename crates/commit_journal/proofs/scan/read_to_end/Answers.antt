use Rattle.std.proofs.Common.{rules, ◌≡◌, ◌∙◌, ◌+◌, ◌++◌, ◌∷◌, [], ◌<◌, inl, inr, ⊎_elim, List, ℕ, length, length-drop, drop, sym, ap, subst, arith, None}
use Rattle.disk_model.proofs.Unwritten.{no_change}
use Rattle.disk_model.specs.FileState.{FileState}
use Rattle.change_codec.specs.ModelChanges.{TimedOp}
use Rattle.commit_journal.specs.Encoding.{Encodings, decoded}
use Rattle.commit_journal.specs.Store.{encodings_after}
use Rattle.commit_journal.specs.Reading.{FromBuffer, FromReader, IsReading, taken_by}
use Rattle.commit_journal.specs.ReadBuffers.{held, journal_bytes_at, rest_of}
use Rattle.commit_journal.specs.Scans.{DecodeFirst}
use Rattle.commit_journal.proofs.Firsts.{first_of_reader}
use Rattle.commit_journal.proofs.Pieces.{fails_on, fails_of}
use Rattle.commit_journal.proofs.scan.read_to_end.Goals as goal

pub returns-in-Err-clause-fails : goal.returns-in-Err-clause-fails
returns-in-Err-clause-fails g c =
    let file = journal_bytes_at (g.D.Disk.state_at c.args.disk.now) (g.D.Disk.clock c.args.disk.now) in
    let inv = c.reading.invariant in
    let w = c.reading.buffer in
    let same : journal_bytes_at (g.D.Disk.state_at c.reading.disk) (g.D.Disk.clock c.reading.disk) ≡ file = ap (λ (s : FileState). s.seen) (no_change inv.no_change 0) in
    record {
      begins = λ faithful end header here.
          subst (λ (h : ℕ). DecodeFirst (taken_by c.reading.reader) (encodings_after header h) file) inv.hives
          (first_of_reader header file (rest_of file w) c.reading.reader inv.keeps inv.tied (inv.reads (c.in-Err.ensures.faithful faithful) end header here));
      reason = inl (fails_on _ _ _ _ c.in-Err.why (λ f. omega (arith, f, inv.failures)) (λ short faithful end header here.
          let at : IsReading header file c.reading.reader (rest_of file w) = inv.reads (c.in-Err.ensures.faithful faithful) end header here in
          let few : length (rest_of file w) < c.wants.result
          = subst (λ (l : List ℕ). length (rest_of l w) < c.wants.result) same (short faithful (inv.end ∙ end ∙ ap (λ (l : List ℕ). length l) (sym same))) in
          ap (λ (h : ℕ). decoded (encodings_after header h) file) (sym inv.hives) ∙ c.wants.ensures.short header file (rest_of file w) at few) c.in-Err.ensures.fails);
    }

pub returns-in-Err-take-clause-fails : goal.returns-in-Err-take-clause-fails
returns-in-Err-take-clause-fails g c =
    let file = journal_bytes_at (g.D.Disk.state_at c.args.disk.now) (g.D.Disk.clock c.args.disk.now) in
    let inv = c.reading.invariant in
    let w = c.fill.new.self in
    let same : journal_bytes_at (g.D.Disk.state_at c.reading.disk) (g.D.Disk.clock c.reading.disk) ≡ file = ap (λ (s : FileState). s.seen) (no_change inv.no_change 0) in
    let to : (P : Encodings TimedOp → List ℕ → Type 0) → FromReader c.reading.reader c.bytes.result.now c.left.result P → FromBuffer (g.D.Disk.faithful c.fill.new.disk) file c.args.buffer.now c.args.reader.now P
    = λ P said faithful end header here.
    let at : IsReading header file c.reading.reader (rest_of file c.reading.buffer) = inv.reads (c.in-Ok.ensures.faithful faithful) end header here in
    let filled : rest_of file w ≡ rest_of file c.reading.buffer
    = subst (λ (l : List ℕ). rest_of l w ≡ rest_of l c.reading.buffer) same (c.in-Ok.ensures.rest faithful (inv.end ∙ end ∙ ap (λ (l : List ℕ). length l) (sym same))) in
    let now : IsReading header file c.reading.reader (rest_of file w) = subst (λ (l : List ℕ). IsReading header file c.reading.reader l) (sym filled) at in
    let left : c.left.result ≡ length c.bytes.result.now + length (drop w.at file)
    = omega (arith, c.left.ensures, ap (λ (l : List ℕ). length l) c.bytes.ensures, length-drop w.at file, c.in-Ok.ensures.end, inv.end, end) in
    subst (λ (h : ℕ). P (encodings_after header h) file) inv.hives
    (said header file (drop w.at file) left (subst (λ (l : List ℕ). IsReading header file c.reading.reader (l ++ drop w.at file)) (sym c.bytes.ensures) now)) in
    let own = c.in-Err-take.ensures.refused in
    record {
      begins = to (DecodeFirst (taken_by c.take.new.self)) own.begins;
      reason = ⊎_elim (λ damaged. inl (fails_of _ _ _ c.in-Err-take.why (λ none. to (λ t bytes. decoded t bytes ≡ None) none) damaged))
          (λ denied. inr (record { change = denied.change; denies = denied.denies; begins = to (DecodeFirst (taken_by c.take.new.self ++ denied.change ∷ [])) denied.begins })) own.reason;
    }

pub reading-preserved : goal.reading-preserved
reading-preserved g c =
    let file = journal_bytes_at (g.D.Disk.state_at c.args.disk.now) (g.D.Disk.clock c.args.disk.now) in
    let inv = c.reading.invariant in
    let w = c.fill.new.self in
    let skipped = c.skip.new.self in
    let is = c.take.new.self in
    let n = c.in-Ok-take.taken in
    let same : journal_bytes_at (g.D.Disk.state_at c.reading.disk) (g.D.Disk.clock c.reading.disk) ≡ file = ap (λ (s : FileState). s.seen) (no_change inv.no_change 0) in
    record {
      keeps = c.in-Ok-take.ensures.keeps;
      tied = c.in-Ok-take.ensures.tied;
      hives = c.in-Ok-take.ensures.hives ∙ inv.hives;
      end = c.skip.ensures.end ∙ c.in-Ok.ensures.end ∙ inv.end;
      takes = λ start taken. c.in-Ok-take.ensures.takes start (inv.takes start taken);
      reads = λ faithful end header here.
          let at : IsReading header file c.reading.reader (rest_of file c.reading.buffer) = inv.reads (c.in-Ok.ensures.faithful faithful) end header here in
          let filled : rest_of file w ≡ rest_of file c.reading.buffer
          = subst (λ (l : List ℕ). rest_of l w ≡ rest_of l c.reading.buffer) same (c.in-Ok.ensures.rest faithful (inv.end ∙ end ∙ ap (λ (l : List ℕ). length l) (sym same))) in
          let now : IsReading header file c.reading.reader (rest_of file w) = subst (λ (l : List ℕ). IsReading header file c.reading.reader l) (sym filled) at in
          let left : c.left.result ≡ length c.bytes.result.now + length (drop w.at file)
          = omega (arith, c.left.ensures, ap (λ (l : List ℕ). length l) c.bytes.ensures, length-drop w.at file, c.in-Ok.ensures.end, inv.end, end) in
          let on : IsReading header file is (drop n c.bytes.result.now ++ drop w.at file)
          = c.in-Ok-take.ensures.reads header file (drop w.at file) left (subst (λ (l : List ℕ). IsReading header file c.reading.reader (l ++ drop w.at file)) (sym c.bytes.ensures) now) in
          subst (λ (l : List ℕ). IsReading header file is l) (ap (λ (l : List ℕ). drop n l ++ drop w.at file) c.bytes.ensures ∙ ap (λ (l : List ℕ). l ++ drop w.at file) (sym c.skip.ensures.held) ∙ ap (λ (k : ℕ). held skipped ++ drop k file) (sym c.skip.ensures.at)) on;
      no_change = search rules;
      failures = omega (arith, inv.failures, c.in-Ok.ensures.failures);
      faithful = λ f. inv.faithful (c.in-Ok.ensures.faithful f);
    }
