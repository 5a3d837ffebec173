use Rattle.std.proofs.Common.{◌≡◌, ◌∙◌, ◌<◌, ◌++◌, ◌∷◌, [], inl, inr, ⊎_elim, List, ℕ, length, take, sym, ap, subst, arith, Some, None}
use Rattle.crash_model.specs.Promises.{nothing}
use Rattle.disk_model.proofs.Unwritten.{no_change}
use Rattle.disk_model.specs.FileState.{FileState, at_rest}
use Rattle.change_codec.specs.ModelChanges.{TimedOp}
use Rattle.commit_journal.specs.Encoding.{Encodings, decoded}
use Rattle.commit_journal.specs.Numbered.{NumberedChange, numbered}
use Rattle.commit_journal.specs.Scans.{DecodeFirst}
use Rattle.commit_journal.specs.Store.{Store, IsStore, all_hives, header_bytes, encodings, encodings_after}
use Rattle.commit_journal.specs.OnDisk.{JournalView, is_on}
use Rattle.commit_journal.specs.Journals.{changes_of, choice_of, journal_view}
use Rattle.commit_journal.specs.Reading.{AtGate, FileDecodesTo, FromBuffer, IsReading, sound_at, numbers_agree_at, read_by, reading_at, encodings_for, taken_by}
use Rattle.commit_journal.specs.ReadBuffers.{journal_bytes_at, rest_of}
use Rattle.commit_journal.specs.declared.reader.NextField.{NextField}
use Rattle.commit_journal.proofs.Firsts.{all_numbered, none_first}
use Rattle.commit_journal.proofs.HeaderRead.{none_short, none_without, none_for, at_first, only_one}
use Rattle.commit_journal.proofs.Pieces.{fails_on, fails_of, front_there, behind_there}
use Rattle.commit_journal.proofs.scan.scan_at_rest.Goals as goal

pub returns-in-Err-clause-fails : goal.returns-in-Err-clause-fails
returns-in-Err-clause-fails g c =
    let file = journal_bytes_at (g.D.Disk.state_at c.args.disk.now) (g.D.Disk.clock c.args.disk.now) in
    let w = c.in-Ok-new.buffer in
    let same : journal_bytes_at (g.D.Disk.state_at c.len.new.disk) (g.D.Disk.clock c.len.new.disk) ≡ file = ap (λ (s : FileState). s.seen) (no_change c.in-Ok.ensures.no_change 0) in
    record {
      taken = [];
      took = g.met.S.ElementSink.took_none c.args.sink.now;
      begins = λ faithful store is. none_first (encodings store) file;
      reason = inl (fails_on _ _ _ _ c.in-Err.why (λ f. omega (arith, f, c.in-Ok.ensures.failures)) (λ short faithful.
          let end : w.end_of_file ≡ length file = c.in-Ok-new.ensures.end ∙ c.in-Ok.ensures.len (c.in-Err.ensures.faithful faithful) in
          let few : length (rest_of file w) < 64 = subst (λ (l : List ℕ). length (rest_of l w) < 64) same (short faithful (end ∙ ap (λ (l : List ℕ). length l) (sym same))) in
          none_short file (omega (arith, few, ap (λ (l : List ℕ). length l) (c.in-Ok-new.ensures.rest file)))) c.in-Err.ensures.fails);
    }

pub returns-in-Err-decode-clause-fails : goal.returns-in-Err-decode-clause-fails
returns-in-Err-decode-clause-fails g c =
    let file = journal_bytes_at (g.D.Disk.state_at c.args.disk.now) (g.D.Disk.clock c.args.disk.now) in
    let w = c.fill.new.self in
    let same : journal_bytes_at (g.D.Disk.state_at c.len.new.disk) (g.D.Disk.clock c.len.new.disk) ≡ file = ap (λ (s : FileState). s.seen) (no_change c.in-Ok.ensures.no_change 0) in
    record {
      taken = [];
      took = g.met.S.ElementSink.took_none c.args.sink.now;
      begins = λ faithful store is. none_first (encodings store) file;
      reason = inl (fails_of _ _ _ c.in-Err-decode.why (λ none faithful.
          let end : c.in-Ok-new.buffer.end_of_file ≡ length file = c.in-Ok-new.ensures.end ∙ c.in-Ok.ensures.len (c.in-Ok-fill.ensures.faithful faithful) in
          let rest : rest_of file w ≡ file
          = subst (λ (l : List ℕ). rest_of l w ≡ rest_of l c.in-Ok-new.buffer) same (c.in-Ok-fill.ensures.rest faithful (end ∙ ap (λ (l : List ℕ). length l) (sym same))) ∙ c.in-Ok-new.ensures.rest file in
          none_without file (λ store is begin_batch. none store is (ap (take 64) c.bytes.ensures ∙ front_there file w rest c.in-Ok-fill.ensures.there ∙ begin_batch))) c.in-Err-decode.ensures);
    }

pub returns-in-Err-read_to_end-clause-fails : goal.returns-in-Err-read_to_end-clause-fails
returns-in-Err-read_to_end-clause-fails g c =
    let file = journal_bytes_at (g.D.Disk.state_at c.args.disk.now) (g.D.Disk.clock c.args.disk.now) in
    let w = c.fill.new.self in
    let skipped = c.skip.new.self in
    let reader = c.new-reader.result in
    let own = c.in-Err-read_to_end.ensures.fails in
    let taken = taken_by c.read_to_end.new.reader in
    let got = c.in-Ok-decode.store in
    let store : Store = record { id = got.id; hives = got.hives; layout = got.layout } in
    let hives_are : reader.hives ≡ all_hives store = c.new-reader.ensures.hives ∙ c.all_hives.ensures in
    let same : journal_bytes_at (g.D.Disk.state_at c.len.new.disk) (g.D.Disk.clock c.len.new.disk) ≡ file = ap (λ (s : FileState). s.seen) (no_change c.in-Ok.ensures.no_change 0) in
    let later : journal_bytes_at (g.D.Disk.state_at c.fill.new.disk) (g.D.Disk.clock c.fill.new.disk) ≡ file = ap (λ (s : FileState). s.seen) (no_change c.in-Ok-fill.ensures.no_change 0) ∙ same in
    let header : g.D.Disk.faithful c.read_to_end.new.disk → take 64 file ≡ take 64 c.bytes.result.now
    = λ faithful.
    let filled = c.in-Err-read_to_end.ensures.faithful faithful in
    let end : c.in-Ok-new.buffer.end_of_file ≡ length file = c.in-Ok-new.ensures.end ∙ c.in-Ok.ensures.len (c.in-Ok-fill.ensures.faithful filled) in
    let rest : rest_of file w ≡ file
    = subst (λ (l : List ℕ). rest_of l w ≡ rest_of l c.in-Ok-new.buffer) same (c.in-Ok-fill.ensures.rest filled (end ∙ ap (λ (l : List ℕ). length l) (sym same))) ∙ c.in-Ok-new.ensures.rest file in
    sym (front_there file w rest c.in-Ok-fill.ensures.there) ∙ ap (take 64) (sym c.bytes.ensures) in
    let to : (P : Encodings TimedOp → List ℕ → Type 0) → FromBuffer (g.D.Disk.faithful c.read_to_end.new.disk) (journal_bytes_at (g.D.Disk.state_at c.fill.new.disk) (g.D.Disk.clock c.fill.new.disk)) skipped reader P → g.D.Disk.faithful c.read_to_end.new.disk → P (encodings store) file
    = λ P said faithful.
    let filled = c.in-Err-read_to_end.ensures.faithful faithful in
    let end : c.in-Ok-new.buffer.end_of_file ≡ length file = c.in-Ok-new.ensures.end ∙ c.in-Ok.ensures.len (c.in-Ok-fill.ensures.faithful filled) in
    let rest : rest_of file w ≡ file
    = subst (λ (l : List ℕ). rest_of l w ≡ rest_of l c.in-Ok-new.buffer) same (c.in-Ok-fill.ensures.rest filled (end ∙ ap (λ (l : List ℕ). length l) (sym same))) ∙ c.in-Ok-new.ensures.rest file in
    let begin_batch = header faithful ∙ c.in-Ok-decode.ensures.1 in
    let behind = behind_there file w skipped rest c.in-Ok-fill.ensures.there c.skip.ensures.held c.skip.ensures.at in
    let gate : AtGate (encodings store) file nothing 64 (rest_of file skipped)
    = subst (λ (l : List ℕ). AtGate (encodings store) file nothing 64 l) (sym behind) (at_first file store c.in-Ok-decode.ensures.0 begin_batch) in
    let here : IsReading (header_bytes store) file reader (rest_of file skipped) = c.new-reader.ensures.begins (header_bytes store) file (rest_of file skipped) (subst (λ (h : ℕ). AtGate (encodings_after (header_bytes store) h) file nothing 64 (rest_of file skipped)) (sym c.all_hives.ensures) gate) in
    subst (λ (h : ℕ). P (encodings_after (header_bytes store) h) file) hives_are
    (subst (λ (l : List ℕ). FromBuffer (g.D.Disk.faithful c.read_to_end.new.disk) l skipped reader P) later said faithful (c.skip.ensures.end ∙ c.in-Ok-fill.ensures.end ∙ end) (header_bytes store) here) in
    let of_any : (l : List NumberedChange) → FromBuffer (g.D.Disk.faithful c.read_to_end.new.disk) (journal_bytes_at (g.D.Disk.state_at c.fill.new.disk) (g.D.Disk.clock c.fill.new.disk)) skipped reader (DecodeFirst l) → g.D.Disk.faithful c.read_to_end.new.disk → (any : Store) → IsStore any → DecodeFirst l (encodings any) file
    = λ l said faithful any is s decodes.
    let one : any ≡ store = only_one file any store s is c.in-Ok-decode.ensures.0 decodes (header faithful ∙ c.in-Ok-decode.ensures.1) in
    to (DecodeFirst l) said faithful s (ap (λ (x : Store). decoded (encodings x) file) (sym one) ∙ decodes) in
    record {
      taken = taken;
      took = c.in-Err-read_to_end.ensures.takes c.args.sink.now (subst (λ (l : List NumberedChange). g.S.ElementSink.Took c.args.sink.now c.args.sink.now l) (sym c.new-reader.ensures.none) (g.met.S.ElementSink.took_none c.args.sink.now));
      begins = of_any taken own.begins;
      reason = ⊎_elim
          (λ mine. inl (fails_on _ _ _ _ c.in-Err-read_to_end.why (λ f. omega (arith, f, c.in-Ok-fill.ensures.failures, c.in-Ok.ensures.failures))
          (λ none faithful. none_for file store c.in-Ok-decode.ensures.0 (header faithful ∙ c.in-Ok-decode.ensures.1) (to (λ t bytes. decoded t bytes ≡ None) none faithful)) mine))
          (λ denied. inr (record { change = denied.change; denies = denied.denies; begins = of_any (taken ++ denied.change ∷ []) denied.begins })) own.reason;
    }

pub returns-clause-decodes : goal.returns-clause-decodes
returns-clause-decodes g c = λ faithful.
    let file = journal_bytes_at (g.D.Disk.state_at c.args.disk.now) (g.D.Disk.clock c.args.disk.now) in
    let w = c.fill.new.self in
    let skipped = c.skip.new.self in
    let reader = c.new-reader.result in
    let read = c.read_to_end.new.reader in
    let got = c.in-Ok-decode.store in
    let store : Store = record { id = got.id; hives = got.hives; layout = got.layout } in
    let hives_are : reader.hives ≡ all_hives store = c.new-reader.ensures.hives ∙ c.all_hives.ensures in
    let same : journal_bytes_at (g.D.Disk.state_at c.len.new.disk) (g.D.Disk.clock c.len.new.disk) ≡ file = ap (λ (s : FileState). s.seen) (no_change c.in-Ok.ensures.no_change 0) in
    let later : journal_bytes_at (g.D.Disk.state_at c.fill.new.disk) (g.D.Disk.clock c.fill.new.disk) ≡ file = ap (λ (s : FileState). s.seen) (no_change c.in-Ok-fill.ensures.no_change 0) ∙ same in
    let filled = c.in-Ok-read_to_end.ensures.faithful faithful in
    let end : c.in-Ok-new.buffer.end_of_file ≡ length file = c.in-Ok-new.ensures.end ∙ c.in-Ok.ensures.len (c.in-Ok-fill.ensures.faithful filled) in
    let rest : rest_of file w ≡ file
    = subst (λ (l : List ℕ). rest_of l w ≡ rest_of l c.in-Ok-new.buffer) same (c.in-Ok-fill.ensures.rest filled (end ∙ ap (λ (l : List ℕ). length l) (sym same))) ∙ c.in-Ok-new.ensures.rest file in
    let begin_batch = sym (front_there file w rest c.in-Ok-fill.ensures.there) ∙ ap (take 64) (sym c.bytes.ensures) ∙ c.in-Ok-decode.ensures.1 in
    let behind = behind_there file w skipped rest c.in-Ok-fill.ensures.there c.skip.ensures.held c.skip.ensures.at in
    let gate : AtGate (encodings store) file nothing 64 (rest_of file skipped)
    = subst (λ (l : List ℕ). AtGate (encodings store) file nothing 64 l) (sym behind) (at_first file store c.in-Ok-decode.ensures.0 begin_batch) in
    let here : IsReading (header_bytes store) file reader (rest_of file skipped) = c.new-reader.ensures.begins (header_bytes store) file (rest_of file skipped) (subst (λ (h : ℕ). AtGate (encodings_after (header_bytes store) h) file nothing 64 (rest_of file skipped)) (sym c.all_hives.ensures) gate) in
    let all : skipped.end_of_file ≡ length file → (header : List ℕ) → IsReading header file reader (rest_of file skipped) → IsReading header file read (rest_of file c.read_to_end.new.buffer)
    = subst (λ (l : List ℕ). skipped.end_of_file ≡ length l → (header : List ℕ) → IsReading header l reader (rest_of l skipped) → IsReading header l read (rest_of l c.read_to_end.new.buffer)) later (c.in-Ok-read_to_end.ensures.reads faithful) in
    let found : FileDecodesTo (encodings_for (header_bytes store) read) file read.on_device
    = subst (λ (n : NextField). reading_at (encodings_for (header_bytes store) read) file read.on_device (read_by read) n (rest_of file c.read_to_end.new.buffer)) c.in-Ok-read_to_end.ensures.done (all (c.skip.ensures.end ∙ c.in-Ok-fill.ensures.end ∙ end) (header_bytes store) here) in
    let encodings_are = ap (encodings_after (header_bytes store)) (c.in-Ok-read_to_end.ensures.hives ∙ hives_are) in
    let made = ap encodings c.found.ensures.store ∙ sym encodings_are in
    ap (λ (t : Encodings TimedOp). decoded t file) made ∙ found.decodes ∙ sym (ap (λ (v : JournalView TimedOp). Some v.choice.now) c.found.ensures.value)

pub returns-clause-on : goal.returns-clause-on
returns-clause-on g c = λ faithful.
    let file = journal_bytes_at (g.D.Disk.state_at c.args.disk.now) (g.D.Disk.clock c.args.disk.now) in
    let w = c.fill.new.self in
    let skipped = c.skip.new.self in
    let reader = c.new-reader.result in
    let read = c.read_to_end.new.reader in
    let got = c.in-Ok-decode.store in
    let store : Store = record { id = got.id; hives = got.hives; layout = got.layout } in
    let hives_are : reader.hives ≡ all_hives store = c.new-reader.ensures.hives ∙ c.all_hives.ensures in
    let same : journal_bytes_at (g.D.Disk.state_at c.len.new.disk) (g.D.Disk.clock c.len.new.disk) ≡ file = ap (λ (s : FileState). s.seen) (no_change c.in-Ok.ensures.no_change 0) in
    let later : journal_bytes_at (g.D.Disk.state_at c.fill.new.disk) (g.D.Disk.clock c.fill.new.disk) ≡ file = ap (λ (s : FileState). s.seen) (no_change c.in-Ok-fill.ensures.no_change 0) ∙ same in
    let filled = c.in-Ok-read_to_end.ensures.faithful faithful in
    let end : c.in-Ok-new.buffer.end_of_file ≡ length file = c.in-Ok-new.ensures.end ∙ c.in-Ok.ensures.len (c.in-Ok-fill.ensures.faithful filled) in
    let rest : rest_of file w ≡ file
    = subst (λ (l : List ℕ). rest_of l w ≡ rest_of l c.in-Ok-new.buffer) same (c.in-Ok-fill.ensures.rest filled (end ∙ ap (λ (l : List ℕ). length l) (sym same))) ∙ c.in-Ok-new.ensures.rest file in
    let begin_batch = sym (front_there file w rest c.in-Ok-fill.ensures.there) ∙ ap (take 64) (sym c.bytes.ensures) ∙ c.in-Ok-decode.ensures.1 in
    let behind = behind_there file w skipped rest c.in-Ok-fill.ensures.there c.skip.ensures.held c.skip.ensures.at in
    let gate : AtGate (encodings store) file nothing 64 (rest_of file skipped)
    = subst (λ (l : List ℕ). AtGate (encodings store) file nothing 64 l) (sym behind) (at_first file store c.in-Ok-decode.ensures.0 begin_batch) in
    let here : IsReading (header_bytes store) file reader (rest_of file skipped) = c.new-reader.ensures.begins (header_bytes store) file (rest_of file skipped) (subst (λ (h : ℕ). AtGate (encodings_after (header_bytes store) h) file nothing 64 (rest_of file skipped)) (sym c.all_hives.ensures) gate) in
    let all : skipped.end_of_file ≡ length file → (header : List ℕ) → IsReading header file reader (rest_of file skipped) → IsReading header file read (rest_of file c.read_to_end.new.buffer)
    = subst (λ (l : List ℕ). skipped.end_of_file ≡ length l → (header : List ℕ) → IsReading header l reader (rest_of l skipped) → IsReading header l read (rest_of l c.read_to_end.new.buffer)) later (c.in-Ok-read_to_end.ensures.reads faithful) in
    let found : FileDecodesTo (encodings_for (header_bytes store) read) file read.on_device
    = subst (λ (n : NextField). reading_at (encodings_for (header_bytes store) read) file read.on_device (read_by read) n (rest_of file c.read_to_end.new.buffer)) c.in-Ok-read_to_end.ensures.done (all (c.skip.ensures.end ∙ c.in-Ok-fill.ensures.end ∙ end) (header_bytes store) here) in
    let encodings_are = ap (encodings_after (header_bytes store)) (c.in-Ok-read_to_end.ensures.hives ∙ hives_are) in
    let made = ap encodings c.found.ensures.store ∙ sym encodings_are in
    subst (λ (t : Encodings TimedOp). is_on t (journal_view c.found.result) (at_rest file)) (sym made)
    (subst (λ (v : JournalView TimedOp). is_on (encodings_for (header_bytes store) read) v (at_rest file)) (sym c.found.ensures.value) found.on)

pub returns-clause-took : goal.returns-clause-took
returns-clause-took g c =
    let read = c.read_to_end.new.reader in
    let es = read_by read in
    let keeps = subst (λ (n : NextField). sound_at read.hives read.on_device es n) c.in-Ok-read_to_end.ensures.done c.in-Ok-read_to_end.ensures.keeps in
    let tied = subst (λ (n : NextField). numbers_agree_at read.last read.on_device es n) c.in-Ok-read_to_end.ensures.done c.in-Ok-read_to_end.ensures.tied in
    let are : changes_of c.found.result ≡ es = c.found.ensures.changes ∙ keeps.are in
    let below = ap (λ (v : JournalView TimedOp). v.choice.now.below) c.found.ensures.value in
    let all : taken_by read ≡ numbered (choice_of c.found.result).now.below (changes_of c.found.result)
    = all_numbered read.hives read.on_device es read.last keeps tied ∙ ap (λ n. numbered n es) (sym below) ∙ ap (numbered (choice_of c.found.result).now.below) (sym are) in
    subst (λ (l : List NumberedChange). g.S.ElementSink.Took c.args.sink.now c.read_to_end.new.sink l) all
    (c.in-Ok-read_to_end.ensures.takes c.args.sink.now (subst (λ (l : List NumberedChange). g.S.ElementSink.Took c.args.sink.now c.args.sink.now l) (sym c.new-reader.ensures.none) (g.met.S.ElementSink.took_none c.args.sink.now)))
