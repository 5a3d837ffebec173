use Rattle.std.proofs.Common.{◌-◌, ◌+◌, ◌++◌, inl, inr, ⊎_elim, List, refl, subst, sym}
use Rattle.std.proofs.lemmas.List.{append-nil}
use Rattle.commit_journal.specs.Numbered.{NumberedChange}
use Rattle.commit_journal.specs.Reading.{FromBytes, encodings_for, read_by, taken_by}
use Rattle.commit_journal.specs.Scans.{DecodeFirst}
use Rattle.commit_journal.specs.GhostLog.{logged_changes}
use Rattle.commit_journal.specs.declared.reader.NextField.TheVariants.{Size}
use Rattle.commit_journal.proofs.ElementsRead.{element_fits, read_front}
use Rattle.commit_journal.proofs.Fails.{own_fails}
use Rattle.commit_journal.proofs.Firsts.{first_partial, one_more}
use Rattle.commit_journal.proofs.Keepings.{tied_more}
use Rattle.commit_journal.proofs.Transitions.{encoding_on, encoding_none, keeps_more, part_more}
use Rattle.commit_journal.proofs.reader.Reader.encoding.Goals as goal

pub returns-clause-elements : goal.returns-clause-elements
returns-clause-elements g c =
    let r = c.args.self.now in
    let k = c.requires.keeps in
    keeps_more r.hives r.on_device c.args.partial_body.now.start (read_by r) (logged_changes c.with-read.result) c.in-Ok.element k.0 k.1.0.start
    (element_fits r.hives r.few c.args.bytes.now c.in-Ok.element c.in-Ok.field-0-1.now c.in-Ok.ensures) c.with-read.ensures.changes

pub returns-clause-partial_body : goal.returns-clause-partial_body
returns-clause-partial_body g c =
    let r = c.args.self.now in
    let k = c.requires.keeps in
    part_more r.on_device (read_by r) (logged_changes c.with-read.result) c.in-Ok.element c.args.partial_body.now c.args.len k.1.0 k.1.1.0
    k.1.1.1.1 (read_front r.hives r.few c.args.bytes.now c.args.len c.in-Ok.element c.in-Ok.field-0-1.now c.requires.len c.in-Ok.ensures).1 c.with-read.ensures.changes

pub returns-clause-tied : goal.returns-clause-tied
returns-clause-tied g c =
    let r = c.args.self.now in
    let k = c.requires.keeps in
    tied_more r.last (r.last + 1) (read_by r) (logged_changes c.with-read.result) c.in-Ok.element c.args.partial_body.now (c.args.partial_body.now.left - c.args.len) (c.args.partial_body.now.count - 1) k.1.0.start c.with-read.ensures.changes refl c.requires.tied

pub returns-clause-reads : goal.returns-clause-reads
returns-clause-reads g c = λ header file behind here.
    let r = c.args.self.now in
    let k = c.requires.keeps in
    let n = k.1.1 in
    encoding_on header r.hives r.few file r.on_device (read_by r) c.args.partial_body.now c.args.len c.args.bytes.now behind here c.requires.len n.0 n.1.0 n.1.1 c.requires.there
    c.in-Ok.element c.in-Ok.field-0-1.now (logged_changes c.with-read.result) c.in-Ok.ensures k.1.0.start c.with-read.ensures.changes

pub returns-clause-takes : goal.returns-clause-takes
returns-clause-takes g c = λ start taken.
    let r = c.args.self.now in
    subst (λ (l : List NumberedChange). g.S.ElementSink.Took start c.take-2.new.self l) (sym (one_more r.last (read_by r) (logged_changes c.with-read.result) c.in-Ok.element r.numbers c.with-read.ensures.changes))
    (g.met.S.ElementSink.took_more _ _ _ _ _ taken c.in-Ok-take.ensures.taken)

pub returns-in-Err-clause-refused : goal.returns-in-Err-clause-refused
returns-in-Err-clause-refused g c =
    let r = c.args.self.now in
    let k = c.requires.keeps in
    let n = k.1.1 in
    own_fails _ (FromBytes r (Size c.args.partial_body.now) c.args.bytes.now) (taken_by r) c.in-Err.why
    (λ header file behind here. first_partial header r.hives file r.on_device (read_by r) c.args.partial_body.now (c.args.bytes.now ++ behind) r.last k.0 k.1.0 c.requires.tied here)
    (⊎_elim (λ damaged. inl (
      damaged.0,
      λ header file behind here. encoding_none header r.hives r.few file r.on_device (read_by r) c.args.partial_body.now c.args.len c.args.bytes.now behind here c.requires.len n.0 n.1.0 n.1.1 c.requires.there damaged.1,
    )) (λ none. inr none) c.in-Err.ensures)

pub returns-in-Err-take-clause-refused : goal.returns-in-Err-take-clause-refused
returns-in-Err-take-clause-refused g c =
    let r = c.args.self.now in
    let k = c.requires.keeps in
    let n = k.1.1 in
    let xs = logged_changes c.with-read.result in
    let e = c.in-Ok.element in
    let pb = c.args.partial_body.now in
    record {
      begins = λ header file behind here. first_partial header r.hives file r.on_device (read_by r) pb (c.args.bytes.now ++ behind) r.last k.0 k.1.0 c.requires.tied here;
      reason = inr (record {
        change = (r.last + 1, e);
        denies = c.in-Err-take.ensures.denied;
        begins = λ header file behind here.
            subst (λ (l : List NumberedChange). DecodeFirst l (encodings_for header r) file) (one_more r.last (read_by r) xs e r.numbers c.with-read.ensures.changes)
            (first_partial header r.hives file r.on_device xs _ _ (r.last + 1)
            (keeps_more r.hives r.on_device pb.start (read_by r) xs e k.0 k.1.0.start (element_fits r.hives r.few c.args.bytes.now e c.in-Ok.field-0-1.now c.in-Ok.ensures) c.with-read.ensures.changes)
            (part_more r.on_device (read_by r) xs e pb c.args.len k.1.0 k.1.1.0 k.1.1.1.1 (read_front r.hives r.few c.args.bytes.now c.args.len e c.in-Ok.field-0-1.now c.requires.len c.in-Ok.ensures).1 c.with-read.ensures.changes)
            (tied_more r.last (r.last + 1) (read_by r) xs e pb (pb.left - c.args.len) (pb.count - 1) k.1.0.start c.with-read.ensures.changes refl c.requires.tied)
            (encoding_on header r.hives r.few file r.on_device (read_by r) pb c.args.len c.args.bytes.now behind here c.requires.len n.0 n.1.0 n.1.1 c.requires.there e c.in-Ok.field-0-1.now xs c.in-Ok.ensures k.1.0.start c.with-read.ensures.changes));
      });
    }

pub returns-in-Err-take-clause-takes : goal.returns-in-Err-take-clause-takes
returns-in-Err-take-clause-takes g c = λ start taken.
    let r = c.args.self.now in
    subst (λ (l : List NumberedChange). g.S.ElementSink.Took start c.take-2.new.self l) (append-nil (taken_by r))
    (g.met.S.ElementSink.took_more _ _ _ _ _ taken c.in-Err-take.ensures.same)
