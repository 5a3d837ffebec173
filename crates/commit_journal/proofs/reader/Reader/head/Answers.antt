use Rattle.std.proofs.Common.{◌≡◌, ◌∙◌, ◌-◌, inl, length, length-drop, drop, refl, ap, arith}
use Rattle.std.proofs.lemmas.List.{take_all}
use Rattle.byteorder.specs.Endian.{little_number}
use Rattle.commit_journal.specs.Reading.{read_by}
use Rattle.std.proofs.lemmas.List.{length-map}
use Rattle.change_codec.specs.ModelChanges.{timed_element}
use Rattle.commit_journal.proofs.Keepings.{follows_on, head_keeps, head_part, same_numbers}
use Rattle.commit_journal.proofs.Transitions.{head_on, head_none, ok_on, refused_on}
use Rattle.commit_journal.proofs.reader.Reader.head.Goals as goal
use Rattle.commit_journal.proofs.reader.Reader.head.Goals.{then-size-lt-HEAD_BYTES-via-then-size-lt-HEAD_BYTES, then-size-lt-HEAD_BYTES-via-else-size-lt-HEAD_BYTES+then-size-gt-MOST_BODY_BYTES, then-size-lt-HEAD_BYTES-via-else-size-lt-HEAD_BYTES+else-size-gt-MOST_BODY_BYTES+then-size-left}

pub returns-then-size-lt-HEAD_BYTES-clause-refused : goal.returns-then-size-lt-HEAD_BYTES-clause-refused
returns-then-size-lt-HEAD_BYTES-clause-refused c = inl (
  refl,
  λ header file behind left here.
      let r = c.args.self.now in
      let bytes = c.args.bytes.now in
      let first = c.read_u64-first.ensures ∙ ap (little_number 8) (take_all (length bytes - 4) (drop 4 bytes) (omega (arith, length-drop 4 bytes))) in
      let count = c.from-count.ensures ∙ c.read_u32-2.ensures ∙ ap (little_number 4) (take_all (length bytes - 12) (drop 12 bytes) (omega (arith, length-drop 12 bytes))) in
      head_none header r.hives r.few file r.on_device (read_by r) bytes behind c.from-size.result c.read_u64-first.result c.from-count.result c.args.left c.requires.there (c.from-size.ensures ∙ c.read_u32.ensures) first count left here
      (λ low high there goes. elim c.then-size-lt-HEAD_BYTES.branch [
        | then-size-lt-HEAD_BYTES-via-then-size-lt-HEAD_BYTES w ↦ omega (arith, low, w.if-size-lt-HEAD_BYTES.true)
        | then-size-lt-HEAD_BYTES-via-else-size-lt-HEAD_BYTES+then-size-gt-MOST_BODY_BYTES w ↦ omega (arith, high, w.if-size-gt-MOST_BODY_BYTES.true)
        | then-size-lt-HEAD_BYTES-via-else-size-lt-HEAD_BYTES+else-size-gt-MOST_BODY_BYTES+then-size-left w ↦ omega (arith, there, w.if-size-left.true)
      ]),
)

pub returns-then-not-may_follow-clause-refused : goal.returns-then-not-may_follow-clause-refused
returns-then-not-may_follow-clause-refused c = inl (
  refl,
  λ header file behind left here.
      let r = c.args.self.now in
      let bytes = c.args.bytes.now in
      let first = c.read_u64-first.ensures ∙ ap (little_number 8) (take_all (length bytes - 4) (drop 4 bytes) (omega (arith, length-drop 4 bytes))) in
      let count = c.from-count.ensures ∙ c.read_u32-2.ensures ∙ ap (little_number 4) (take_all (length bytes - 12) (drop 12 bytes) (omega (arith, length-drop 12 bytes))) in
      head_none header r.hives r.few file r.on_device (read_by r) bytes behind c.from-size.result c.read_u64-first.result c.from-count.result c.args.left c.requires.there (c.from-size.ensures ∙ c.read_u32.ensures) first count left here
      (λ low high there goes. let wrong = c.if-not-may_follow.ensures.1 goes in (cc)),
)

pub returns-clause-reads : goal.returns-clause-reads
returns-clause-reads c = ok_on c.partial_body.result _ _ (λ on header file behind left here.
    let r = c.args.self.now in
    let bytes = c.args.bytes.now in
    let first = c.read_u64-first.ensures ∙ ap (little_number 8) (take_all (length bytes - 4) (drop 4 bytes) (omega (arith, length-drop 4 bytes))) in
    let count = c.from-count.ensures ∙ c.read_u32-2.ensures ∙ ap (little_number 4) (take_all (length bytes - 12) (drop 12 bytes) (omega (arith, length-drop 12 bytes))) in
    on header file _ (head_on header r.hives r.few file r.on_device (read_by r) bytes behind c.from-size.result c.read_u64-first.result c.from-count.result c.args.left c.requires.there (c.from-size.ensures ∙ c.read_u32.ensures) first count left here
    c.count-start.result (omega (arith, c.count-start.ensures, ap length c.requires.keeps.ghost_log, length-map (read_by r) timed_element)) (omega (arith, c.if-size-lt-HEAD_BYTES.false)) (omega (arith, c.if-size-gt-MOST_BODY_BYTES.false)) (omega (arith, c.if-size-left.false)))) c.partial_body.ensures.reads

pub returns-clause-refused : goal.returns-clause-refused
returns-clause-refused c = refused_on c.partial_body.result _ _ _ (λ none header file behind left here.
    let r = c.args.self.now in
    let bytes = c.args.bytes.now in
    let first = c.read_u64-first.ensures ∙ ap (little_number 8) (take_all (length bytes - 4) (drop 4 bytes) (omega (arith, length-drop 4 bytes))) in
    let count = c.from-count.ensures ∙ c.read_u32-2.ensures ∙ ap (little_number 4) (take_all (length bytes - 12) (drop 12 bytes) (omega (arith, length-drop 12 bytes))) in
    none header file _ (head_on header r.hives r.few file r.on_device (read_by r) bytes behind c.from-size.result c.read_u64-first.result c.from-count.result c.args.left c.requires.there (c.from-size.ensures ∙ c.read_u32.ensures) first count left here
    c.count-start.result (omega (arith, c.count-start.ensures, ap length c.requires.keeps.ghost_log, length-map (read_by r) timed_element)) (omega (arith, c.if-size-lt-HEAD_BYTES.false)) (omega (arith, c.if-size-gt-MOST_BODY_BYTES.false)) (omega (arith, c.if-size-left.false)))) c.partial_body.ensures.refused

pub partial_body-requires : goal.partial_body-requires
partial_body-requires c =
    let r = c.args.self.now in
    let goes = c.if-not-may_follow.ensures.0 refl in
    let start : c.count-start.result ≡ length (read_by r) = omega (arith, c.count-start.ensures, ap length c.requires.keeps.ghost_log, length-map (read_by r) timed_element) in
    record {
      elements = head_keeps r.hives r.on_device (read_by r) (read_by r) c.count-start.result refl start c.requires.keeps;
      partial_body = head_part r.on_device (read_by r) c.read_u64-first.result c.from-size.result c.from-count.result c.count-start.result start goes (omega (arith, c.if-size-lt-HEAD_BYTES.false)) (omega (arith, c.if-size-gt-MOST_BODY_BYTES.false));
      tied = omega (arith, goes.one, start, length-drop c.count-start.result (read_by r));
    }

pub returns-clause-same : goal.returns-clause-same
returns-clause-same c =
    let r = c.args.self.now in
    let goes = c.if-not-may_follow.ensures.0 refl in
    c.partial_body.ensures.same ∙ same_numbers (read_by r) r.last c.read_u64-first.result (follows_on r.on_device (read_by r) r.last c.read_u64-first.result c.requires.keeps.ghost_log c.requires.tied goes.one goes.ends)
