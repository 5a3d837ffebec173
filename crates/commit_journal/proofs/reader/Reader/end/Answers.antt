use Rattle.std.proofs.Common.{◌≡◌, ◌∙◌, ◌+◌, ◌-◌, ◌++◌, inl, List, length, take, drop, refl, sym, ap, arith, take-append-drop}
use Rattle.std.specs.Prelude.{sum_by}
use Rattle.std.proofs.lemmas.List.{map-append, length-map}
use Rattle.reg_tree.specs.declared.element.Element.{Element}
use Rattle.reg_tree.specs.Encodings.{element_encoded_len}
use Rattle.crash_model.specs.Changes as law
use Rattle.crash_model.specs.Promises.{Content, top}
use Rattle.change_codec.specs.ModelChanges.{TimedOp, timed_element, timed_elements}
use Rattle.commit_journal.specs.OnDisk.{with_elements}
use Rattle.commit_journal.specs.Journals.{content_of}
use Rattle.commit_journal.specs.Reading.{read_by}
use Rattle.commit_journal.specs.GhostLog.{logged_changes}
use Rattle.commit_journal.proofs.Keepings.{least}
use Rattle.commit_journal.proofs.Transitions.{end_none, end_on, last_is}
use Rattle.commit_journal.proofs.reader.Reader.end.Goals as goal

pub returns-then-partial_body-gt0-clause-refused : goal.returns-then-partial_body-gt0-clause-refused
returns-then-partial_body-gt0-clause-refused c = inl (
  refl,
  λ header file rest here.
      let r = c.args.self.now in
      end_none header r.hives r.few file r.on_device (read_by r) c.args.partial_body rest here c.requires.none c.if-partial_body-gt0.true,
)

pub with_body-requires : goal.with_body-requires
with_body-requires c =
    let r = c.args.self.now in
    let es = (read_by r) in
    let partial_body = c.args.partial_body in
    let same : logged_changes c.same.result ≡ es = c.same.ensures.changes in
    let body = ap (λ (l : List Element). drop partial_body.start l) same in
    let long = ap (λ (l : List Element). length l) body in
    record {
      before = c.requires.elements.ghost_log ∙ ap (λ (l : List Element). timed_elements (take partial_body.start l)) (sym same);
      count = omega (arith, c.requires.tied, long, c.requires.partial_body.number);
      some = omega (arith, c.requires.tied, c.requires.partial_body.some, c.requires.none, c.requires.partial_body.number);
      number = c.requires.partial_body.number;
      ends = c.requires.partial_body.ends;
      size = omega (arith, c.requires.partial_body.size, c.if-partial_body-gt0.false, ap (λ (l : List Element). sum_by element_encoded_len l) body);
      room = omega (arith, c.if-self-ge-MOST_ROOM.false, c.if-room-self.false);
      numbers = omega (arith, c.requires.tied, c.requires.partial_body.most, c.requires.partial_body.number);
    }

pub returns-clause-keeps : goal.returns-clause-keeps
returns-clause-keeps c =
    let r = c.args.self.now in
    let es = (read_by r) in
    let partial_body = c.args.partial_body in
    let body = drop partial_body.start es in
    let decodes : content_of c.with_body.result ≡ with_elements (content_of r.on_device) (partial_body.first - 1) (timed_elements body)
    = c.with_body.ensures.decodes ∙ ap (λ (l : List Element). with_elements (content_of r.on_device) (partial_body.first - 1) (timed_elements (drop partial_body.start l))) c.same.ensures.changes in
    let count : length (timed_elements body) ≡ length body = length-map body timed_element in
    let last : top 0 (content_of c.with_body.result) ≡ partial_body.first - 1 + length (timed_elements body)
    = ap (top 0) decodes ∙ last_is (content_of r.on_device) (partial_body.first - 1) (timed_elements body) (omega (arith, count, c.requires.partial_body.some, c.requires.none)) c.requires.partial_body.ends in
    record {
      are = c.with_body.ensures.ghost_log ∙ c.same.ensures.changes;
      ghost_log = ap (λ (s : Content TimedOp). s.elements) decodes ∙ ap (λ (l : List (law.Element TimedOp)). l ++ timed_elements body) c.requires.elements.ghost_log
          ∙ sym (map-append timed_element (take partial_body.start es) body) ∙ ap timed_elements (take-append-drop partial_body.start es);
      fit = c.requires.elements.fit;
      last = omega (arith, c.with_body.result.kept.last_is, last, count, c.requires.partial_body.most, c.requires.partial_body.number, c.requires.none);
    }

pub returns-clause-tied : goal.returns-clause-tied
returns-clause-tied c =
    let r = c.args.self.now in
    let es = (read_by r) in
    let partial_body = c.args.partial_body in
    let body = drop partial_body.start es in
    let decodes : content_of c.with_body.result ≡ with_elements (content_of r.on_device) (partial_body.first - 1) (timed_elements body)
    = c.with_body.ensures.decodes ∙ ap (λ (l : List Element). with_elements (content_of r.on_device) (partial_body.first - 1) (timed_elements (drop partial_body.start l))) c.same.ensures.changes in
    let count : length (timed_elements body) ≡ length body = length-map body timed_element in
    let last : top 0 (content_of c.with_body.result) ≡ partial_body.first - 1 + length (timed_elements body)
    = ap (top 0) decodes ∙ last_is (content_of r.on_device) (partial_body.first - 1) (timed_elements body) (omega (arith, count, c.requires.partial_body.some, c.requires.none)) c.requires.partial_body.ends in
    omega (arith, c.with_body.result.kept.last_is, last, count, c.requires.tied, c.requires.partial_body.number)

pub returns-clause-reads : goal.returns-clause-reads
returns-clause-reads c = λ header file rest here.
    let r = c.args.self.now in
    let es = (read_by r) in
    let partial_body = c.args.partial_body in
    let decodes : content_of c.with_body.result ≡ with_elements (content_of r.on_device) (partial_body.first - 1) (timed_elements (drop partial_body.start es))
    = c.with_body.ensures.decodes ∙ ap (λ (l : List Element). with_elements (content_of r.on_device) (partial_body.first - 1) (timed_elements (drop partial_body.start l))) c.same.ensures.changes in
    let empty : partial_body.left ≡ 0 = omega (arith, c.if-partial_body-gt0.false) in
    end_on header r.hives r.few file r.on_device es partial_body rest here c.requires.none empty c.requires.partial_body c.with_body.result decodes c.with_body.ensures.gate

pub overflow_mul-room : goal.overflow_mul-room
overflow_mul-room c = let small = least (drop c.args.partial_body.start (read_by c.args.self.now)) in omega (arith, small, c.requires.tied, c.requires.partial_body.size, c.requires.partial_body.short, c.requires.partial_body.number)

pub overflow_add-room : goal.overflow_add-room
overflow_add-room c = let small = least (drop c.args.partial_body.start (read_by c.args.self.now)) in omega (arith, small, c.requires.tied, c.requires.partial_body.size, c.requires.partial_body.short, c.requires.partial_body.number)
