use Rattle.std.proofs.Common.{◌≤◌, inl, refl, arith}
use Rattle.commit_journal.specs.Reading.{read_by}
use Rattle.commit_journal.proofs.Transitions.{part_none}
use Rattle.commit_journal.proofs.reader.Reader.partial_body.Goals as goal

pub returns-then-partial_body-lt-LEAST_ELEMENT_BYTES-clause-refused : goal.returns-then-partial_body-lt-LEAST_ELEMENT_BYTES-clause-refused
returns-then-partial_body-lt-LEAST_ELEMENT_BYTES-clause-refused c = inl (
  refl,
  λ header file rest here.
      let r = c.args.self.now in
      let some : 1 ≤ c.args.partial_body.count = omega (arith, c.if-partial_body-eq0.false) in
      part_none header r.hives r.few file r.on_device (read_by r) c.args.partial_body rest here some c.if-partial_body-lt-LEAST_ELEMENT_BYTES.true,
)
