use Rattle.std.proofs.Common.{◌∙◌, ◌-◌, inl, length, length-drop, take, drop, refl, ap, arith}
use Rattle.std.specs.Prelude.{not}
use Rattle.std.proofs.lemmas.List.{take_all}
use Rattle.std.proofs.lemmas.Slice.Eq.{bytes_eq-Decides}
use Rattle.byteorder.specs.Endian.{little_number}
use Rattle.commit_journal.proofs.HeaderRead.{hives_there, no_other}
use Rattle.commit_journal.proofs.header.decode.Goals as goal
use Rattle.commit_journal.proofs.header.decode.Goals.{then-hives-eq0-via-then-hives-eq0, then-hives-eq0-via-else-hives-eq0+then-hives}

pub returns-then-hives-eq0 : goal.returns-then-hives-eq0
returns-then-hives-eq0 c = inl (
  refl,
  λ store is begin_batch.
      let bytes = c.args.bytes.now in
      let there = hives_there bytes store is begin_batch in
      let n = c.read_u32-hives.ensures ∙ ap (little_number 4) (take_all (length bytes - 24) (drop 24 bytes) (omega (arith, length-drop 24 bytes))) in
      elim c.then-hives-eq0.branch [
        | then-hives-eq0-via-then-hives-eq0 w ↦ omega (arith, n, there, is.some_hives, w.if-hives-eq0.true)
        | then-hives-eq0-via-else-hives-eq0+then-hives w ↦ omega (arith, n, there, is.few_hives, w.if-hives.true)
      ],
)

pub returns-then-ne : goal.returns-then-ne
returns-then-ne c = inl (
  refl,
  λ store is begin_batch.
      let bytes = c.args.bytes.now in
      let n = c.read_u32-hives.ensures ∙ ap (little_number 4) (take_all (length bytes - 24) (drop 24 bytes) (omega (arith, length-drop 24 bytes))) in
      no_other bytes c.from_bytes-id.result c.read_u32-hives.result c.of_mark-layout.result c.deref.result.now (c.from_bytes-id.ensures ∙ c.copy_from_slice.ensures.after) n c.of_mark-layout.ensures (c.deref.ensures.value ∙ c.in_ok-header.ensures)
      (λ same. let yes = (bytes_eq-Decides (take 64 bytes) c.deref.result.now).1 same in let wrong = c.if-ne.ensures ∙ ap not yes in (cc)) store is begin_batch,
)
