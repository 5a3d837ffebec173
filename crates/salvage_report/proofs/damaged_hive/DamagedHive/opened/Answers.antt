use Rattle.std.proofs.Common.{◌≡◌, ◌∙◌, ◌≤◌, List, ℕ, inl, inr, ap, sym, subst, length}
use Rattle.base_block.specs.declared.block.BaseBlock.{BaseBlock}
use Rattle.std.specs.Prelude.{Err}
use Rattle.hive_cells.specs.Bins.{Cells, Shows}
use Rattle.hive_lookup.specs.Records.{record_at}
use Rattle.hive_lookup.specs.declared.list_kind.ListKind.TheVariants.{Subkeys}
use Rattle.hive_mending.specs.Mending.{IsMended, MendRefused, whole_pages}
use Rattle.salvage_report.specs.OpenedHives.{IsUnusable, IsWanted, bins_in, head_of}
use Rattle.salvage_report.proofs.damaged_hive.DamagedHive.opened.Goals as goal

pub returns-in-Err-clause-refused : goal.returns-in-Err-clause-refused
returns-in-Err-clause-refused c = inr (inl (subst (λ (l : List ℕ). IsUnusable l c.in-Err.why) c.deref.ensures.value c.in-Err.ensures.refused))

pub wanted_size-size-requires : goal.wanted_size-size-requires
wanted_size-size-requires c = record { head = c.in-Ok.ensures.block.0 ∙ ap head_of (c.deref.ensures.value ∙ sym c.deref-2.ensures.value) }

pub returns-in-Err-mend-clause-refused : goal.returns-in-Err-mend-clause-refused
returns-in-Err-mend-clause-refused c = inr (inr (inl (
  c.wanted_size-size.result,
  subst (λ (l : List ℕ). IsWanted l c.wanted_size-size.result) c.deref-2.ensures.value c.wanted_size-size.ensures,
  subst (λ (l : List ℕ). MendRefused l c.in-Err-mend.why) c.bins_of-bins.ensures c.in-Err-mend.ensures,
)))

pub returns-in-Ok-root_is_read-clause-opened : goal.returns-in-Ok-root_is_read-clause-opened
returns-in-Ok-root_is_read-clause-opened c =
    let file = c.args.file.items in
    let head : c.in-Ok.block ≡ head_of file = c.in-Ok.ensures.block.0 ∙ ap head_of c.deref.ensures.value in
    record {
      long = subst (λ (l : List ℕ). 512 ≤ length l) c.deref.ensures.value c.in-Ok.ensures.block.1;
      begins = subst (λ (b : BaseBlock). b.signature.0 ≡ 0x6667_6572) head c.in-Ok.ensures.signature;
      size = c.wanted_size-size.result;
      wanted = subst (λ (l : List ℕ). IsWanted l c.wanted_size-size.result) c.deref-2.ensures.value c.wanted_size-size.ensures;
      mended = subst (λ (l : List ℕ). IsMended (whole_pages l) c.in-Ok-mend.mended.image.bytes c.in-Ok-mend.mended.gaps.items) c.bins_of-bins.ensures c.in-Ok-mend.ensures;
      root = ap (λ (b : BaseBlock). b.root) head;
      minor = ap (λ (b : BaseBlock). b.minor) head;
      state = c.state_of-state.ensures file head (c.len.ensures ∙ (c.bins_of-bins.result.ok.0 ∙ ap length c.bins_of-bins.ensures));
      read = c.in-Ok-root_is_read.ensures;
    }

pub returns-in-Err-root_is_read-clause-refused : goal.returns-in-Err-root_is_read-clause-refused
returns-in-Err-root_is_read-clause-refused c =
    let file = c.args.file.items in
    let head : c.in-Ok.block ≡ head_of file = c.in-Ok.ensures.block.0 ∙ ap head_of c.deref.ensures.value in
    inr (inr (inr (
      c.wanted_size-size.result,
      subst (λ (l : List ℕ). IsWanted l c.wanted_size-size.result) c.deref-2.ensures.value c.wanted_size-size.ensures,
      c.in-Ok-mend.mended.image.bytes,
      c.in-Ok-mend.mended.gaps.items,
      subst (λ (l : List ℕ). IsMended (whole_pages l) c.in-Ok-mend.mended.image.bytes c.in-Ok-mend.mended.gaps.items) c.bins_of-bins.ensures c.in-Ok-mend.ensures,
      subst (λ (b : BaseBlock). (cells : Cells) → Shows c.in-Ok-mend.mended.image.bytes cells → record_at Subkeys cells b.root ≡ Err c.in-Err-root_is_read.why) head c.in-Err-root_is_read.ensures,
    )))
