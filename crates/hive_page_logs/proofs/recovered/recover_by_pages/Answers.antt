use Rattle.std.proofs.Common.{◌≡◌, List, ℕ, true, ◌++◌, ◌∙◌, sym, ap, subst, drop, take, length, inl, inr, rules}
use Rattle.base_block.specs.Layout.{is_clean_block}
use Rattle.base_block.specs.declared.block.BaseBlock.{BaseBlock}
use Rattle.base_block.specs.declared.fields.SequenceNumber.{SequenceNumber}
use Rattle.dirt_log.specs.WholeLog.{IsCovered, repaired}
use Rattle.hive_recovery.specs.Sectors.{recovered_sector}
use Rattle.hive_page_logs.proofs.Read.{block_first}
use Rattle.hive_page_logs.proofs.recovered.recover_by_pages.Goals as goal

pub returns-in-Err-clause-refused : goal.returns-in-Err-clause-refused
returns-in-Err-clause-refused c =
    let Lacking : List ℕ → Type 0 = λ own. IsCovered (length own) c.args.log.now.dirt.vector → ⊥ in
    elim c.in-Err.ensures.refused [
      | inl lacking ↦ inr (inr (lacking.0, subst Lacking c.bins_in.ensures lacking.1))
      | inr memory ↦ inl memory
    ]

pub returns-clause-ok : goal.returns-clause-ok
returns-clause-ok c =
    let dirt = c.args.log.now.dirt in
    let rest = take 3584 (drop 512 c.args.file.now) in
    let Covered : List ℕ → Type 0 = λ own. IsCovered (length own) dirt.vector in
    record {
      long = c.if-file-lt-HEAD_BYTES.false;
      covered = subst Covered c.bins_in.ensures c.in-Ok.ensures.covered;
      bytes = c.in_ok-file_of_parts.ensures
          ∙ ap (λ (sector : List ℕ). sector ++ rest ++ c.deref.result.now) c.recovered-sector.ensures.made
          ∙ ap (λ (bins : List ℕ). recovered_sector c.args.log.now.sector c.args.number.0 dirt.base.bins_size ++ rest ++ bins) (c.deref.ensures.value ∙ c.in-Ok.ensures.ok ∙ ap (λ (own : List ℕ). repaired own dirt.vector dirt.pages.now) c.bins_in.ensures);
    }

pub returns-clause-clean : goal.returns-clause-clean
returns-clause-clean c =
    let sector = c.recovered-sector.result in
    let long : length sector ≡ 512 = first_of (search (rules, c.recovered-sector.type_inv), search rules) in
    let Clean : BaseBlock → Type 0 = λ block. is_clean_block block ≡ true in
    subst Clean (sym (block_first sector (take 3584 (drop 512 c.args.file.now)) c.deref.result.now c.in_ok-file_of_parts.field-0.items long c.in_ok-file_of_parts.ensures)) c.recovered-sector.ensures.clean

pub returns-clause-numbered : goal.returns-clause-numbered
returns-clause-numbered c =
    let sector = c.recovered-sector.result in
    let long : length sector ≡ 512 = first_of (search (rules, c.recovered-sector.type_inv), search rules) in
    let Number : ℕ → SequenceNumber = λ n. record { 0 = n } in
    ap (λ (block : BaseBlock). block.primary) (block_first sector (take 3584 (drop 512 c.args.file.now)) c.deref.result.now c.in_ok-file_of_parts.field-0.items long c.in_ok-file_of_parts.ensures) ∙ ap Number c.recovered-sector.ensures.numbered
