use Rattle.std.proofs.Common.{ℕ, sym, ap, ◌∙◌}
use Rattle.std.specs.Prelude.{Bool, ◌==◌, if◌then◌else◌, Some, None}
use Rattle.std.proofs.lemmas.Bool.{ne_eqb}
use Rattle.hive_flush.specs.HiveStates.{dirty_pages, repairs_left}
use Rattle.store_check.proofs.Repairs.{failed, none_left, some_left}
use Rattle.store_check.proofs.hive_lines.repair_of.Goals as goal

pub returns-then-is_whole : goal.returns-then-is_whole
returns-then-is_whole c =
    let file = c.args.file.now in
    sym (ap (λ (left : ℕ). if left == 0 then None else Some (dirty_pages file)) (none_left file.pages file.writer.stage (c.is_whole.ensures.0 c.if-is_whole.true)))

pub returns : goal.returns
returns c =
    let file = c.args.file.now in
    ap (λ (pages : ℕ). Some pages) c.dirty_pages.ensures
    ∙ sym (ap (λ (none : Bool). if none then None else Some (dirty_pages file)) (ne_eqb (repairs_left file) 0 (some_left file.pages file.writer.stage (λ whole. failed c.is_whole.result (c.is_whole.ensures.1 whole) c.if-is_whole.false))))
