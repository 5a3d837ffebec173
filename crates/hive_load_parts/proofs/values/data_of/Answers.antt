use Rattle.std.proofs.Common.{◌≡◌, ◌-◌, ◌^◌, length, min, take, List, ℕ, Ok, Err, arith, rules, sym, ◌∙◌}
use Rattle.std.proofs.lemmas.Grind.{common_steps}
use Rattle.hive_load_parts.specs.CellReads.{marks_of}
use Rattle.hive_load_parts.proofs.Kit.{not_least, least, ok_as}
use Rattle.hive_records.specs.Values.{cell_prefix, big_data}
use Rattle.hive_load_parts.proofs.ValueSteps.{data_small, data_empty, data_big, data_piece}
use Rattle.hive_load_parts.proofs.values.data_of.Goals as goal

cut_most : (n m : ℕ) (xs : List ℕ) → m ≡ min n (length xs) → take n xs ≡ take m xs
cut_most n m xs e = grind (arith, common_steps, e)

pub returns-then-value-ge-IN_RECORD-clause-reads : goal.returns-then-value-ge-IN_RECORD-clause-reads
returns-then-value-ge-IN_RECORD-clause-reads c = λ cells shows. data_small c.args.split c.args.value.now.size c.args.value.now.offset c.args.value.now.small.now cells (marks_of c.args.seen.now) (marks_of c.args.seen.now) c.in_ok-new.field-0 (least _ _ c.if-value-ge-IN_RECORD.true) (cut_most (c.args.value.now.size - 2 ^ 31) c.min.result c.args.value.now.small.now c.min.ensures ∙ sym c.in_ok-new.ensures)

pub returns-then-value-eq0-clause-reads : goal.returns-then-value-eq0-clause-reads
returns-then-value-eq0-clause-reads c = λ cells shows. data_empty c.args.split c.args.value.now.size c.args.value.now.offset c.args.value.now.small.now cells (marks_of c.args.seen.now) (marks_of c.args.seen.now) c.in_ok-new-2.field-0 (not_least _ _ c.if-value-ge-IN_RECORD.false) (search (rules, c.if-value-eq0.true)) (sym c.in_ok-new-2.ensures)

pub returns-in-Err-clause-reads : goal.returns-in-Err-clause-reads
returns-in-Err-clause-reads c = λ cells shows. data_big c.args.split c.args.value.now.size c.args.value.now.offset c.args.value.now.small.now cells (marks_of c.args.seen.now) (marks_of c.big_data.new.seen) (Err c.in-Err.refusal) (not_least _ _ c.if-value-ge-IN_RECORD.false) (search (rules, c.if-value-eq0.false)) (sym c.is_big.ensures ∙ c.if-is_big.true) (c.in-Err.ensures.reads cells shows)

pub returns-then-is_big-clause-reads : goal.returns-then-is_big-clause-reads
returns-then-is_big-clause-reads c = λ cells shows. data_big c.args.split c.args.value.now.size c.args.value.now.offset c.args.value.now.small.now cells (marks_of c.args.seen.now) (marks_of c.big_data.new.seen) (Ok c.in_ok-from_vec.field-0) (not_least _ _ c.if-value-ge-IN_RECORD.false) (search (rules, c.if-value-eq0.false)) (sym c.is_big.ensures ∙ c.if-is_big.true) (ok_as (big_data c.args.value.now.size c.args.value.now.offset) cells (marks_of c.args.seen.now) (marks_of c.big_data.new.seen) c.in_ok-from_vec.field-0 c.in-Ok.bytes.items c.in_ok-from_vec.ensures (c.in-Ok.ensures.reads cells shows))

pub returns-in-Err-cell_prefix-clause-reads : goal.returns-in-Err-cell_prefix-clause-reads
returns-in-Err-cell_prefix-clause-reads c = λ cells shows. data_piece c.args.split c.args.value.now.size c.args.value.now.offset c.args.value.now.small.now cells (marks_of c.args.seen.now) (marks_of c.cell_prefix.new.seen) (Err c.in-Err-cell_prefix.refusal) (not_least _ _ c.if-value-ge-IN_RECORD.false) (search (rules, c.if-value-eq0.false)) (sym c.is_big.ensures ∙ c.if-is_big.false) (c.in-Err-cell_prefix.ensures.reads cells shows)

pub returns-clause-reads : goal.returns-clause-reads
returns-clause-reads c = λ cells shows. data_piece c.args.split c.args.value.now.size c.args.value.now.offset c.args.value.now.small.now cells (marks_of c.args.seen.now) (marks_of c.cell_prefix.new.seen) (Ok c.in_ok-new-3.field-0) (not_least _ _ c.if-value-ge-IN_RECORD.false) (search (rules, c.if-value-eq0.false)) (sym c.is_big.ensures ∙ c.if-is_big.false)
    (ok_as (cell_prefix c.args.value.now.size c.args.value.now.offset) cells (marks_of c.args.seen.now) (marks_of c.cell_prefix.new.seen) c.in_ok-new-3.field-0 c.in-Ok-cell_prefix.bytes.now c.in_ok-new-3.ensures (c.in-Ok-cell_prefix.ensures.reads cells shows))
