use Rattle.std.proofs.Common.{◌≡◌, length, rules, ◌∙◌, ◌++◌, List, ℕ, ap, sym, take, drop}
use Rattle.hive_recovery.specs.Laid.{first_bytes, laid, own_bytes}
use Rattle.hive_recovery.specs.Plans.{seen}
use Rattle.hive_recovery.proofs.Planned.{file_made, first_sector}
use Rattle.hive_recovery.proofs.carrying.carry_out.Goals as goal

pub returns-in_ok-file_of_parts-in-Ok-clause-recovered : goal.returns-in_ok-file_of_parts-in-Ok-clause-recovered
returns-in_ok-file_of_parts-in-Ok-clause-recovered c =
    file_made c.args.file.now (seen c.args.plan.now) c.in-Ok.bins.items c.in_ok-file_of_parts-in-Ok.field-0.items c.if-file-lt-HEAD_BYTES.false
    (ap (λ entries. first_bytes (laid (own_bytes c.args.file.now) entries) c.args.plan.now.bins_size) (sym c.deref.ensures.value) ∙ c.in-Ok.ensures.ok)
    (c.in_ok-file_of_parts-in-Ok.ensures ∙ ap (λ (bins : List ℕ). c.args.plan.now.sector ++ take 3584 (drop 512 c.args.file.now) ++ bins) c.deref-in-Ok.ensures.value)

pub returns-in_ok-file_of_parts-in-Ok-clause-begins : goal.returns-in_ok-file_of_parts-in-Ok-clause-begins
returns-in_ok-file_of_parts-in-Ok-clause-begins c =
    let sector = c.args.plan.now.sector in
    let long : length sector ≡ 512 = search rules in
    first_sector sector (take 3584 (drop 512 c.args.file.now)) c.deref-in-Ok.result.now c.in_ok-file_of_parts-in-Ok.field-0.items long c.in_ok-file_of_parts-in-Ok.ensures
