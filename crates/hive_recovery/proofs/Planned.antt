-- What is planned, and the file that it makes.
use Rattle.std.proofs.Common.{◌≡◌, ◌⊎◌, ◌<◌, ◌≤◌, ℕ, zero, suc, List, [], ◌∷◌, ◌++◌, length, take, drop, get_or, nat_lt, if◌then◌else◌, Some, Result, Ok, Err, IfErr, refl, sym, ◌∙◌, ap, append_assoc, inl, inr, arith}
use Rattle.std.proofs.lemmas.Bool.{le-ltb}
use Rattle.std.proofs.lemmas.List.{take_at}
use Rattle.refusals.specs.declared.refusal.Refusal.{Refusal}
use Rattle.refusals.specs.declared.refusal.Refusal.TheVariants.{HiveDamaged, NoMemory}
use Rattle.refusals.specs.declared.refusal.Cause.TheVariants.{Truncated}
use Rattle.base_block.specs.Layout.{block_at}
use Rattle.base_block.specs.declared.block.BaseBlock.{BaseBlock}
use Rattle.hive_recovery.specs.declared.limits.RecoveryLimits.{RecoveryLimits}
use Rattle.hive_recovery.specs.declared.log.Log.{Log}
use Rattle.hive_recovery.specs.declared.planning.RecoveryPlan.{RecoveryPlan}
use Rattle.hive_recovery.specs.Plans.{PlanSeen, plan_of, plan_by_block, NothingChosen}
use Rattle.hive_recovery.specs.Recovered.{bins_of, file_of, recovered_file}

-- what is there doesn't depend on what would stand for it if it weren't
pub any_default : (entries : List (List ℕ)) (index : ℕ) (entry : List ℕ) → index < length entries → get_or entries index entry ≡ get_or entries index []
any_default [] index entry less = absurd (omega (arith, less))
any_default (first ∷ rest) zero entry less = refl
any_default (first ∷ rest) (suc index) entry less = any_default rest index entry (omega (arith, less))

-- the plan of a file with a first sector
pub plan_long : (file : List ℕ) (limits : RecoveryLimits) (logs : List Log) (sector : List ℕ) (block : BaseBlock) → 512 ≤ length file → sector ≡ take 512 file → block ≡ block_at sector → plan_by_block sector block limits logs ≡ plan_of file limits logs
unfolding plan_of
plan_long file limits logs sector block long same is =
    let shown : (if nat_lt (length file) 512 then Err (HiveDamaged 0 Truncated) else plan_by_block (take 512 file) (block_at (take 512 file)) limits logs) ≡ plan_by_block (take 512 file) (block_at (take 512 file)) limits logs = rw (le-ltb (length file) 512 long) refl in
    ap (λ b. plan_by_block sector b limits logs) is ∙ ap (λ s. plan_by_block s (block_at s) limits logs) same ∙ sym shown

pub not_chosen : (file : List ℕ) (limits : RecoveryLimits) (logs : List Log) (answer : Result RecoveryPlan Refusal) (found : Result PlanSeen Refusal) → found ≡ plan_of file limits logs → IfErr answer (λ why. (why ≡ NoMemory) ⊎ (found ≡ Err why)) → IfErr answer (NothingChosen file limits logs)
not_chosen file limits logs (Ok plan) found same why = tt
not_chosen file limits logs (Err why) found same (inl none) = inl none
not_chosen file limits logs (Err why) found same (inr is) = inr (inl (sym same ∙ is))

-- the file that a plan makes, if all bins data are there
pub file_made : (file : List ℕ) (plan : PlanSeen) (bins out : List ℕ) → 4096 ≤ length file → bins_of file plan ≡ Some bins → out ≡ plan.sector ++ take 3584 (drop 512 file) ++ bins → recovered_file file plan ≡ Ok out
unfolding recovered_file
file_made file plan bins out long has is =
    let shown : (if nat_lt (length file) 4096 then Err (HiveDamaged 0 Truncated) else file_of file plan (bins_of file plan)) ≡ file_of file plan (bins_of file plan) = rw (le-ltb (length file) 4096 long) refl in
    shown ∙ ap (file_of file plan) has ∙ ap Ok (sym is)

-- a file of three parts begins with the first of them
pub first_sector : (sector rest bins out : List ℕ) → length sector ≡ 512 → out ≡ sector ++ rest ++ bins → take 512 out ≡ sector
first_sector sector rest bins out long is = ap (take 512) (is ∙ append_assoc sector rest bins) ∙ take_at sector (rest ++ bins) 512 long
