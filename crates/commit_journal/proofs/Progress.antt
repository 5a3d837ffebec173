-- Steps that come nearer to something durable, and a journal that the device has failed.
use Rattle.std.proofs.Common.{subst, None, [], ◌≡◌, ◌⊎◌, inr, ⊎_elim, ℕ, zero, suc, ◌+◌, ◌<◌, ◌≤◌, ap, arith}
use Rattle.std.specs.Prelude.{◌↔◌, Result, Ok, Err}
use Rattle.refusals.specs.declared.refusal.Refusal.{Refusal}
use Rattle.refusals.specs.declared.refusal.Refusal.TheVariants as refusal
use Rattle.crash_model.specs.Promises.{Choice, Content, JournalSays}
use Rattle.disk_model.specs.declared.progress.Progress.{Progress}
use Rattle.disk_model.specs.declared.progress.Progress.TheVariants as progress
use Rattle.change_codec.specs.ModelChanges.{TimedOp}
use Rattle.crash_model.specs.StepAnswers.{Says}
use Rattle.commit_journal.specs.OnDisk as phase
use Rattle.commit_journal.specs.Journals.{view_in_phase, steps_in, steps_left, MakesProgress, DurableWithin}
use Rattle.commit_journal.specs.declared.extent.Extent.{Extent}
use Rattle.commit_journal.specs.declared.journal.Phase.{Phase}
use Rattle.commit_journal.specs.declared.journal.Journal.{Journal}

pub few_steps : (p : phase.Phase) → steps_in p ≤ 5
few_steps phase.Phase.AtRest = omega arith
few_steps phase.Phase.BodyWritten = omega arith
few_steps phase.Phase.BodySynced = omega arith
few_steps phase.Phase.GateWritten = omega arith
few_steps phase.Phase.TrimWritten = omega arith
few_steps phase.Phase.Broken = omega arith

-- at most n steps are left, and as many of the eight
prefix_from : (journals : ℕ → Journal) (n k : ℕ) → ((k : ℕ) → k < 8 → DurableWithin k journals ⊎ MakesProgress (journals k) (journals (k + 1)))
    → steps_left (journals k) ≤ n → k + n < 8 → DurableWithin 8 journals
prefix_from journals zero k nearer left room = ⊎_elim
    (λ durable_before. (durable_before.0, omega (arith, durable_before.1, room), durable_before.2))
    (λ near. ⊎_elim (λ (falls : steps_left (journals (k + 1)) + 1 ≡ steps_left (journals k)). absurd (omega (arith, falls, left))) (λ on_device. (k, omega (arith, room), on_device)) near)
    (nearer k (omega (arith, room)))
prefix_from journals (suc n) k nearer left room = ⊎_elim
    (λ durable_before. (durable_before.0, omega (arith, durable_before.1, room), durable_before.2))
    (λ near. ⊎_elim (λ (falls : steps_left (journals (k + 1)) + 1 ≡ steps_left (journals k)). prefix_from journals n (k + 1) nearer (omega (arith, falls, left)) (omega (arith, room)))
    (λ on_device. (k, omega (arith, room), on_device)) near)
    (nearer k (omega (arith, room)))

pub eight : (journals : ℕ → Journal) → ((k : ℕ) → k < 8 → DurableWithin k journals ⊎ MakesProgress (journals k) (journals (k + 1))) → DurableWithin 8 journals
eight journals nearer = prefix_from journals 5 0 nearer (few_steps _) (omega arith)

-- a phase in which the device hasn't failed
pub whole : (now : Extent) (p q : Phase) (n : ℕ) → p ≡ q → steps_in (view_in_phase now p).phase ≡ suc n → ¬ ((view_in_phase now q).phase ≡ phase.Phase.Broken)
whole now p q n same left broken = absurd (omega (arith, left, ap (λ (r : Phase). steps_in (view_in_phase now r).phase) same, ap steps_in broken))

-- a phase in which no trim is under way
pub no_trim : (now : Extent) (p q : Phase) (n : ℕ) → p ≡ q → steps_in (view_in_phase now p).phase ≡ n → n < 5 → ¬ ((view_in_phase now q).phase ≡ phase.Phase.TrimWritten)
no_trim now p q n same left few trims = absurd (omega (arith, left, few, ap (λ (r : Phase). steps_in (view_in_phase now r).phase) same, ap steps_in trims))

-- what comes only by this call, if it wasn't there before
pub only_now : {A B C : Type 0} → ¬ B → A ↔ C → A ↔ (B ⊎ C)
only_now not_before now = (λ a. inr (now.0 a), λ either. ⊎_elim (λ b. absurd (not_before b)) now.1 either)

-- if something is under way, a step neither lacks memory nor is idle
no_want : (old new : Choice (Content TimedOp)) → Says (JournalSays 0 []) (Err refusal.NoMemory) old new → old.next ≡ None
no_want old new says = says.0

no_idle : (old new : Choice (Content TimedOp)) → Says (JournalSays 0 []) (Ok progress.Idle) old new → old.next ≡ None
no_idle old new says = says.0

pub continues : (r : Result Progress Refusal) (old new : Choice (Content TimedOp)) → Says (JournalSays 0 []) r old new → ¬ (old.next ≡ None) → (r ≡ Err refusal.NoMemory) ⊎ (r ≡ Ok progress.Idle) → ⊥
continues r old new says halfway either = ⊎_elim
    (λ e. halfway (no_want old new (subst (λ (x : Result Progress Refusal). Says (JournalSays 0 []) x old new) e says)))
    (λ e. halfway (no_idle old new (subst (λ (x : Result Progress Refusal). Says (JournalSays 0 []) x old new) e says)))
    either
