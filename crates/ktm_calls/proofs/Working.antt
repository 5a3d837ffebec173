-- What the steps of the flusher, and of those who wait, are answered.
use Rattle.std.proofs.Common.{◌≡◌, ◌<◌, ◌≤◌, ℕ, zero, suc, [], ◌∷◌, arith, subst, Bool, true, false, cond, List, length, Option, Some, None, refl, ap, sym, ◌⊎◌, inl, inr}
use Rattle.std.specs.Prelude.{is_some, slice_get}
use Rattle.refusals.specs.declared.refusal.Refusal.{Refusal}
use Rattle.refusals.specs.declared.refusal.Refusal.TheVariants.{NoMemory, NotFound, DiskFault, Faulted}
use Rattle.store_model.specs.Machine.{Machine, first_of, refused_if}
use Rattle.store_model.specs.Steps.{Step, StepFails}
use Rattle.store_model.specs.declared.event.Event.{Event}
use Rattle.store_model.specs.declared.event.Event.TheVariants as event
use Rattle.store_model.specs.declared.event.Reply.{Reply}
use Rattle.store_model.specs.declared.event.Reply.TheVariants as reply
use Rattle.store_model.proofs.Replies.{receipt_or, stepped_or}
use Rattle.ktm_calls.specs.Waiting.{HasFailed, IsWork, SteppedOrFailed, is_step_kind}
use Rattle.ktm_calls.specs.Kinds.{kind_of}

-- a refusal by the fault of the store is that it is faulted
by_fault : (f : Bool) (why : Refusal) → refused_if f Faulted ≡ Some why → why ≡ Faulted
by_fault true why e = sym (cc e)
by_fault false why e = absurd (cc e)

fails : (old new : Machine) (wanted : Option Refusal) (why : Refusal) → ((e : wanted ≡ Some why) → why ≡ Faulted) → ¬ (reply.Refused why ≡ reply.Refused NoMemory) → StepFails old wanted why new → (why ≡ DiskFault) ⊎ (why ≡ Faulted)
fails old new wanted why faulted fed (inl (inl e, same)) = inr (faulted e)
fails old new wanted why faulted fed (inl (inr e, same)) = absurd (fed (ap reply.Refused e))
fails old new wanted why faulted fed (inr broke) = inl broke.1.told

-- a hive that is there is not refused as missing
there : {A : Type 0} (xs : List A) (i : ℕ) → i < length xs → is_some (slice_get xs i) ≡ true
there [] i l = absurd (omega arith)
there (x ∷ xs) zero l = refl
there (x ∷ xs) (suc i) l = there xs i (omega arith)

by_hive : (f b : Bool) (why : Refusal) → b ≡ true → first_of (refused_if f Faulted) (cond b None (Some NotFound)) ≡ Some why → why ≡ Faulted
by_hive true b why t e = sym (cc e)
by_hive false true why t e = absurd (cc e)
by_hive false false why t e = absurd (cc t)

pub work_fails : (old new : Machine) (e : Event) (r : Reply) → IsWork old e → Step old e r new → ¬ (r ≡ reply.Refused NoMemory) → SteppedOrFailed r
work_fails old new event.JournalStep r w s fed = stepped_or (λ r. ¬ (r ≡ reply.Refused NoMemory) → SteppedOrFailed r) _ _ r s (λ p d g. tt) (λ why d g. fails old new _ why (by_fault old.faulted why) g d) fed
work_fails old new (event.FlusherStep hive) r w s fed = stepped_or (λ r. ¬ (r ≡ reply.Refused NoMemory) → SteppedOrFailed r) _ _ r s (λ p d g. tt) (λ why d g. fails old new _ why (by_hive old.faulted (is_some (slice_get old.opened hive)) why (there old.opened hive w)) g d) fed
work_fails old new event.TrimStep r w s fed = stepped_or (λ r. ¬ (r ≡ reply.Refused NoMemory) → SteppedOrFailed r) _ _ r s (λ p d g. tt) (λ why d g. fails old new _ why (by_fault old.faulted why) g d) fed
work_fails old new _ r w s fed = absurd w

pub work_kind : (old : Machine) (e : Event) → IsWork old e → is_step_kind (kind_of e) ≡ true
work_kind old event.JournalStep w = refl
work_kind old (event.FlusherStep hive) w = refl
work_kind old event.TrimStep w = refl
work_kind old _ w = absurd w

-- a step of the journal that was not made was refused since the device failed
pub journal_step_fails : (old new : Machine) (r : Reply) → Step old event.JournalStep r new → ¬ (r ≡ reply.Refused NoMemory) → SteppedOrFailed r
journal_step_fails old new r s fed = work_fails old new event.JournalStep r tt s fed

abbrev pub AckedOrFailed : ℕ → Machine → Reply → Type 0
AckedOrFailed number new (reply.Receipt told) = (told ≡ number) × (number ≤ new.durable)
AckedOrFailed number new reply.NotYet = Unit {0}
AckedOrFailed number new (reply.Refused why) = HasFailed (reply.Refused why)
AckedOrFailed number new _ = ⊥

-- the question whether a number is durable: it is, it isn't yet, or the store is faulted
pub acked_or_failed : (old new : Machine) (number : ℕ) (r : Reply) → Step old (event.Acked number) r new → AckedOrFailed number new r
acked_or_failed old new number r s = receipt_or (λ r. AckedOrFailed number new r) _ _ _ r s
    (λ told d. (d.0, subst (λ (m : Machine). number ≤ m.durable) (sym d.2) d.1))
    (λ d. tt)
    (λ why d. inr (by_fault old.faulted why d.1.0))
