-- A wait for a change accepts none, and ends when it is durable.
use Rattle.std.proofs.Common.{inl, inr, ◌≡◌, ℕ, ◌≤◌, List, [], ◌∷◌, Option, Some, None, sym, ◌∙◌, ap, subst}
use Rattle.refusals.specs.declared.refusal.Refusal.{Refusal}
use Rattle.disk_model.specs.declared.progress.Progress.{Progress}
use Rattle.reg_tree.specs.declared.op.Op.{Op}
use Rattle.store_model.specs.Machine.{Machine}
use Rattle.store_model.specs.Steps.{Step, Run}
use Rattle.store_model.specs.declared.event.Event.TheVariants.{Acked, JournalStep}
use Rattle.store_model.specs.declared.event.Reply.TheVariants.{NotYet, Stepped, Refused}
use Rattle.store_driver.specs.Waits.{IsWaited, Waits}
use Rattle.store_change.specs.Commits.{AcceptsOps, FailsToCommit, KeepsAccepted, number_of}
use Rattle.store_change.proofs.Transacting.{keeps_same, keeps_on}

-- a step of the journal accepts nothing, whether it is made or refused
made_keeps : (old new : Machine) (progress : Progress) → Step old JournalStep (Stepped progress) new → KeepsAccepted old new
made_keeps old new progress step = record { opened = ap (λ (m : Machine). m.opened) step.next; before = ap (λ (m : Machine). m.before) step.next; accepted = ap (λ (m : Machine). m.accepted) step.next; bounds = ap (λ (m : Machine). m.bounds) step.next }

refused_keeps : (old new : Machine) (why : Refusal) → Step old JournalStep (Refused why) new → KeepsAccepted old new
refused_keeps old new why (inl refuses) = keeps_same old new refuses.1
refused_keeps old new why (inr fails) = record { opened = ap (λ (m : Machine). m.opened) fails.1.next; before = ap (λ (m : Machine). m.before) fails.1.next; accepted = ap (λ (m : Machine). m.accepted) fails.1.next; bounds = ap (λ (m : Machine). m.bounds) fails.1.next }

-- a question accepts nothing
pair_keeps : (old next : Machine) (number : ℕ) (progress : Progress) → Run old (Acked number ∷ JournalStep ∷ []) (NotYet ∷ Stepped progress ∷ []) next → KeepsAccepted old next
pair_keeps old next number progress run =
    keeps_on old run.0 next (keeps_same old run.0 run.1.2) (keeps_on run.0 run.2.0 next (made_keeps run.0 run.2.0 progress run.2.1) (keeps_same run.2.0 next run.2.2))

waits_keep : (steps : List Progress) (old : Machine) (number : ℕ) (ended : Option Refusal) (new : Machine) → Waits steps old number ended new → KeepsAccepted old new
waits_keep (progress ∷ steps) old number ended new waits = keeps_on old waits.0 new (pair_keeps old waits.0 number progress waits.1) (waits_keep steps waits.0 number ended new waits.2)
waits_keep [] old number None new waits = keeps_on old waits.0 new (keeps_same old waits.0 waits.1.2) (keeps_same waits.0 new waits.2)
waits_keep [] old number (Some why) new (inl asked) = keeps_on old asked.0 new (keeps_same old asked.0 asked.1.1.1) (keeps_same asked.0 new asked.2)
waits_keep [] old number (Some why) new (inr stepped) =
    keeps_on old stepped.0 new (keeps_same old stepped.0 stepped.1.2) (keeps_on stepped.0 stepped.2.0 new (refused_keeps stepped.0 stepped.2.0 why stepped.2.1) (keeps_same stepped.2.0 new stepped.2.2))

pub waited_keeps : (old : Machine) (number : ℕ) (ended : Option Refusal) (new : Machine) → IsWaited old number ended new → KeepsAccepted old new
waited_keeps old number ended new waited = waits_keep waited.0 old number ended new waited.1

waits_durable : (steps : List Progress) (old : Machine) (number : ℕ) (new : Machine) → Waits steps old number None new → number ≤ new.durable
waits_durable (progress ∷ steps) old number new waits = waits_durable steps waits.0 number new waits.2
waits_durable [] old number new waits = subst (λ (m : Machine). number ≤ m.durable) (sym (waits.2 ∙ waits.1.2)) waits.1.1

pub waited_durable : (old : Machine) (number : ℕ) (new : Machine) → IsWaited old number None new → number ≤ new.durable
waited_durable old number new waited = waits_durable waited.0 old number new waited.1

-- what was accepted before the wait is accepted after it
pub accepts_on : (first old new : Machine) (id : List ℕ) (moment : ℕ) (ops : List Op) → AcceptsOps first id moment ops old → KeepsAccepted old new → AcceptsOps first id moment ops new
accepts_on first old new id moment ops accepts keeps = record { opened = keeps.opened ∙ accepts.opened; before = keeps.before ∙ accepts.before; accepted = keeps.accepted ∙ accepts.accepted; bounds = keeps.bounds ∙ accepts.bounds }

-- a change was accepted, and the wait for it was refused
pub wait_stops : (first old new : Machine) (id : List ℕ) (moment number : ℕ) (ops : List Op) (why : Refusal) → AcceptsOps first id moment ops old → number ≡ number_of first ops → IsWaited old number (Some why) new → FailsToCommit first id moment ops why new
wait_stops first old new id moment number ops why accepts numbered waited =
    inr (accepts_on first old new id moment ops accepts (waited_keeps old number (Some why) new waited), (old, accepts, subst (λ (n : ℕ). IsWaited old n (Some why) new) numbered waited))
