-- Which replies an event may have.
use Rattle.std.proofs.Common.{◌≡◌, ℕ, List, refl}
use Rattle.store_model.specs.Machine.{Machine}
use Rattle.store_model.specs.Steps.{Step}
use Rattle.store_model.specs.declared.handle.Tx.{Tx}
use Rattle.store_model.specs.declared.event.Event.TheVariants as event
use Rattle.store_model.specs.declared.event.Reply.{Reply}
use Rattle.store_model.specs.declared.event.Reply.TheVariants as reply
use Rattle.store_model.proofs.Replies.{awaits_or, begun_or, outcome_or}
use Rattle.ktm_calls.specs.Moments.{AwaitsOrRefused, IsAwaited}
use Rattle.ktm_calls.specs.Denials.{IsRefusal}

pub flush_awaits : IsAwaited event.FlushAsk
flush_awaits old new r s = awaits_or (λ r. AwaitsOrRefused r) _ _ r s (λ n d. tt) (λ why d. tt)

pub commit_awaits : (session : ℕ) (tx : Tx) (moment : ℕ) → IsAwaited (event.CommitAccept session tx moment)
commit_awaits session tx moment old new r s = awaits_or (λ r. AwaitsOrRefused r) _ _ r s (λ n d. tt) (λ why d. tt)

abbrev pub IsBegun : Reply → Type 0
IsBegun (reply.Begun tx) = Unit {0}
IsBegun _ = ⊥

pub begun_only : (old new : Machine) (session : ℕ) (id : List ℕ) (r : Reply) → Step old (event.Begin session id) r new → ¬ (IsRefusal r) → IsBegun r
begun_only old new session id r s granted = begun_or (λ r. ¬ (IsRefusal r) → IsBegun r) _ _ r s (λ tx d g. tt) (λ why d g. absurd (g tt)) granted

abbrev pub IsOutcome : Reply → Type 0
IsOutcome (reply.OutcomeIs outcome) = Unit {0}
IsOutcome _ = ⊥

pub outcome_only : (old new : Machine) (session : ℕ) (tx : Tx) (r : Reply) → Step old (event.Outcome session tx) r new → ¬ (IsRefusal r) → IsOutcome r
outcome_only old new session tx r s granted = outcome_or (λ r. ¬ (IsRefusal r) → IsOutcome r) _ _ r s (λ o d g. tt) (λ why d g. absurd (g tt)) granted

-- a reply to an awaited event that is no number is a refusal
pub refused_unless : (r : Reply) → AwaitsOrRefused r → ((n : ℕ) → r ≡ reply.Awaits n → ⊥) → IsRefusal r
refused_unless (reply.Awaits n) a never = absurd (never n refl)
refused_unless (reply.Refused why) a never = tt
refused_unless _ a never = absurd a
