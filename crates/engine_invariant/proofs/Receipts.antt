-- What has a receipt is durable from then on.
use Rattle.std.proofs.Common.{◌≡◌, ◌⊎◌, inl, inr, ℕ, ◌≤◌, List, [], ◌∷◌, refl, ap, subst, arith, Option}
use Rattle.std.specs.List.{AllByRecursion}
use Rattle.refusals.specs.declared.refusal.Refusal.{Refusal}
use Rattle.store_model.specs.Machine.{Machine}
use Rattle.store_model.specs.Steps.{Step, StepFails, Run}
use Rattle.store_model.specs.Invariant.{InvariantHolds, JournalStateStays, AcceptsOneChange}
use Rattle.store_model.specs.declared.event.Event.{Event}
use Rattle.store_model.specs.declared.event.Event.TheVariants as event
use Rattle.store_model.specs.declared.event.Reply.{Reply}
use Rattle.store_model.specs.declared.event.Reply.TheVariants as reply
use Rattle.store_model.proofs.Replies.{folded_or, stepped_or}
use Rattle.engine_invariant.specs.Runs.{ReceiptIsDurable}
use Rattle.engine_invariant.proofs.Accepting.{Keeps, Settle}

-- No durable number falls

no_change : (old new : Machine) → new ≡ old → old.durable ≤ new.durable
no_change old new e = omega (arith, ap (λ (m : Machine). m.durable) e)

non_step : (old new : Machine) → JournalStateStays old new ⊎ AcceptsOneChange old new → old.durable ≤ new.durable
non_step old new (inl s) = omega (arith, s.durable)
non_step old new (inr g) = omega (arith, g.durable)

fails : (old new : Machine) (wanted : Option Refusal) (why : Refusal) → StepFails old wanted why new → old.durable ≤ new.durable
fails old new wanted why (inl r) = no_change old new r.1
fails old new wanted why (inr b) = omega (arith, ap (λ (m : Machine). m.durable) b.1.next)

module _ (settle : Settle) (old new : Machine) (k : InvariantHolds old) where
  abbrev Rises : Reply → Type 0
  Rises r = old.durable ≤ new.durable

  rises : (e : Event) (r : Reply) → Step old e r new → old.durable ≤ new.durable
  rises event.Fold r s = folded_or Rises _ _ _ r s (λ n d. omega (arith, ap (λ (m : Machine). m.durable) d.next)) (λ d. no_change old new d.2) (λ why f. no_change old new f.1)
  rises event.JournalStep r s = stepped_or Rises _ _ r s (λ p d. d.grows) (λ why f. fails old new _ why f)
  rises (event.FlusherStep hive) r s = stepped_or Rises _ _ r s (λ p d. no_change old new d.next) (λ why f. fails old new _ why f)
  rises event.TrimStep r s = stepped_or Rises _ _ r s (λ p d. omega (arith, ap (λ (m : Machine). m.durable) d.next)) (λ why f. fails old new _ why f)
  rises (event.StartSession session) r s = non_step old new (settle old new (event.StartSession session) r k refl s)
  rises (event.EndSession session) r s = non_step old new (settle old new (event.EndSession session) r k refl s)
  rises (event.Read session hive path question) r s = non_step old new (settle old new (event.Read session hive path question) r k refl s)
  rises (event.Write session moment op) r s = non_step old new (settle old new (event.Write session moment op) r k refl s)
  rises (event.Begin session id) r s = non_step old new (settle old new (event.Begin session id) r k refl s)
  rises (event.TxRead session tx hive path question) r s = non_step old new (settle old new (event.TxRead session tx hive path question) r k refl s)
  rises (event.TxWrite session tx moment op) r s = non_step old new (settle old new (event.TxWrite session tx moment op) r k refl s)
  rises (event.CommitAccept session tx moment) r s = non_step old new (settle old new (event.CommitAccept session tx moment) r k refl s)
  rises (event.Rollback session tx) r s = non_step old new (settle old new (event.Rollback session tx) r k refl s)
  rises (event.Close session tx) r s = non_step old new (settle old new (event.Close session tx) r k refl s)
  rises (event.Outcome session tx) r s = non_step old new (settle old new (event.Outcome session tx) r k refl s)
  rises (event.OutcomeOf id) r s = non_step old new (settle old new (event.OutcomeOf id) r k refl s)
  rises event.FlushAsk r s = non_step old new (settle old new event.FlushAsk r k refl s)
  rises (event.Acked number) r s = non_step old new (settle old new (event.Acked number) r k refl s)

-- Only Acked is answered with a receipt, of a durable number

held_then : (old new : Machine) (e : Event) (n : ℕ) → Step old e (reply.Receipt n) new → n ≤ new.durable
held_then old new (event.Acked number) n s = omega (arith, s.0, s.1, ap (λ (m : Machine). m.durable) s.2)
held_then old new (event.StartSession session) n s = absurd s
held_then old new (event.EndSession session) n s = absurd s
held_then old new (event.Read session hive path question) n s = absurd s
held_then old new (event.Write session moment op) n s = absurd s
held_then old new (event.Begin session id) n s = absurd s
held_then old new (event.TxRead session tx hive path question) n s = absurd s
held_then old new (event.TxWrite session tx moment op) n s = absurd s
held_then old new (event.CommitAccept session tx moment) n s = absurd s
held_then old new (event.Rollback session tx) n s = absurd s
held_then old new (event.Close session tx) n s = absurd s
held_then old new (event.Outcome session tx) n s = absurd s
held_then old new (event.OutcomeOf id) n s = absurd s
held_then old new event.FlushAsk n s = absurd s
held_then old new event.Fold n s = absurd s
held_then old new event.JournalStep n s = absurd s
held_then old new (event.FlusherStep hive) n s = absurd s
held_then old new event.TrimStep n s = absurd s

-- what holds of the number of a receipt holds of a reply
by_reply : (b : ℕ) (r : Reply) → ((n : ℕ) → r ≡ reply.Receipt n → n ≤ b) → ReceiptIsDurable b r
by_reply b (reply.Receipt n) f = f n refl
by_reply b reply.Done f = tt
by_reply b (reply.Folded number) f = tt
by_reply b (reply.Accepted levels number) f = tt
by_reply b (reply.Added levels) f = tt
by_reply b reply.Opened f = tt
by_reply b (reply.Read found) f = tt
by_reply b (reply.Begun tx) f = tt
by_reply b (reply.Awaits number) f = tt
by_reply b (reply.OutcomeIs outcome) f = tt
by_reply b (reply.CommittedAs number) f = tt
by_reply b reply.NotYet f = tt
by_reply b (reply.Stepped progress) f = tt
by_reply b (reply.Refused why) f = tt

held : (old mid new : Machine) (e : Event) (r : Reply) → Step old e r mid → mid.durable ≤ new.durable → ReceiptIsDurable new.durable r
held old mid new e r s le = by_reply new.durable r (λ n is. let low = held_then old mid e n (subst (λ x. Step old e x mid) is s) in omega (arith, low, le))

pub all_held : Settle → Keeps → (old new : Machine) (es : List Event) (rs : List Reply) → InvariantHolds old → Run old es rs new → (old.durable ≤ new.durable) × AllByRecursion (ReceiptIsDurable new.durable) rs
all_held settle keeps old new [] [] k run = (no_change old new run, tt)
all_held settle keeps old new [] (r ∷ rs) k run = absurd run
all_held settle keeps old new (e ∷ es) [] k run = absurd run
all_held settle keeps old new (e ∷ es) (r ∷ rs) k (mid, step, rest) =
    let on = all_held settle keeps mid new es rs (keeps old mid e r k step) rest in
    let up = rises settle old mid k e r step in
    (omega (arith, on.0, up), (held old mid new e r step on.0, on.1))
