-- What every step keeps: what was there at the opening, and what is durable. Which events accept a change, and that a
-- refusal for want of memory changes nothing.
use Rattle.std.proofs.Common.{◌≡◌, ◌≤◌, inl, inr, ℕ, ◌==◌, length, Bool, true, false, Option, cond, refl, sym, ◌∙◌, ap, subst, le_refl, arith}
use Rattle.refusals.specs.declared.refusal.Refusal.{Refusal}
use Rattle.refusals.specs.declared.refusal.Refusal.TheVariants.{NoMemory}
use Rattle.store_model.specs.Transactions.{Transaction}
use Rattle.store_model.specs.Machine.{Machine, is_open}
use Rattle.store_model.specs.Steps.{Step, StepFails, after_commit, is_fold, may_accept}
use Rattle.store_model.specs.declared.event.Event.{Event}
use Rattle.store_model.specs.declared.event.Event.TheVariants as event
use Rattle.store_model.specs.declared.event.Reply.{Reply}
use Rattle.store_model.specs.declared.event.Reply.TheVariants as reply
use Rattle.store_model.proofs.TreeCounts.{all_long}
use Rattle.store_model.proofs.Replies.{done_or, read_or, accepted_or, added_or, begun_or, awaits_or, outcome_or, committed_as_or, receipt_or, folded_or, stepped_or}

-- the trees, the number and the bounds of the opening are as before, and no durable number falls
abbrev Stays : Machine → Machine → Type 0
Stays old new = (new.opened ≡ old.opened) × (new.before ≡ old.before) × (new.bounds ≡ old.bounds) × (old.durable ≤ new.durable)

-- the bounds are as before, there are as many trees, and no durable number falls
abbrev StaysWide : Machine → Machine → Type 0
StaysWide old new = (new.bounds ≡ old.bounds) × (length new.opened ≡ length old.opened) × (old.durable ≤ new.durable)

-- no change is accepted, and nothing is committed
abbrev pub AcceptsNothing : Machine → Machine → Type 0
AcceptsNothing old new = (new.accepted ≡ old.accepted) × (new.commits ≡ old.commits)

module _ (old new : Machine) where
  -- a state in between has the opening, and what is durable, of the old one
  by_mid : (mid : Machine) → mid.opened ≡ old.opened → mid.before ≡ old.before → mid.bounds ≡ old.bounds → mid.durable ≡ old.durable → new ≡ mid → Stays old new
  by_mid mid trees number bounds durable e = (
    ap (λ (m : Machine). m.opened) e ∙ trees,
    ap (λ (m : Machine). m.before) e ∙ number,
    ap (λ (m : Machine). m.bounds) e ∙ bounds,
    subst (λ (n : ℕ). old.durable ≤ n) (sym (ap (λ (m : Machine). m.durable) e ∙ durable)) (le_refl old.durable),
  )

  same : new ≡ old → Stays old new
  same e = by_mid old refl refl refl refl e

  either_way : (t : Bool) (mid : Machine) → mid.opened ≡ old.opened → mid.before ≡ old.before → mid.bounds ≡ old.bounds → mid.durable ≡ old.durable → new ≡ cond t old mid → Stays old new
  either_way true mid trees number bounds durable e = same e
  either_way false mid trees number bounds durable e = by_mid mid trees number bounds durable e

  -- a commit accepts a change or none, and its transaction's slot changes
  opening : (t : Bool) (mid : Machine) → mid.opened ≡ old.opened → (cond t old mid).opened ≡ old.opened
  opening true mid e = refl
  opening false mid e = e

  number : (t : Bool) (mid : Machine) → mid.before ≡ old.before → (cond t old mid).before ≡ old.before
  number true mid e = refl
  number false mid e = e

  bounded : (t : Bool) (mid : Machine) → mid.bounds ≡ old.bounds → (cond t old mid).bounds ≡ old.bounds
  bounded true mid e = refl
  bounded false mid e = e

  lasting : (t : Bool) (mid : Machine) → mid.durable ≡ old.durable → (cond t old mid).durable ≡ old.durable
  lasting true mid e = refl
  lasting false mid e = e

  committed : (moment : ℕ) (one : Transaction) → new ≡ record (after_commit old moment one) { tx_slots = new.tx_slots } → Stays old new
  committed moment one e = by_mid _ (opening (length one.ops == 0) _ refl) (number (length one.ops == 0) _ refl) (bounded (length one.ops == 0) _ refl) (lasting (length one.ops == 0) _ refl) e

  fails : (wanted : Option Refusal) (why : Refusal) → StepFails old wanted why new → Stays old new
  fails wanted why (inl refused) = same refused.1
  fails wanted why (inr broke) = by_mid _ refl refl refl refl broke.1.next

  all_stays : (e : Event) (r : Reply) → is_fold e ≡ false → Step old e r new → Stays old new
  all_stays (event.StartSession session) r calm s = done_or (λ r. Stays old new) _ _ r s (λ d. either_way (is_open old session) _ refl refl refl refl d.1) (λ why f. same f.1)
  all_stays (event.EndSession session) r calm s = done_or (λ r. Stays old new) _ _ r s (λ d. by_mid _ refl refl refl refl d.next) (λ why f. same f.1)
  all_stays (event.Read session hive path question) r calm s = read_or (λ r. Stays old new) _ _ r s (λ v d. same d.next) (λ why f. same f.1)
  all_stays (event.Write session moment op) r calm s = accepted_or (λ r. Stays old new) _ _ _ r s (λ l n d. by_mid _ refl refl refl refl d.next) (λ o. same o.next) (λ why f. same f.1)
  all_stays (event.Begin session id) r calm s = begun_or (λ r. Stays old new) _ _ r s (λ t d. by_mid _ refl refl refl refl d.next) (λ why f. same f.1)
  all_stays (event.TxRead session tx hive path question) r calm s = read_or (λ r. Stays old new) _ _ r s (λ v d. same d.next) (λ why f. same f.1)
  all_stays (event.TxWrite session tx moment op) r calm s = added_or (λ r. Stays old new) _ _ _ r s (λ l d. by_mid _ refl refl refl refl d.1.1) (λ o. same o.2) (λ why f. same f.1)
  all_stays (event.CommitAccept session tx moment) r calm s = awaits_or (λ r. Stays old new) _ _ r s (λ n d. committed moment d.one d.next) (λ why f. same f.1)
  all_stays (event.Rollback session tx) r calm s = done_or (λ r. Stays old new) _ _ r s (λ d. by_mid _ refl refl refl refl d.1) (λ why f. same f.1)
  all_stays (event.Close session tx) r calm s = done_or (λ r. Stays old new) _ _ r s (λ d. by_mid _ refl refl refl refl d.1) (λ why f. same f.1)
  all_stays (event.Outcome session tx) r calm s = outcome_or (λ r. Stays old new) _ _ r s (λ o d. same d.next) (λ why f. same f.1)
  all_stays (event.OutcomeOf id) r calm s = committed_as_or (λ r. Stays old new) _ _ r s (λ n d. same d.next) (λ why f. same f.1)
  all_stays event.FlushAsk r calm s = awaits_or (λ r. Stays old new) _ _ r s (λ n d. same d.2) (λ why f. same f.1)
  all_stays (event.Acked number) r calm s = receipt_or (λ r. Stays old new) _ _ _ r s (λ n d. same d.2) (λ w. same w.2) (λ why f. same f.1.1)
  all_stays event.Fold r calm s = absurd cc
  all_stays event.JournalStep r calm s = stepped_or (λ r. Stays old new) _ _ r s (λ p d. (ap (λ (m : Machine). m.opened) d.next, ap (λ (m : Machine). m.before) d.next, ap (λ (m : Machine). m.bounds) d.next, d.grows)) (λ why f. fails _ why f)
  all_stays (event.FlusherStep hive) r calm s = stepped_or (λ r. Stays old new) _ _ r s (λ p d. same d.next) (λ why f. fails _ why f)
  all_stays event.TrimStep r calm s = stepped_or (λ r. Stays old new) _ _ r s (λ p d. by_mid _ refl refl refl refl d.next) (λ why f. fails _ why f)

  pub openings_stay : (e : Event) (r : Reply) → is_fold e ≡ false → Step old e r new → (new.opened ≡ old.opened) × (new.before ≡ old.before)
  openings_stay e r calm s = let stays = all_stays e r calm s in (stays.0, stays.1)

  widely : Stays old new → StaysWide old new
  widely stays = (stays.2, ap length stays.0, stays.3)

  pub bounds_stay : (e : Event) (r : Reply) → Step old e r new → (new.bounds ≡ old.bounds) × (length new.opened ≡ length old.opened) × (old.durable ≤ new.durable)
  bounds_stay event.Fold r s =
      folded_or (λ r. StaysWide old new) _ _ _ r s
      (λ n d. (ap (λ (m : Machine). m.bounds) d.next, ap (λ (m : Machine). length m.opened) d.next ∙ all_long old.opened old.accepted, omega (arith, ap (λ (m : Machine). m.durable) d.next)))
      (λ w. widely (same w.2)) (λ why f. widely (same f.1))
  bounds_stay e r s = widely (all_stays e r refl s)

  quiet : new ≡ old → AcceptsNothing old new
  quiet e = (ap (λ (m : Machine). m.accepted) e, ap (λ (m : Machine). m.commits) e)

  quiet_by : (mid : Machine) → mid.accepted ≡ old.accepted → mid.commits ≡ old.commits → new ≡ mid → AcceptsNothing old new
  quiet_by mid accepted commits e = (ap (λ (m : Machine). m.accepted) e ∙ accepted, ap (λ (m : Machine). m.commits) e ∙ commits)

  with_or_without : (t : Bool) (mid : Machine) → mid.accepted ≡ old.accepted → mid.commits ≡ old.commits → new ≡ cond t old mid → AcceptsNothing old new
  with_or_without true mid accepted commits e = quiet e
  with_or_without false mid accepted commits e = quiet_by mid accepted commits e

  fails_quietly : (wanted : Option Refusal) (why : Refusal) → StepFails old wanted why new → AcceptsNothing old new
  fails_quietly wanted why (inl refused) = quiet refused.1
  fails_quietly wanted why (inr broke) = quiet_by _ refl refl broke.1.next

  pub others_accept_nothing : (e : Event) (r : Reply) → may_accept e ≡ false → is_fold e ≡ false → Step old e r new → AcceptsNothing old new
  others_accept_nothing (event.StartSession session) r calm stays s = done_or (λ r. AcceptsNothing old new) _ _ r s (λ d. with_or_without (is_open old session) _ refl refl d.1) (λ why f. quiet f.1)
  others_accept_nothing (event.EndSession session) r calm stays s = done_or (λ r. AcceptsNothing old new) _ _ r s (λ d. quiet_by _ refl refl d.next) (λ why f. quiet f.1)
  others_accept_nothing (event.Read session hive path question) r calm stays s = read_or (λ r. AcceptsNothing old new) _ _ r s (λ v d. quiet d.next) (λ why f. quiet f.1)
  others_accept_nothing (event.Write session moment op) r calm stays s = absurd cc
  others_accept_nothing (event.Begin session id) r calm stays s = begun_or (λ r. AcceptsNothing old new) _ _ r s (λ t d. quiet_by _ refl refl d.next) (λ why f. quiet f.1)
  others_accept_nothing (event.TxRead session tx hive path question) r calm stays s = read_or (λ r. AcceptsNothing old new) _ _ r s (λ v d. quiet d.next) (λ why f. quiet f.1)
  others_accept_nothing (event.TxWrite session tx moment op) r calm stays s = added_or (λ r. AcceptsNothing old new) _ _ _ r s (λ l d. quiet_by _ refl refl d.1.1) (λ o. quiet o.2) (λ why f. quiet f.1)
  others_accept_nothing (event.CommitAccept session tx moment) r calm stays s = absurd cc
  others_accept_nothing (event.Rollback session tx) r calm stays s = done_or (λ r. AcceptsNothing old new) _ _ r s (λ d. quiet_by _ refl refl d.1) (λ why f. quiet f.1)
  others_accept_nothing (event.Close session tx) r calm stays s = done_or (λ r. AcceptsNothing old new) _ _ r s (λ d. quiet_by _ refl refl d.1) (λ why f. quiet f.1)
  others_accept_nothing (event.Outcome session tx) r calm stays s = outcome_or (λ r. AcceptsNothing old new) _ _ r s (λ o d. quiet d.next) (λ why f. quiet f.1)
  others_accept_nothing (event.OutcomeOf id) r calm stays s = committed_as_or (λ r. AcceptsNothing old new) _ _ r s (λ n d. quiet d.next) (λ why f. quiet f.1)
  others_accept_nothing event.FlushAsk r calm stays s = awaits_or (λ r. AcceptsNothing old new) _ _ r s (λ n d. quiet d.2) (λ why f. quiet f.1)
  others_accept_nothing (event.Acked number) r calm stays s = receipt_or (λ r. AcceptsNothing old new) _ _ _ r s (λ n d. quiet d.2) (λ w. quiet w.2) (λ why f. quiet f.1.1)
  others_accept_nothing event.Fold r calm stays s = absurd cc
  others_accept_nothing event.JournalStep r calm stays s = stepped_or (λ r. AcceptsNothing old new) _ _ r s (λ p d. quiet_by _ refl refl d.next) (λ why f. fails_quietly _ why f)
  others_accept_nothing (event.FlusherStep hive) r calm stays s = stepped_or (λ r. AcceptsNothing old new) _ _ r s (λ p d. quiet d.next) (λ why f. fails_quietly _ why f)
  others_accept_nothing event.TrimStep r calm stays s = stepped_or (λ r. AcceptsNothing old new) _ _ r s (λ p d. quiet_by _ refl refl d.next) (λ why f. fails_quietly _ why f)

  -- the device's failure is another refusal
  no_fault : (wanted : Option Refusal) → StepFails old wanted NoMemory new → new ≡ old
  no_fault wanted (inl refused) = refused.1
  no_fault wanted (inr broke) = let told = broke.1.told in absurd cc

  pub no_memory_changes_nothing : (e : Event) → Step old e (reply.Refused NoMemory) new → new ≡ old
  no_memory_changes_nothing (event.StartSession session) s = s.1
  no_memory_changes_nothing (event.EndSession session) s = s.1
  no_memory_changes_nothing (event.Read session hive path question) s = s.1
  no_memory_changes_nothing (event.Write session moment op) s = s.1
  no_memory_changes_nothing (event.Begin session id) s = s.1
  no_memory_changes_nothing (event.TxRead session tx hive path question) s = s.1
  no_memory_changes_nothing (event.TxWrite session tx moment op) s = s.1
  no_memory_changes_nothing (event.CommitAccept session tx moment) s = s.1
  no_memory_changes_nothing (event.Rollback session tx) s = s.1
  no_memory_changes_nothing (event.Close session tx) s = s.1
  no_memory_changes_nothing (event.Outcome session tx) s = s.1
  no_memory_changes_nothing (event.OutcomeOf id) s = s.1
  no_memory_changes_nothing event.FlushAsk s = s.1
  no_memory_changes_nothing (event.Acked number) s = s.1.1
  no_memory_changes_nothing event.Fold s = s.1
  no_memory_changes_nothing event.JournalStep s = no_fault _ s
  no_memory_changes_nothing (event.FlusherStep hive) s = no_fault _ s
  no_memory_changes_nothing event.TrimStep s = no_fault _ s
