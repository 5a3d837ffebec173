-- What histories that grow keep.
use Rattle.std.proofs.Common.{◌≡◌, ℕ, ◌+◌, ◌<◌, ◌≤◌, true, List, [], ◌∷◌, ◌++◌, map, refl, ap, sym, subst, ◌∙◌, arith, append_assoc, le_refl, ◌⊎◌, ⊎_elim, inl, inr}
use Rattle.std.proofs.lemmas.Bool.Decides.{nat_tests}
use mathlib.Core.List.{IsPrefix}
use Rattle.refusals.specs.declared.refusal.Refusal.{Refusal}
use Rattle.refusals.specs.declared.refusal.Refusal.TheVariants.{DiskFault}
use Rattle.store_model.specs.Machine.{Machine, is_of_device}
use Rattle.store_model.specs.Steps.{Run, Step}
use Rattle.store_model.specs.declared.event.Reply.{Reply}
use Rattle.store_model.specs.declared.event.Reply.TheVariants.{Refused}
use Rattle.store_model.proofs.Accepting.{bounds_stay}
use Rattle.store_model.proofs.Failing.{faults, told_faulted}
use Rattle.engine_invariant.specs.Engines.{EngineView}
use Rattle.histories.specs.Points.{HistoryEntry}
use Rattle.histories.specs.Histories.{AreSafe, Continues, HasBoundary, IsHistory, end_of}

-- the end of a history that goes on
pub end_append : (from : EngineView) (xs ys : List HistoryEntry) → end_of from (xs ++ ys) ≡ end_of (end_of from xs) ys
end_append from [] ys = refl
end_append from (x ∷ xs) ys = end_append x.after xs ys

pub history_append : (from : EngineView) (xs ys : List HistoryEntry) → IsHistory from xs → IsHistory (end_of from xs) ys → IsHistory from (xs ++ ys)
history_append from [] ys h k = k
history_append from (x ∷ xs) ys h k = (h.0, history_append x.after xs ys h.1 k)

pub history_first : (from : EngineView) (xs ys : List HistoryEntry) → IsHistory from (xs ++ ys) → IsHistory from xs
history_first from [] ys h = tt
history_first from (x ∷ xs) ys h = (h.0, history_first x.after xs ys h.1)

pub history_rest : (from : EngineView) (xs ys : List HistoryEntry) → IsHistory from (xs ++ ys) → IsHistory (end_of from xs) ys
history_rest from [] ys h = h
history_rest from (x ∷ xs) ys h = history_rest x.after xs ys h.1

-- one event more
pub history_with : (from : EngineView) (xs : List HistoryEntry) (x : HistoryEntry) → IsHistory from xs → Continues (end_of from xs) x → IsHistory from (xs ++ x ∷ [])
history_with from xs x h k = history_append from xs (x ∷ []) h (k, tt)

pub end_with : (from : EngineView) (xs : List HistoryEntry) (x : HistoryEntry) → end_of from (xs ++ x ∷ []) ≡ x.after
end_with from xs x = end_append from xs (x ∷ [])

-- time goes on
pub clock_grows : (from : EngineView) (xs : List HistoryEntry) → IsHistory from xs → from.clock ≤ (end_of from xs).clock
clock_grows from [] h = le_refl from.clock
clock_grows from (x ∷ xs) h = omega (arith, h.0.later, clock_grows x.after xs h.1)

-- what is durable stays so
pub durable_grows : (from : EngineView) (xs : List HistoryEntry) → IsHistory from xs → from.machine.durable ≤ (end_of from xs).machine.durable
durable_grows from [] h = le_refl from.machine.durable
durable_grows from (x ∷ xs) h =
    let now = bounds_stay from.machine x.after.machine x.event x.reply h.0.step in
    omega (arith, now.2, durable_grows x.after xs h.1)

pub durable_stays : (from : EngineView) (xs ys : List HistoryEntry) → IsHistory from ys → IsPrefix xs ys → (end_of from xs).machine.durable ≤ (end_of from ys).machine.durable
durable_stays from xs ys h p =
    let P : List HistoryEntry → Type 0 = λ zs. IsHistory from zs → (end_of from xs).machine.durable ≤ (end_of from zs).machine.durable in
    subst P p.1 (λ k. rw (end_append from xs p.0) (durable_grows (end_of from xs) p.0 (history_rest from xs p.0 k))) h

-- what is safe stays so in a later view of the same past
pub safe_kept : (s t : ℕ → Machine → Type 0) (from : EngineView) (xs : List HistoryEntry) (now : ℕ) → IsHistory from xs → (end_of from xs).clock ≤ now
    → ((k : ℕ) (m : Machine) → k ≤ now → s k m → t k m) → AreSafe s from xs → AreSafe t from xs
safe_kept s t from [] now h le kept a = kept from.clock from.machine le a
safe_kept s t from (x ∷ xs) now h le kept a =
    let later = clock_grows x.after xs h.1 in
    (kept from.clock from.machine (omega (arith, h.0.later, later, le)) a.0, safe_kept s t x.after xs now h.1 le kept a.1)

pub safe_with : (s : ℕ → Machine → Type 0) (from : EngineView) (xs : List HistoryEntry) (x : HistoryEntry) → AreSafe s from xs → s x.after.clock x.after.machine → AreSafe s from (xs ++ x ∷ [])
safe_with s from [] x a k = (a, k)
safe_with s from (y ∷ xs) x a k = (a.0, safe_with s y.after xs x a.1 k)

pub safe_rest : (s : ℕ → Machine → Type 0) (from : EngineView) (xs ys : List HistoryEntry) → AreSafe s from (xs ++ ys) → AreSafe s (end_of from xs) ys
safe_rest s from [] ys a = a
safe_rest s from (x ∷ xs) ys a = safe_rest s x.after xs ys a.1

pub safe_end : (s : ℕ → Machine → Type 0) (from : EngineView) (xs : List HistoryEntry) → AreSafe s from xs → s (end_of from xs).clock (end_of from xs).machine
safe_end s from [] a = a
safe_end s from (x ∷ xs) a = safe_end s x.after xs a.1

here_or_on : (a b k : ℕ) → a ≤ k → a ≤ b → b ≤ a + 1 → (a ≡ k) ⊎ (b ≤ k)
here_or_on a b k low later one = grind (arith, nat_tests)

-- each moment is that of a boundary, and safe there
pub each_moment : (s : ℕ → Machine → Type 0) (from : EngineView) (first history : List HistoryEntry) (k : ℕ) → IsHistory from history → AreSafe s from history → first ≡ [] → from.clock ≤ k → k ≤ (end_of from history).clock → HasBoundary s from first history k
each_moment s from first [] k h a is low high =
    let now : from.clock ≡ k = omega (arith, low, high) in
    record { more = []; rest = []; there = rw is refl; at = rw is now; holds = rw (is, ← now) a }
each_moment s from first (x ∷ xs) k h a is low high =
    ⊎_elim
    (λ (now : from.clock ≡ k). record { more = []; rest = x ∷ xs; there = rw is refl; at = rw is now; holds = rw (is, ← now) a.0 })
    (λ (on : x.after.clock ≤ k).
    let b = each_moment s x.after [] xs k h.1 a.1 refl on high in
    record { more = x ∷ b.more; rest = b.rest; there = rw is (ap (λ (w : List HistoryEntry). x ∷ w) b.there); at = rw is b.at; holds = rw is b.holds })
    (here_or_on from.clock x.after.clock k low h.0.later h.0.one)

-- The same from a beginning on: a moment from its end on is that of a boundary that isn't before it.
pub moment_after : (s : ℕ → Machine → Type 0) (from : EngineView) (first history : List HistoryEntry) (k : ℕ) → IsHistory from history → AreSafe s from history → IsPrefix first history → (end_of from first).clock ≤ k → k ≤ (end_of from history).clock → HasBoundary s from first history k
moment_after s from first history k h a p low high =
    let whole : first ++ p.0 ≡ history = p.1 in
    let run : IsHistory from (first ++ p.0) = subst (λ (w : List HistoryEntry). IsHistory from w) (sym whole) h in
    let safe : AreSafe s from (first ++ p.0) = subst (λ (w : List HistoryEntry). AreSafe s from w) (sym whole) a in
    let on : (end_of from history) ≡ end_of (end_of from first) p.0 = ap (end_of from) (sym whole) ∙ end_append from first p.0 in
    let b = each_moment s (end_of from first) [] p.0 k (history_rest from first p.0 run) (safe_rest s from first p.0 safe) refl low (omega (arith, high, ap (λ (w : EngineView). w.clock) on)) in
    let here : end_of from (first ++ b.more) ≡ end_of (end_of from first) b.more = end_append from first b.more in
    record {
      more = b.more;
      rest = b.rest;
      there = sym whole ∙ (ap (λ (w : List HistoryEntry). first ++ w) b.there ∙ sym (append_assoc first b.more b.rest));
      at = ap (λ (w : EngineView). w.clock) here ∙ b.at;
      holds = rw here b.holds;
    }

-- Failures

told_fault : (r : Reply) → (r ≡ Refused DiskFault) ⊎ (r ≡ Refused DiskFault → ⊥)
told_fault (Refused DiskFault) = inl refl
told_fault (Refused _) = inr (λ e. cc)
told_fault _ = inr (λ e. cc)

failed_or_not : (from : EngineView) (x : HistoryEntry) → Continues from x → from.failures ≤ x.after.failures
failed_or_not from x h = elim (told_fault x.reply) [
  | inl is ↦ (let rose = h.failed is in omega (arith, rose))
  | inr other ↦ (let same = h.works other in omega (arith, same))
]

-- failures are counted on
pub failures_grow : (from : EngineView) (xs : List HistoryEntry) → IsHistory from xs → from.failures ≤ (end_of from xs).failures
failures_grow from [] h = le_refl from.failures
failures_grow from (x ∷ xs) h = omega (arith, failed_or_not from x h.0, failures_grow x.after xs h.1)

-- a store is faulted only if it was at the start, or the device has failed since
pub faulted_since : (from : EngineView) (xs : List HistoryEntry) → IsHistory from xs → (end_of from xs).machine.faulted ≡ true → (from.machine.faulted ≡ true) ⊎ (from.failures < (end_of from xs).failures)
faulted_since from [] h is = inl is
faulted_since from (x ∷ xs) h is =
    let more = failures_grow x.after xs h.1 in
    elim (faulted_since x.after xs h.1 is) [
      | inl then ↦ elim (faults from.machine x.after.machine x.event x.reply h.0.step) [
        | inl same ↦ inl (sym same ∙ then)
        | inr broke ↦ inr (let rose = h.0.failed broke.0 in let all : from.failures < (end_of x.after xs).failures = omega (arith, rose, more) in all)
      ]
      | inr rose ↦ inr (let first = failed_or_not from x h.0 in let all : from.failures < (end_of x.after xs).failures = omega (arith, first, rose) in all)
    ]

-- a refusal about the device is told only if the store was faulted at the start, or the device has failed since
pub fault_told : (start : EngineView) (past rest : List HistoryEntry) (x : HistoryEntry) (why : Refusal) → IsHistory start (past ++ x ∷ rest) → x.reply ≡ Refused why → is_of_device why ≡ true → (start.machine.faulted ≡ true) ⊎ (start.failures < (end_of start (past ++ x ∷ rest)).failures)
fault_told start [] rest x why h told about =
    let more = failures_grow x.after rest h.1 in
    let step = subst (λ (r : Reply). Step start.machine x.event r x.after.machine) told h.0.step in
    elim (faults start.machine x.after.machine x.event x.reply h.0.step) [
      | inl same ↦ inl (sym same ∙ told_faulted start.machine x.after.machine why about x.event step)
      | inr broke ↦ inr (let rose = h.0.failed broke.0 in let all : start.failures < (end_of x.after rest).failures = omega (arith, rose, more) in all)
    ]
fault_told start (y ∷ past) rest x why h told about =
    let more = failures_grow y.after (past ++ x ∷ rest) h.1 in
    elim (fault_told y.after past rest x why h.1 told about) [
      | inl was ↦ elim (faults start.machine y.after.machine y.event y.reply h.0.step) [
        | inl same ↦ inl (sym same ∙ was)
        | inr broke ↦ inr (let rose = h.0.failed broke.0 in let all : start.failures < (end_of y.after (past ++ x ∷ rest)).failures = omega (arith, rose, more) in all)
      ]
      | inr rose ↦ inr (let first = failed_or_not start y h.0 in let all : start.failures < (end_of y.after (past ++ x ∷ rest)).failures = omega (arith, first, rose) in all)
    ]

-- a history is a run of the machine
pub run_of : (from : EngineView) (xs : List HistoryEntry) → IsHistory from xs → Run from.machine (map (λ x. x.event) xs) (map (λ x. x.reply) xs) (end_of from xs).machine
run_of from [] h = refl
run_of from (x ∷ xs) h = (x.after.machine, h.0.step, run_of x.after xs h.1)
