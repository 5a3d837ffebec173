-- What was seen goes on.
use Rattle.std.specs.Prelude.{OnErr}
use Rattle.std.proofs.Common.{◌≡◌, ◌∙◌, ◌≤◌, ◌+◌, ℕ, Result, Ok, Err, length, length-append, arith, cond, Bool, true, false, List, [], ◌∷◌, ◌++◌, ◌⊎◌, inl, inr, refl, ap}
use Rattle.published_trees.proofs.Prefixes.{prefix_self, prefix_trans}
use Rattle.histories.specs.Asked.{asked_in, is_asked}
use Rattle.engine_invariant.specs.Engines.{EngineView}
use Rattle.histories.specs.Points.{HistoryEntry, entry_of}
use Rattle.histories.proofs.Asked.{asked_none, asked_one, asked_same}
use mathlib.Core.List.{IsPrefix}
use Rattle.refusals.specs.declared.refusal.Refusal.TheVariants.{NoMemory}
use Rattle.store_model.specs.declared.event.Reply.TheVariants.{Refused}
use Rattle.store_model.specs.declared.event.Event.{Event}
use Rattle.ktm_calls.specs.Moments.{AddsAtMost, AsksAtMost, SeesMore, SeesSteps, Sight}

pub seen_self : (s : Sight) → SeesMore s s
seen_self s = record { list = prefix_self s.list; history = prefix_self s.history }

pub seen_trans : (a b c : Sight) → SeesMore a b → SeesMore b c → SeesMore a c
seen_trans a b c p q = record { list = prefix_trans a.list b.list c.list p.list q.list; history = prefix_trans a.history b.history c.history p.history q.history }

-- The same by steps alone.

pub steps_self : (sole : Bool) (s : Sight) → SeesSteps sole s s
steps_self sole s = record { more = seen_self s; same = refl; alone = λ _. refl }

pub steps_trans : (sole : Bool) (a b c : Sight) → SeesSteps sole a b → SeesSteps sole b c → SeesSteps sole a c
steps_trans sole a b c p q = record { more = seen_trans a b c p.more q.more; same = q.same ∙ p.same; alone = λ is. q.alone is ∙ p.alone is }

-- nothing was asked for
pub lacks_nothing : (sole : Bool) (s : Sight) (event : Event) → AsksAtMost sole s s event
lacks_nothing sole s event = record { counted = inl refl; alone = λ is. inl refl }

-- A sole asker has seen all that was asked for.
pub seen_alone : (sole : Bool) (mine log : List HistoryEntry) (asked : ℕ) → IsPrefix mine log → (sole ≡ true → asked ≡ length (asked_in log)) → asked ≤ length (asked_in mine) → sole ≡ true → asked_in log ≡ asked_in mine
seen_alone sole mine log asked p whole has so = asked_same mine log p (omega (arith, whole so, has))

-- what was seen goes on, whatever was asked for
pub noted_more : (a b c is : Sight) (asked : ℕ) → is ≡ record c { asked = asked } → SeesMore a b → SeesMore b c → SeesMore a is
noted_more a b c is asked e p q = rw e record { list = prefix_trans a.list b.list c.list p.list q.list; history = prefix_trans a.history b.history c.history p.history q.history }

-- how many events one had asked for as the last one came, of those that all asked for
pub counts_under : (was is shown : Sight) (log after : List HistoryEntry) (had given has : ℕ) → is ≡ record shown { asked = has } → shown.history ≡ after → was.asked ≡ had → given ≡ had
    → has + length (asked_in log) ≡ given + length (asked_in after) → is.asked + length (asked_in log) ≡ was.asked + length (asked_in is.history)
counts_under was is shown log after had given has e h w g counts =
    omega (arith, ap (λ (s : Sight). s.asked) e, ap (λ (s : Sight). length (asked_in s.history)) e, ap (λ (l : List HistoryEntry). length (asked_in l)) h, w, g, counts)

-- After that an event comes, or there was no memory for it.
module _ (sole : Bool) (was is : Sight) (log : List HistoryEntry) (alone : sole ≡ true → asked_in log ≡ asked_in was.history) (counts : is.asked + length (asked_in log) ≡ was.asked + length (asked_in is.history)) where
  lacks_one : (b : Bool) (x : HistoryEntry) → is_asked x.event ≡ b → is.history ≡ log ++ x ∷ [] → sole ≡ true → (asked_in is.history ≡ asked_in was.history) ⊎ (asked_in is.history ≡ asked_in was.history ++ x ∷ [])
  lacks_one true x asks added so = inr (ap asked_in added ∙ (asked_one log x asks ∙ ap (λ (w : List HistoryEntry). w ++ x ∷ []) (alone so)))
  lacks_one false x asks added so = inl (ap asked_in added ∙ (asked_none log x asks ∙ alone so))

  -- how many events were asked for then
  pub counts_one : (x : HistoryEntry) → is.history ≡ log ++ x ∷ [] → (b : Bool) → is_asked x.event ≡ b → is.asked ≡ was.asked + cond b 1 0
  counts_one x added true asks = omega (arith, counts, ap (λ (w : List HistoryEntry). length (asked_in w)) added, ap length (asked_one log x asks), length-append (asked_in log) (x ∷ []))
  counts_one x added false asks = omega (arith, counts, ap (λ (w : List HistoryEntry). length (asked_in w)) added, ap length (asked_none log x asks))

  counts_none : is.history ≡ log → is.asked ≡ was.asked
  counts_none same = omega (arith, counts, ap (λ (w : List HistoryEntry). length (asked_in w)) same)

  one_or_none : (b : Bool) → is.asked ≡ was.asked + cond b 1 0 → (is.asked ≡ was.asked) ⊎ (is.asked ≡ was.asked + 1)
  one_or_none true e = inr e
  one_or_none false e = inl (omega (arith, e))

  pub lacks : (event : Event) (now : EngineView) → AddsAtMost log event now is.history → AsksAtMost sole was is event
  lacks event now (inl same) = record { counted = inl (counts_none same); alone = λ so. inl (ap asked_in same ∙ alone so) }
  lacks event now (inr added) = record {
    counted = one_or_none (is_asked event) (counts_one (entry_of event (Refused NoMemory) now) added (is_asked event) refl);
    alone = λ so. elim (lacks_one (is_asked event) (entry_of event (Refused NoMemory) now) refl added so) [ inl none ↦ inl none | inr one ↦ inr (now, one) ];
  }

  pub steps_on : (x : HistoryEntry) → is_asked x.event ≡ false → SeesMore was is → is.history ≡ log ++ x ∷ [] → SeesSteps sole was is
  steps_on x unasked more added = record { more = more; same = omega (arith, counts_one x added false unasked); alone = λ so. ap asked_in added ∙ (asked_none log x unasked ∙ alone so) }

  pub steps_lacking : (event : Event) (now : EngineView) → is_asked event ≡ false → SeesMore was is → AddsAtMost log event now is.history → SeesSteps sole was is
  steps_lacking event now unasked more (inl same) = record { more = more; same = counts_none same; alone = λ so. ap asked_in same ∙ alone so }
  steps_lacking event now unasked more (inr added) = steps_on (entry_of event (Refused NoMemory) now) unasked more added

-- what a refusal leaves is so if it is
pub says_if_refused : {A B : Type 0} (r : Result A B) (P : Type 0) → P → OnErr r P
says_if_refused (Ok a) P p = tt
says_if_refused (Err b) P p = p
