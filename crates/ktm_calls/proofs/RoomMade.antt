-- Room is made before each event of a history that goes on.
use Rattle.std.proofs.Common.{◌≡◌, ◌∙◌, ◌⊎◌, true, false, List, [], ◌∷◌, ◌++◌, inl, inr, refl, ap, subst, sym}
use Rattle.std.proofs.lemmas.Bool.{true≢false}
use Rattle.store_model.specs.Steps.{may_accept}
use Rattle.store_model.specs.declared.event.Event.{Event}
use Rattle.store_model.specs.declared.event.Event.TheVariants as event
use Rattle.engine_invariant.specs.Engines.{EngineView}
use Rattle.histories.specs.Points.{HistoryEntry}
use Rattle.store_model.specs.Machine.{Machine}
use Rattle.ktm_calls.specs.Room.{HasMadeRoom, MakesRoom}
use Rattle.ktm_calls.specs.Waiting.{IsWork}

-- where an event of a history with one more stands: it is the last one, or one of those before
split : (was past rest : List HistoryEntry) (last entry : HistoryEntry) → was ++ last ∷ [] ≡ past ++ entry ∷ rest
    → ((was ≡ past) × (last ≡ entry)) ⊎ ((more : List HistoryEntry) × (was ≡ past ++ entry ∷ more))
split [] [] rest last entry e = inl (refl, cc e)
split [] (p ∷ []) rest last entry e = absurd (cc e)
split [] (p ∷ q ∷ past) rest last entry e = absurd (cc e)
split (w ∷ was) [] rest last entry e = inr (was, cc e)
split (w ∷ was) (p ∷ past) rest last entry e =
    let same : w ≡ p = cc e in
    let left : was ++ last ∷ [] ≡ past ++ entry ∷ rest = cc e in
    elim (split was past rest last entry left) [
      | inl here ↦ inl (cc (same, here.0), here.1)
      | inr there ↦ inr (there.0, cc (same, there.1))
    ]

pub none_yet : (start : EngineView) → MakesRoom start []
none_yet start [] rest entry e may = absurd (cc e)
none_yet start (p ∷ past) rest entry e may = absurd (cc e)

module _ (start : EngineView) (was is : List HistoryEntry) (x : HistoryEntry) (added : is ≡ was ++ x ∷ []) (made : MakesRoom start was) where
  pub goes_on : (may_accept x.event ≡ true → HasMadeRoom start was) → MakesRoom start is
  goes_on room past rest entry e may =
      elim (split was past rest x entry (sym added ∙ e)) [
        | inl here ↦ subst (λ (l : List HistoryEntry). HasMadeRoom start l) here.0 (room (ap (λ (y : HistoryEntry). may_accept y.event) here.1 ∙ may))
        | inr there ↦ made past there.0 entry there.1 may
      ]

  -- an event that accepts nothing needs none
  pub goes_on_calm : may_accept x.event ≡ false → MakesRoom start is
  goes_on_calm calm = goes_on (λ may. absurd (true≢false (sym may ∙ calm)))

pub work_is_calm : (machine : Machine) (e : Event) → IsWork machine e → may_accept e ≡ false
work_is_calm machine event.JournalStep w = refl
work_is_calm machine (event.FlusherStep hive) w = refl
work_is_calm machine event.TrimStep w = refl
work_is_calm machine _ w = absurd w
