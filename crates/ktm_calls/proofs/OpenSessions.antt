-- Which sessions are open after an event, and whose store it is then.
use Rattle.std.proofs.Common.{◌≡◌, ◌<◌, ◌≤◌, ◌==◌, ◌||◌, ◌+◌, ℕ, Bool, Some, true, false, not, cond, List, [], ◌∷◌, ◌++◌, filter, length, inl, inr, refl, sym, ◌∙◌, ap, subst, arith}
use Rattle.std.specs.List.{All, list_any}
use Rattle.std.proofs.lemmas.Bool.Decides.{nat_tests}
use Rattle.std.proofs.lemmas.List.Elements.{All-filter, All-head, All-push, All-weaker, filter_passes}
use Rattle.refusals.specs.declared.refusal.Refusal.{Refusal}
use Rattle.refusals.specs.declared.refusal.Refusal.TheVariants.{NoSuchHandle}
use Rattle.reg_tree.specs.Maps.{TreeMap}
use Rattle.store_model.specs.Machine.{Machine, commit_change, next_commit, is_open, refused_if, room_of}
use Rattle.store_model.specs.Steps.{Step, StepFails, may_accept}
use Rattle.store_model.specs.declared.bounds.StoreBounds.{StoreBounds}
use Rattle.store_model.specs.declared.event.Event.{Event}
use Rattle.store_model.specs.declared.event.Event.TheVariants as event
use Rattle.store_model.specs.declared.event.Reply.{Reply}
use Rattle.store_model.proofs.Replies.{done_or, read_or, accepted_or, added_or, begun_or, awaits_or, outcome_or, committed_as_or, receipt_or, folded_or, stepped_or}
use Rattle.ktm_calls.specs.Moments.{IsOf}
use Rattle.ktm_calls.specs.OpenSessions.{AreBelow, OpensBelow}

pub below_more : (bound more : ℕ) (m : Machine) → bound ≤ more → AreBelow bound m → AreBelow more m
below_more bound more m le k = All-weaker (λ s. s < bound) (λ s. s < more) (λ s l. omega (arith, l, le)) m.sessions k

-- an event that may accept a change opens no session
pub accepting_opens_none : (bound : ℕ) (e : Event) → may_accept e ≡ true → OpensBelow bound e
accepting_opens_none bound (event.Write session moment op) a = tt
accepting_opens_none bound (event.CommitAccept session tx moment) a = tt
accepting_opens_none bound _ a = absurd cc

module _ (bound : ℕ) (old new : Machine) (k : AreBelow bound old) where
  stay : new.sessions ≡ old.sessions → AreBelow bound new
  stay e = subst (λ (l : List ℕ). All (λ s. s < bound) l) (sym e) k

  same : new ≡ old → AreBelow bound new
  same e = stay (ap (λ (m : Machine). m.sessions) e)

  started : (session : ℕ) (t : Bool) → session < bound → new ≡ cond t old (record old { sessions = old.sessions ++ session ∷ [] }) → AreBelow bound new
  started session true l e = same e
  started session false l e =
      subst (λ (ss : List ℕ). All (λ s. s < bound) ss) (sym (ap (λ (m : Machine). m.sessions) e)) (All-push (λ s. s < bound) old.sessions session k l)

  kept : (t : Bool) (mid : Machine) → mid.sessions ≡ old.sessions → (cond t old mid).sessions ≡ old.sessions
  kept true mid s = refl
  kept false mid s = s

  fails : (wanted : _) (why : Refusal) → StepFails old wanted why new → AreBelow bound new
  fails wanted why (inl refused) = same refused.1
  fails wanted why (inr broke) = stay (ap (λ (m : Machine). m.sessions) broke.1.next)

  pub still_below : (e : Event) (r : Reply) → OpensBelow bound e → Step old e r new → AreBelow bound new
  still_below (event.StartSession session) r l s = done_or (λ r. AreBelow bound new) _ _ r s (λ d. started session (is_open old session) l d.1) (λ why f. same f.1)
  still_below (event.EndSession session) r l s =
      done_or (λ r. AreBelow bound new) _ _ r s
      (λ d. subst (λ (ss : List ℕ). All (λ s. s < bound) ss) (sym (ap (λ (m : Machine). m.sessions) d.next)) (All-filter (λ s. not (s == session)) (λ s. s < bound) old.sessions k))
      (λ why f. same f.1)
  still_below (event.Read session hive path question) r l s = read_or (λ r. AreBelow bound new) _ _ r s (λ v d. same d.next) (λ why f. same f.1)
  still_below (event.Write session moment op) r l s = accepted_or (λ r. AreBelow bound new) _ _ _ r s (λ l n d. stay (ap (λ (m : Machine). m.sessions) d.next)) (λ o. same o.next) (λ why f. same f.1)
  still_below (event.Begin session id) r l s = begun_or (λ r. AreBelow bound new) _ _ r s (λ t d. stay (ap (λ (m : Machine). m.sessions) d.next)) (λ why f. same f.1)
  still_below (event.TxRead session tx hive path question) r l s = read_or (λ r. AreBelow bound new) _ _ r s (λ v d. same d.next) (λ why f. same f.1)
  still_below (event.TxWrite session tx moment op) r l s = added_or (λ r. AreBelow bound new) _ _ _ r s (λ l d. stay (ap (λ (m : Machine). m.sessions) d.1.1)) (λ o. same o.2) (λ why f. same f.1)
  still_below (event.CommitAccept session tx moment) r l s =
      awaits_or (λ r. AreBelow bound new) _ _ r s
      (λ n d. stay (ap (λ (m : Machine). m.sessions) d.next
      ∙ kept (length d.one.ops == 0) (record old { accepted = old.accepted ++ commit_change old moment d.one ∷ []; commits = old.commits ++ next_commit old d.one ∷ []; room = old.room + room_of (commit_change old moment d.one) }) refl))
      (λ why f. same f.1)
  still_below (event.Rollback session tx) r l s = done_or (λ r. AreBelow bound new) _ _ r s (λ d. stay (ap (λ (m : Machine). m.sessions) d.1)) (λ why f. same f.1)
  still_below (event.Close session tx) r l s = done_or (λ r. AreBelow bound new) _ _ r s (λ d. stay (ap (λ (m : Machine). m.sessions) d.1)) (λ why f. same f.1)
  still_below (event.Outcome session tx) r l s = outcome_or (λ r. AreBelow bound new) _ _ r s (λ o d. same d.next) (λ why f. same f.1)
  still_below (event.OutcomeOf id) r l s = committed_as_or (λ r. AreBelow bound new) _ _ r s (λ n d. same d.next) (λ why f. same f.1)
  still_below event.FlushAsk r l s = awaits_or (λ r. AreBelow bound new) _ _ r s (λ n d. same d.2) (λ why f. same f.1)
  still_below (event.Acked number) r l s = receipt_or (λ r. AreBelow bound new) _ _ _ r s (λ n d. same d.2) (λ w. same w.2) (λ why f. same f.1.1)
  still_below event.Fold r l s = folded_or (λ r. AreBelow bound new) _ _ _ r s (λ n d. stay (ap (λ (m : Machine). m.sessions) d.next)) (λ w. same w.2) (λ why f. same f.1)
  still_below event.JournalStep r l s = stepped_or (λ r. AreBelow bound new) _ _ r s (λ p d. stay (ap (λ (m : Machine). m.sessions) d.next)) (λ why f. fails _ why f)
  still_below (event.FlusherStep hive) r l s = stepped_or (λ r. AreBelow bound new) _ _ r s (λ p d. same d.next) (λ why f. fails _ why f)
  still_below event.TrimStep r l s = stepped_or (λ r. AreBelow bound new) _ _ r s (λ p d. stay (ap (λ (m : Machine). m.sessions) d.next)) (λ why f. fails _ why f)

-- The end of a session

abbrev without : ℕ → List ℕ → List ℕ
without session sessions = filter (λ s. not (s == session)) sessions

-- a session that isn't open is in no list without it
absent_first : (session s : ℕ) (ss : List ℕ) (t : Bool) → (t || list_any (λ s. s == session) ss) ≡ false
    → (list_any (λ s. s == session) ss ≡ false → without session ss ≡ ss) → cond (not t) (s ∷ without session ss) (without session ss) ≡ s ∷ ss
absent_first session s ss true e rest = absurd (cc e)
absent_first session s ss false e rest = ap (λ (l : List ℕ). s ∷ l) (rest e)

absent : (session : ℕ) (sessions : List ℕ) → list_any (λ s. s == session) sessions ≡ false → without session sessions ≡ sessions
absent session [] e = refl
absent session (s ∷ ss) e = absent_first session s ss (s == session) e (absent session ss)

refused_closed : (session : ℕ) (sessions : List ℕ) (t : Bool) (why : Refusal) → refused_if (not t) NoSuchHandle ≡ Some why → list_any (λ s. s == session) sessions ≡ t → without session sessions ≡ sessions
refused_closed session sessions true why e is = absurd (cc e)
refused_closed session sessions false why e is = absent session sessions is

-- whatever is answered, the session isn't open then
pub ended : (old new : Machine) (session : ℕ) (r : Reply) → Step old (event.EndSession session) r new → new.sessions ≡ without session old.sessions
ended old new session r s =
    done_or (λ r. new.sessions ≡ without session old.sessions) _ _ r s
    (λ d. ap (λ (m : Machine). m.sessions) d.next)
    (λ why f. ap (λ (m : Machine). m.sessions) f.1 ∙ sym (refused_closed session old.sessions (is_open old session) why f.0 refl))

-- one after another, until none is left

abbrev pub AreFrom : ℕ → Machine → Type 0
AreFrom least machine = All (λ session. least ≤ session) machine.sessions

pub fewer : (least : ℕ) (sessions : List ℕ) → All (λ s. least ≤ s) sessions → All (λ s. least + 1 ≤ s) (without least sessions)
fewer least sessions from =
    All-weaker (λ s. (least ≤ s) × (not (s == least) ≡ true)) (λ s. least + 1 ≤ s) (λ s h. grind (arith, nat_tests)) (without least sessions)
    (λ k d l. (All-filter (λ s. not (s == least)) (λ s. least ≤ s) sessions from k d l, filter_passes (λ s. not (s == least)) sessions k d l))

pub none_left : (bound number : ℕ) (sessions : List ℕ) → bound ≤ number → All (λ s. s < bound) sessions → All (λ s. number ≤ s) sessions → sessions ≡ []
none_left bound number [] le below from = refl
none_left bound number (s ∷ ss) le below from = absurd (omega (arith, le, All-head (λ s. s < bound) s ss below, All-head (λ s. number ≤ s) s ss from))

-- a step that leaves the opening and the bounds leaves whose store it is
pub still_of : (trees : List TreeMap) (number hives : ℕ) (old new : Machine) → IsOf trees number hives old
    → (new.opened ≡ old.opened) × (new.before ≡ old.before) → new.bounds ≡ old.bounds → IsOf trees number hives new
still_of trees number hives old new was stay bounds = record {
  opened = stay.0 ∙ was.opened;
  before = stay.1 ∙ was.before;
  hives = ap (λ (b : StoreBounds). b.hives) bounds ∙ was.hives;
}
