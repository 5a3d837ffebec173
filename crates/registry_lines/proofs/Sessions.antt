-- Which session a number of a script names, after another one is entered and after one has ended.
use Rattle.std.proofs.Common.{◌≡◌, ◌≢◌, ℕ, ◌==◌, Bool, true, false, ◌&&◌, if◌then◌else◌, Option, Some, refl, sym, ◌∙◌, ap, subst}
use Rattle.std.proofs.lemmas.Bool.{eqb-true, eq-eqb}
use Rattle.ktm_calls.specs.Moments.{NumberedSight}
use Rattle.registry_lines.specs.Heard.{GoesOn}
use Rattle.registry_lines.specs.Scripts.{Script, EndsNamed, KeepsSessions, MakesCurrent, Switches, session_named}
use Rattle.registry_lines.specs.Slots.{SameItems, PutsItem, TakesItem}

-- the session that a number names, by what a script shows
abbrev pub named : Bool → ℕ → ℕ → (ℕ → Option ℕ) → ℕ → Option ℕ
named is_open current session others number = if is_open && (number == current) then Some session else others number

-- two numbers that differ aren't equal
differ : (m n : ℕ) → m ≢ n → (test : Bool) → (m == n) ≡ test → test ≡ false
differ m n h true e = absurd (h (eqb-true m n e))
differ m n h false e = refl

apart : (m n : ℕ) → (m == n) ≡ false → m ≢ n
apart m n e h = absurd (bad (sym (eq-eqb m n h) ∙ e))
  where
    bad : true ≡ false → ⊥
    bad h = cc

-- by a test that says no, and by one that says yes
pub unless : (test : Bool) (x y : Option ℕ) → test ≡ false → (if test then x else y) ≡ y
unless true x y e = absurd cc
unless false x y e = refl

if_so : (test : Bool) (x y : Option ℕ) → test ≡ true → (if test then x else y) ≡ x
if_so true x y e = refl
if_so false x y e = absurd cc

-- a number names what it named, if the others do
same_named : (test : Bool) (was is : ℕ) (old new : Option ℕ) → is ≡ was → new ≡ old → (if test then Some is else new) ≡ (if test then Some was else old)
same_named true was is old new e f = ap Some e
same_named false was is old new e f = f

keeps_named : (is_open : Bool) (current was is : ℕ) (old new : ℕ → Option ℕ) → is ≡ was → SameItems old new → SameItems (named is_open current was old) (named is_open current is new)
keeps_named is_open current was is old new e keeps number = same_named (is_open && (number == current)) was is (old number) (new number) e (keeps number)

-- the session that is open in which lines are asked is the one of its number
current_so : (is_open : Bool) (wanted current : ℕ) → (is_open && (wanted == current)) ≡ true → (is_open ≡ true) × (current ≡ wanted)
current_so true wanted current e = (refl, sym (eqb-true wanted current e))
current_so false wanted current e = absurd cc

-- no session is entered
pub keeps_sessions : (old new : Script) → new ≡ record old { session = new.session; others = new.others } → GoesOn old.session new.session → SameItems old.others new.others → KeepsSessions old new
keeps_sessions old new rest goes_on keeps = record {
  rest = rest;
  goes_on = goes_on;
  names = subst (λ (s : Script). SameItems (session_named old) (session_named s)) (sym rest) (keeps_named old.is_open old.current old.session.number new.session.number old.others new.others goes_on.number keeps);
}

-- the session is entered in which lines are asked already
module _ (old : Script) (wanted : ℕ) (session : NumberedSight) (same : session.number ≡ old.session.number) (is : (old.is_open && (wanted == old.current)) ≡ true) where
  pub stays_current : MakesCurrent old (record old { session = session }) wanted
  stays_current =
      let so = current_so old.is_open wanted old.current is in
      record {
        rest = ap (λ (b : Bool). record old { is_open = b; session = session }) so.0 ∙ ap (λ (n : ℕ). record old { current = n; is_open = true; session = session }) so.1;
        names = record {
          here = if_so (old.is_open && (wanted == old.current)) (Some session.number) (old.others wanted) is;
          others = λ number h. keeps_named old.is_open old.current old.session.number session.number old.others old.others same (λ n. refl) number;
        };
      }

  pub names_current : session_named old wanted ≡ Some session.number
  names_current = if_so (old.is_open && (wanted == old.current)) (Some old.session.number) (old.others wanted) is ∙ ap Some (sym same)

module _ (current session wanted entered : ℕ) (old room taken new : ℕ → Option ℕ) (keeps : SameItems old room) (takes : TakesItem room taken wanted) where
  others_stay : (number : ℕ) → number ≢ wanted → taken number ≡ old number
  others_stay number h = takes.others number h ∙ keeps number

  -- the session before is among the others
  other_named : PutsItem taken new current session → (number : ℕ) → number ≢ wanted → (test : Bool) → (number == current) ≡ test → new number ≡ (if test then Some session else old number)
  other_named puts number h true e = ap new (eqb-true number current e) ∙ puts.here
  other_named puts number h false e = puts.others number (apart number current e) ∙ others_stay number h

  others_named : (is_open : Bool) → (is_open ≡ true → PutsItem taken new current session) → (is_open ≡ false → new ≡ taken) → (number : ℕ) → number ≢ wanted → new number ≡ named is_open current session old number
  others_named true puts same number h = other_named (puts refl) number h (number == current) refl
  others_named false puts same number h = ap (λ (f : ℕ → Option ℕ). f number) (same refl) ∙ others_stay number h

  -- the number names the session that was entered
  names_entered : (is_open : Bool) → (is_open ≡ true → PutsItem taken new current session) → (is_open ≡ false → new ≡ taken) → PutsItem (named is_open current session old) (named true wanted entered new) wanted entered
  names_entered is_open puts same = record {
    here = if_so (wanted == wanted) (Some entered) (new wanted) (eq-eqb wanted wanted refl);
    others = λ number h. unless (number == wanted) (Some entered) (new number) (differ number wanted h (number == wanted) refl) ∙ others_named is_open puts same number h;
  }

-- another session is entered, once there is room and it was reached
module _ (old room new : Script) (wanted handle : ℕ) (keeps : SameItems old.others room.others) where
  switched : (near : NumberedSight) (taken : ℕ → Option ℕ) → near.number ≡ old.session.number → TakesItem room.others taken wanted → Switches (record old { session = near; others = taken }) new wanted handle → MakesCurrent old new wanted
  switched near taken same takes switches =
      let rest : new ≡ record old { current = wanted; is_open = true; session = new.session; others = new.others } = switches.rest ∙ ap (λ (s : NumberedSight). record old { current = wanted; is_open = true; session = s; others = new.others }) (sym (ap (λ (s : Script). s.session) switches.rest)) in
      record {
        rest = rest;
        names = subst (λ (s : Script). PutsItem (session_named old) (session_named s) wanted new.session.number) (sym rest)
            (names_entered old.current old.session.number wanted new.session.number old.others room.others taken new.others keeps takes old.is_open
            (λ so. subst (λ (n : ℕ). PutsItem taken new.others old.current n) same (switches.others so)) switches.alone);
      }

  pub makes_current : (near : Script) → near ≡ record old { session = near.session; others = near.others } → near.session.number ≡ old.session.number → TakesItem room.others near.others wanted → Switches near new wanted handle → MakesCurrent old new wanted
  makes_current near rest same takes switches = switched near.session near.others same takes (subst (λ (s : Script). Switches s new wanted handle) rest switches)

-- a session that was taken out has ended, as the current one saw then
pub ends_named : (old taken : Script) (session : NumberedSight) (wanted : ℕ) → EndsNamed old taken wanted → session.number ≡ taken.session.number → EndsNamed old (record taken { session = session }) wanted
ends_named old taken session wanted ends same =
    let names = keeps_named taken.is_open taken.current taken.session.number session.number taken.others taken.others same (λ n. refl) in
    record {
      rest = ap (λ (s : Script). record s { session = session }) ends.rest;
      names = record { here = names wanted ∙ ends.names.here; others = λ number h. names number ∙ ends.names.others number h };
      session = same ∙ ends.session;
      is_open = ends.is_open;
    }
