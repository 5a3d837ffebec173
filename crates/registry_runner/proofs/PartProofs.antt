-- How a part of a run begins, and what came of its lines.
use Rattle.std.proofs.Common.{◌≡◌, ◌∙◌, ◌⊎◌, ℕ, Bool, List, [], ◌++◌, Option, Result, Ok, Err, ap, sym, subst, inl}
use Rattle.std.specs.Prelude.{IfOk}
use Rattle.refusals.specs.declared.refusal.Refusal.{Refusal}
use Rattle.refusals.specs.declared.refusal.Refusal.TheVariants.{NoMemory, NoSeat}
use Rattle.reg_tree.specs.Maps.{TreeMap}
use Rattle.reply_lines.specs.declared.status.Status.{Status}
use Rattle.histories.specs.Histories.{LeadsTo}
use Rattle.engine_invariant.specs.Engines.{EngineView}
use Rattle.histories.specs.Points.{HistoryEntry}
use Rattle.store_model.specs.Machine.{Machine}
use Rattle.histories.specs.Asked.{asked_in}
use Rattle.histories.proofs.Asked.{asked_append}
use Rattle.ktm_calls.specs.Moments.{no_sight}
use Rattle.registry_runner.specs.Parts.{LiesLast, MayNotBegin}
use Rattle.registry_runner.specs.Plays.{GoesOnFolded, IsPlayedOn, LinesCome}
use Rattle.registry_lines.specs.Scripts.{Script}
use Rattle.registry_runner.specs.declared.lines.LinesEnd.{LinesEnd}
use Rattle.registry_runner.specs.declared.lines.LinesEnd.TheVariants as come
use Rattle.registry_runner.specs.declared.parts.NextPart.{NextPart}
use Rattle.registry_runner.proofs.Playing.{part}

-- no registry was made over an engine, so that no part begins
pub not_made : (sole : Bool) (whole past : List HistoryEntry) (origin : EngineView) (trees : List TreeMap) (number hives : ℕ) (why : Refusal) → (why ≡ NoMemory) ⊎ (why ≡ NoSeat) → LiesLast sole whole past origin no_sight → MayNotBegin whole past sole origin trees number hives why
not_made sole whole past origin trees number hives why may stands =
    inl (may, λ so. let e = stands.lies.sees.asked so in (e.0, e.1, stands.last ∙ (asked_append past stands.lies.own ∙ ap (λ (w : List HistoryEntry). asked_in past ++ w) e.2)))

-- what came of lines that ended with this status, or of which a write failed
module _ (whole past : List HistoryEntry) (limit : ℕ) (can_read : Bool) (sole : Bool) (origin : EngineView) (trees : List TreeMap) (first hives number : ℕ) (known was : Option (List ℕ)) (old new : Script) (rest is : Option (List ℕ)) where
  abbrev pub Plays : Status → Type 0
  Plays status = IsPlayedOn whole limit can_read (Ok (part past sole origin trees first hives old)) number known was is status (Ok (part past sole origin trees first hives new))

  pub plays : {E : Type 0} (r : Result LinesEnd E) (end : LinesEnd) (status : Status) (played : Result Status E) → r ≡ Ok end → end ≡ come.Ended status → played ≡ Ok status → IfOk r (λ end. LinesCome whole limit can_read (part past sole origin trees first hives old) number known was end new rest is) → IfOk played Plays
  plays r end status played from ended same h =
      let so = subst (λ r. IfOk r (λ end. LinesCome whole limit can_read (part past sole origin trees first hives old) number known was end new rest is)) from h in
      let on : Plays status = subst (λ end. LinesCome whole limit can_read (part past sole origin trees first hives old) number known was end new rest is) ended so in subst (λ p. IfOk p Plays) (sym same) on

  -- what came of lines after which the history is to be folded
  pub goes_on : {E : Type 0} (r : Result LinesEnd E) (end : LinesEnd) (next : NextPart) → r ≡ Ok end → end ≡ come.ToFold next → IfOk r (λ end. LinesCome whole limit can_read (part past sole origin trees first hives old) number known was end new rest is) → GoesOnFolded whole limit can_read (part past sole origin trees first hives old) number known was next (part past sole origin trees first hives new) rest is
  goes_on r end next from folds h =
      let so = subst (λ r. IfOk r (λ end. LinesCome whole limit can_read (part past sole origin trees first hives old) number known was end new rest is)) from h in
      subst (λ end. LinesCome whole limit can_read (part past sole origin trees first hives old) number known was end new rest is) folds so

-- nothing is said of what failed
pub if_err : {A E : Type 0} (P : A → Type 0) (e : E) (r : Result A E) → r ≡ Err e → IfOk r P
if_err P e r same = subst (λ r. IfOk r P) (sym same) tt

-- of an engine over which no registry was made nothing is the history
pub none_led : (origin now : EngineView) (was_safe safe : ℕ → Machine → Type 0) (was_faithful faithful : Type 0) → now ≡ origin → (faithful → was_faithful) → ((moment : ℕ) (machine : Machine) → was_safe moment machine → safe moment machine) → (faithful → safe now.clock now.machine)
    → LeadsTo origin was_safe was_faithful safe faithful [] now
none_led origin now was_safe safe was_faithful faithful same back past here = record {
  run = tt;
  now_is = sym same;
  back = back;
  past = λ f moment machine before was. past moment machine was;
  crashes = λ f. subst (λ (p : EngineView). safe p.clock p.machine) same (here f);
}
