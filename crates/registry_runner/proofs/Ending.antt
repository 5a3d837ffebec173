-- The beginning of a script's run and its end.
use Rattle.std.proofs.Common.{◌≡◌, ◌∙◌, ℕ, ◌+◌, length, List, [], ◌∷◌, Option, Some, None, ◌++◌, Bool, true, false, Result, Ok, Err, refl, sym, ap, subst, inl, inr, append_assoc}
use Rattle.std.proofs.lemmas.Bool.{true≢false}
use Rattle.std.specs.Prelude.{IfOk, IsOk, is_some}
use mathlib.Core.List.{IsPrefix}
use Rattle.std.specs.Io.KnownBytes.{Appends, Keeps}
use Rattle.refusals.specs.Refusals.{refusal_text}
use Rattle.refusals.specs.declared.refusal.Refusal.{Refusal}
use Rattle.refusals.specs.declared.refusal.Refusal.TheVariants.{Faulted}
use Rattle.reply_lines.proofs.Written.{appends_more, appends_nothing}
use Rattle.reply_lines.specs.Statuses.{with_refusal}
use Rattle.reply_lines.specs.declared.reply.ReplyLine.{ReplyLine}
use Rattle.reply_lines.specs.declared.status.Status.{Status}
use Rattle.reply_lines.specs.declared.status.Status.TheVariants.{Refused}
use Rattle.script_loop.proofs.Texts.{appends_kept, if_ok, keeps_same, kept_appends}
use Rattle.script_runner.specs.Plays.{is_refusal}
use Rattle.store_driver.specs.Openings.{BeginsAt}
use Rattle.script_runner.specs.Plays.{opened_text}
use Rattle.script_loop.specs.declared.end_of_script.EndOfScript.TheVariants.{Broken}
use Rattle.script_syntax.specs.declared.line.Line.TheVariants.{Flush}
use Rattle.reg_tree.specs.Maps.{TreeMap}
use Rattle.reg_tree.specs.Sequences.{after_elements}
use Rattle.histories.specs.Asked.{asked_in}
use Rattle.histories.specs.Histories.{end_of}
use Rattle.engine_invariant.specs.Engines.{EngineView}
use Rattle.histories.specs.Points.{HistoryEntry}
use Rattle.store_model.specs.Machine.{Machine}
use Rattle.ktm_calls.specs.Moments.{IsOf, SeesMore, Sight, no_sight}
use Rattle.registry_runner.specs.Folding.{IsFoldedAt, IsIdle}
use Rattle.registry_runner.specs.Parts.{Part, BeginsOrNot, FoldsAt, MayNotBegin, MayNotFold, LiesIn, LiesLast, kind_text}
use Rattle.registry_runner.specs.Plays.{GoesOnFolded, HaveEnded, IsPlayedOn, IsUnread, LinesCome, PlaysOn}
use Rattle.registry_lines.specs.Scripts.{Script, Answers, IsBegun, MayProbe}
use Rattle.registry_runner.specs.declared.lines.LinesEnd.{LinesEnd}
use Rattle.registry_runner.specs.declared.lines.LinesEnd.TheVariants as come
use Rattle.registry_runner.specs.declared.parts.NextPart.{NextPart}
use Rattle.registry_runner.specs.declared.parts.PartEnd.TheVariants.{ToFold}
use Rattle.registry_runner.specs.declared.parts.PartKind.TheVariants.{Opened}
use Rattle.registry_runner.specs.declared.parts.PartStart.{PartStart}
use Rattle.registry_runner.proofs.Playing.{kept_by_nothing, part, stopped}
use Rattle.store_model.specs.declared.event.Reply.{Reply}
use Rattle.store_model.specs.declared.event.Reply.TheVariants as answer
use Rattle.ktm_calls.specs.Denials.{IsTurnDenied, denial_of, refusal_in}
use Rattle.ktm_calls.specs.Waiting.{HasFailed}
use Rattle.ktm_calls.specs.declared.registry.Denied.{Denied}
use Rattle.ktm_calls.specs.declared.registry.Denied.TheVariants as denied
use Rattle.registry_runner.specs.Running.{EndsPart, EndsRun, IsUnasked, MayBeUndone, MayHaveEnded, RunsFrom, RunsOrNot, flushed_text, undone_text}

-- what holds of an answer that is one only if an earlier one is, with what holds of that one
pub both_ok : {A B E F : Type 0} (H : A → B → Type 0) (G : B → Type 0) (r : Result A E) (p : Result B F) → (IsOk r → IsOk p) → IfOk r (λ a. IfOk p (H a)) → IfOk p G → IfOk r (λ a. (b : B) × H a b × G b)
both_ok H G (Ok a) (Ok b) also h g = (b, h, g)
both_ok H G (Ok a) (Err f) also h g = absurd (true≢false (sym (also refl)))
both_ok H G (Err e) p also h g = tt

-- the flush is reported, and what is left undone: all of it, if each write succeeds
pub told_all : {E : Type 0} (flushed : ReplyLine) (left : Option Refusal) (played reported r : Result Status E) (before then after : Option (List ℕ))
    → (IsOk reported → IsOk played) → (IsOk r → IsOk reported)
    → IfOk reported (λ status. IfOk played (λ came_to. (status ≡ with_refusal (is_refusal flushed) came_to) × Appends before then (flushed_text flushed)))
    → IfOk r (λ status. IfOk reported (λ came_to. (status ≡ with_refusal (is_some left) came_to) × Appends then after (undone_text left)))
    → IfOk r (λ status. IfOk played (λ came_to. (status ≡ with_refusal (is_some left) (with_refusal (is_refusal flushed) came_to)) × Appends before after (flushed_text flushed ++ undone_text left)))
told_all flushed left played reported (Err e) before then after more last t w = tt
told_all flushed left (Err p) reported (Ok status) before then after more last t w = tt
told_all flushed left (Ok p) (Err e) (Ok status) before then after more last t w = absurd (true≢false (sym (last refl)))
told_all flushed left (Ok p) (Ok came_to) (Ok status) before then after more last t w = (w.0 ∙ ap (with_refusal (is_some left)) t.0, appends_more before then after (flushed_text flushed) (undone_text left) t.1 w.1)

-- a step that was refused since the device failed leaves its fault undone, or says that it failed earlier
step_undone : (r : Reply) → HasFailed r → (ended : Option Refusal) → ended ≡ refusal_in r → (ended ≡ Some Faulted → ⊥) → MayHaveEnded ended
step_undone (answer.Refused why) (inl fault) ended e not = inr (inl (e ∙ ap Some fault))
step_undone (answer.Refused why) (inr faulted) ended e not = absurd (not (e ∙ ap Some faulted))
step_undone _ h ended e not = absurd h

-- what ended a flusher is left undone
pub turn_undone : (why : Denied) → IsTurnDenied why → (ended : Option Refusal) → ended ≡ denial_of why → (ended ≡ Some Faulted → ⊥) → MayHaveEnded ended
turn_undone denied.NoMemory t ended e not = inr (inr e)
turn_undone (denied.Told told) t ended e not = step_undone told.reply t.1 ended e not

-- refusals before the end of a run
with_refusals : (a b : Bool) (status : Status) → with_refusal a (with_refusal b status) ≡ with_refusal b (with_refusal a status)
with_refusals false b status = refl
with_refusals true false status = refl
with_refusals true true status = refl

-- the end of a run after further refusals
pub ends_after : (whole : List HistoryEntry) (refused : Bool) (end : Result Part Refusal) (came_to status : Status) (before after : Option (List ℕ)) → EndsRun whole end came_to before after status → EndsRun whole end (with_refusal refused came_to) before after (with_refusal refused status)
ends_after whole refused (Err why) came_to status before after e = (e.0, ap (with_refusal refused) e.1)
ends_after whole refused (Ok part) came_to status before after e = record {
  reported = e.reported;
  last = e.last;
  flushed = e.flushed;
  seen = e.seen;
  later = e.later;
  probes = e.probes;
  stands = e.stands;
  undone = e.undone;
  may = e.may;
  wrote = e.wrote;
  status_is = ap (with_refusal refused) e.status_is ∙ with_refusals refused (is_some e.undone) (with_refusal (is_refusal e.reported) came_to) ∙ ap (with_refusal (is_some e.undone)) (with_refusals refused (is_refusal e.reported) came_to);
}

-- Histories that begin a whole one

pub prefix_first : (xs ys whole : List HistoryEntry) → IsPrefix (xs ++ ys) whole → IsPrefix xs whole
prefix_first xs ys whole p = (ys ++ p.0, sym (append_assoc xs ys p.0) ∙ p.1)

pub prefix_front : (xs ys zs whole : List HistoryEntry) → IsPrefix (xs ++ (ys ++ zs)) whole → IsPrefix (xs ++ ys) whole
prefix_front xs ys zs whole p = prefix_first (xs ++ ys) zs whole (subst (λ (l : List HistoryEntry). IsPrefix l whole) (sym (append_assoc xs ys zs)) p)

-- A part

module _ (whole past : List HistoryEntry) (limit : ℕ) (can_read : Bool) (sole : Bool) (origin : EngineView) (trees : List TreeMap) (first hives number : ℕ) (known was : Option (List ℕ)) where
  -- a script that can be read
  pub read_all : {E : Type 0} (old new : Script) (rest is : Option (List ℕ)) (r : Result LinesEnd E) → can_read ≡ true → IfOk r (λ end. LinesCome whole limit true (part past sole origin trees first hives old) number known was end new rest is) → IfOk r (λ end. LinesCome whole limit can_read (part past sole origin trees first hives old) number known was end new rest is)
  read_all old new rest is r can h = subst (λ (b : Bool). IfOk r (λ end. LinesCome whole limit b (part past sole origin trees first hives old) number known was end new rest is)) (sym can) h

  -- one that can't be
  unread_come : (old : Script) (rest is : Option (List ℕ)) (end : LinesEnd) → IsUnread was is end → LinesCome whole limit false (part past sole origin trees first hives old) number known was end old rest is
  unread_come old rest is (come.Ended status) u = ([], Some Broken, u.0, (refl, refl), (u.1, refl), u.2)
  unread_come old rest is (come.ToFold next) u = absurd u

  pub read_none : {E : Type 0} (old : Script) (rest is : Option (List ℕ)) (r : Result LinesEnd E) → can_read ≡ false → IfOk r (IsUnread was is) → IfOk r (λ end. LinesCome whole limit can_read (part past sole origin trees first hives old) number known was end old rest is)
  read_none old rest is r can h =
      subst (λ (b : Bool). IfOk r (λ end. LinesCome whole limit b (part past sole origin trees first hives old) number known was end old rest is)) (sym can) (if_ok (IsUnread was is) (λ end. LinesCome whole limit false (part past sole origin trees first hives old) number known was end old rest is) r (unread_come old rest is) h)

  -- what was played is written out, and all is flushed
  pub ended : {E : Type 0} (old end last : Script) (mid is : Option (List ℕ)) (flushed : ReplyLine) (played out : Result Status E) → IfOk played (λ s. IsPlayedOn whole limit can_read (Ok (part past sole origin trees first hives old)) number known was mid s (Ok (part past sole origin trees first hives end))) → IfOk out (λ s. (played ≡ Ok s) × Keeps mid is) → Answers sole origin trees first hives end Flush flushed last
      → IfOk out (λ s. HaveEnded whole limit can_read (part past sole origin trees first hives old) number known was is s flushed last)
  ended old end last mid is flushed played (Err e) h o a = tt
  ended old end last mid is flushed played (Ok s) h o a =
      let r = subst (λ p. IfOk p (λ s. IsPlayedOn whole limit can_read (Ok (part past sole origin trees first hives old)) number known was mid s (Ok (part past sole origin trees first hives end)))) o.0 h in (end, (r.0, r.1, r.2, r.3, r.4, appends_kept was mid is r.2 r.5 o.1), a)

module _ (whole past : List HistoryEntry) (start : PartStart) (sole : Bool) (origin : EngineView) (trees : List TreeMap) (number hives : ℕ) (known before opened : Option (List ℕ)) (script : Script) (begun : IsBegun sole origin trees number hives no_sight start.moment script) (told : Appends before opened (kind_text start.kind number)) where
  module _ (mid after : Option (List ℕ)) (last : Script) (flushed : ReplyLine) (seen : Sight) (left : Option Refusal) (later : SeesMore last.session.seen seen) (probes : MayProbe sole last.session.seen seen) (may : MayBeUndone sole origin trees number hives last.session.seen seen left) (stands : LiesLast sole whole past origin seen) where
    abbrev pub Reports : Status → Status → Type 0
    Reports status came_to = (status ≡ with_refusal (is_some left) (with_refusal (is_refusal flushed) came_to)) × Appends mid after (flushed_text flushed ++ undone_text left)

    abbrev pub Plays : Status → Type 0
    Plays came_to = HaveEnded whole start.limit start.can_read (part past sole origin trees number hives script) start.line known opened mid came_to flushed last

    ran_from : (status came_to : Status) → Reports status came_to → Plays came_to → RunsFrom whole past start sole origin trees number hives known before after status
    ran_from status came_to e h = (
      Ok (part past sole origin trees number hives script),
      opened,
      (refl, refl, refl, refl, refl, refl, begun),
      told,
      (Ok (part past sole origin trees number hives h.0), came_to, mid, h.1, record { reported = flushed; last = last; flushed = h.2; seen = seen; later = later; probes = probes; stands = stands; undone = left; may = may; wrote = e.1; status_is = e.0 }),
    )

    -- a script that was begun, its lines, and what the end reports
    pub ran : {E : Type 0} (r played : Result Status E) → (IsOk r → IsOk played) → IfOk r (λ status. IfOk played (Reports status)) → IfOk played Plays → IfOk r (λ status. RunsFrom whole past start sole origin trees number hives known before after status)
    ran r played also e h = if_ok (λ status. (came_to : Status) × Reports status came_to × Plays came_to) (λ status. RunsFrom whole past start sole origin trees number hives known before after status) r (λ status both. ran_from status both.0 both.1 both.2) (both_ok Reports Plays r played also e h)

  -- a script that was begun, and whose history is to be folded
  pub folds_from : (next : NextPart) (end : Script) (rest is : Option (List ℕ)) → GoesOnFolded whole start.limit start.can_read (part past sole origin trees number hives script) start.line known opened next (part past sole origin trees number hives end) rest is → EndsPart whole past start sole origin trees number hives end.session.seen known before (ToFold next) rest is
  folds_from next end rest is goes (Ok one) said after status folds printed on = (
    Ok (part past sole origin trees number hives script),
    opened,
    (refl, refl, refl, refl, refl, refl, begun),
    told,
    (on.0, with_refusal next.has_refusal on.1, on.2, goes.2 (Ok one) said on.2 on.1 on.0 (subst (λ m. FoldsAt whole past sole origin trees number hives end.session.seen m (Ok one)) goes.1 folds) printed on.3, ends_after whole next.has_refusal on.0 on.1 status on.2 after on.4),
  )
  folds_from next end rest is goes (Err why) said after status folds printed on = (
    Ok (part past sole origin trees number hives script),
    opened,
    (refl, refl, refl, refl, refl, refl, begun),
    told,
    (
      Err why,
      with_refusal next.has_refusal status,
      after,
      goes.2 (Err why) said after status (Err why) (subst (λ m. FoldsAt whole past sole origin trees number hives end.session.seen m (Err why)) goes.1 folds) printed (stopped whole start.limit start.can_read why next.line rest said after status goes.0 on.0 on.1),
      (keeps_same after, refl),
    ),
  )

-- a part that doesn't begin
pub begins_not : (whole past : List HistoryEntry) (start : PartStart) (sole : Bool) (origin : EngineView) (trees : List TreeMap) (number hives : ℕ) (known before after : Option (List ℕ)) (why : Refusal) {E : Type 0} (r : Result Status E) → MayNotBegin whole past sole origin trees number hives why → IfOk r (λ status. (status ≡ Refused) × Appends before after (refusal_text why ++ 10 ∷ [])) → IfOk r (λ status. RunsFrom whole past start sole origin trees number hives known before after status)
begins_not whole past start sole origin trees number hives known before after why r may h =
    if_ok (λ status. (status ≡ Refused) × Appends before after (refusal_text why ++ 10 ∷ [])) (λ status. RunsFrom whole past start sole origin trees number hives known before after status) r (λ status said. (Err why, before, may, appends_nothing before, (said.1, said.0))) h

-- the next part after a fold
pub folded_from : (whole past : List HistoryEntry) (start : PartStart) (next : NextPart) (at : ℕ) (sole : Bool) (origin : EngineView) (trees : List TreeMap) (number hives : ℕ) (seen : Sight) (known before rest mid after : Option (List ℕ)) (status : Status) (stands : LiesIn sole whole past origin seen) (folding : List HistoryEntry) (unasked : IsUnasked folding) (old new : Machine) (begun : EngineView)
    → (end_of origin stands.own).machine ≡ old → end_of origin (stands.own ++ folding) ≡ begun → IsPrefix (past ++ (stands.own ++ folding)) whole → IsOf trees number hives old → IsFoldedAt old new at → EndsPart whole past start sole origin trees number hives seen known before (ToFold next) rest mid
    → RunsFrom whole (past ++ (stands.own ++ folding)) (record start { kind = next.kind; number = at; line = next.line; moment = next.moment }) sole begun new.opened new.before new.bounds.hives rest mid after status → RunsFrom whole past start sole origin trees number hives known before after (with_refusal next.has_refusal status)
folded_from whole past start next at sole origin trees number hives seen known before rest mid after status stands folding unasked old new begun left led within of is ends runs =
    let all = past ++ (stands.own ++ folding) in
    let opened = is.opened ∙ ap (λ (t : List TreeMap). after_elements t old.accepted) of.opened ∙ sym (ap (λ (m : Machine). after_elements trees m.accepted) left) in
    let numbered = is.before ∙ ap (λ (n : ℕ). n + length old.accepted) of.before ∙ sym (ap (λ (m : Machine). number + length m.accepted) left) in
    let named = is.hives ∙ of.hives in
    let own = (end_of origin stands.own).machine in
    let begins =
    subst (λ (p : EngineView). BeginsOrNot whole all sole p (after_elements trees own.accepted) (number + length own.accepted) hives next.moment runs.0) (sym led)
    (subst (λ (h : ℕ). BeginsOrNot whole all sole begun (after_elements trees own.accepted) (number + length own.accepted) h next.moment runs.0) named
    (subst (λ (n : ℕ). BeginsOrNot whole all sole begun (after_elements trees own.accepted) n new.bounds.hives next.moment runs.0) numbered (subst (λ (t : List TreeMap). BeginsOrNot whole all sole begun t new.before new.bounds.hives next.moment runs.0) opened runs.2))) in
    ends runs.0 runs.1 after status (stands, inl (record { folding = folding; unasked = unasked; within = within; begins = begins })) runs.3 runs.4

-- a fold that is refused
pub not_folded : (whole past : List HistoryEntry) (start : PartStart) (next : NextPart) (sole : Bool) (origin : EngineView) (trees : List TreeMap) (number hives : ℕ) (seen : Sight) (known before rest mid after : Option (List ℕ)) (why : Refusal) {E : Type 0} (r : Result Status E) (stands : LiesIn sole whole past origin seen) → asked_in whole ≡ asked_in (past ++ stands.own) → EndsPart whole past start sole origin trees number hives seen known before (ToFold next) rest mid → MayNotFold why → IfOk r (λ status. (status ≡ Refused) × Appends mid after (refusal_text why ++ 10 ∷ []))
    → IfOk r (λ status. RunsFrom whole past start sole origin trees number hives known before after (with_refusal next.has_refusal status))
not_folded whole past start next sole origin trees number hives seen known before rest mid after why r stands last ends may h =
    if_ok (λ status. (status ≡ Refused) × Appends mid after (refusal_text why ++ 10 ∷ [])) (λ status. RunsFrom whole past start sole origin trees number hives known before after (with_refusal next.has_refusal status)) r
    (λ status said. ends (Err why) mid after status (stands, inr (why, may, refl, last)) (appends_nothing mid) (said.1, said.0)) h

-- a run with the refusals before it
pub with_earlier : {E : Type 0} (P Q : Status → Type 0) (refused : Bool) (r ran : Result Status E) → ((status : Status) → P status → Q (with_refusal refused status)) → (IsOk r → IsOk ran) → IfOk r (λ status. IfOk ran (λ later. status ≡ with_refusal refused later)) → IfOk ran P → IfOk r Q
with_earlier P Q refused (Ok status) (Ok later) goes also is h = subst Q (sym is) (goes later h)
with_earlier P Q refused (Ok status) (Err e) goes also is h = absurd (true≢false (sym (also refl)))
with_earlier P Q refused (Err e) ran goes also is h = tt

-- A run

-- one part after another: from the first part that begins so, the run goes to its end
pub run_from : (whole : List HistoryEntry) (limit number hives : ℕ) (can_read : Bool) (sole : Bool) (origin : EngineView) (trees : List TreeMap) (known before after : Option (List ℕ)) (status : Status) → RunsFrom whole [] (record { kind = Opened; number = number; limit = limit; can_read = can_read; line = 1; moment = 0 }) sole origin trees number hives known before after status → RunsOrNot whole limit can_read known sole origin trees number hives before after status
run_from whole limit number hives can_read sole origin trees known before after status (Err why, told, begins, printed, on) =
    inl (record { why = why; may_be = begins; reported = kept_appends before told after (refusal_text why ++ 10 ∷ []) (kept_by_nothing before told printed) on.0; status_is = on.1 })
run_from whole limit number hives can_read sole origin trees known before after status (Ok one, told, begins, printed, on) =
    let same : one ≡ record { past = []; sole = sole; start = origin; trees = trees; number = number; hives = hives; script = one.script } =
    ap (λ (q : List HistoryEntry). record { past = q; sole = one.sole; start = one.start; trees = one.trees; number = one.number; hives = one.hives; script = one.script }) begins.0
    ∙ ap (λ (b : Bool). record { past = []; sole = b; start = one.start; trees = one.trees; number = one.number; hives = one.hives; script = one.script }) begins.1
    ∙ ap (λ (p : EngineView). record { past = []; sole = sole; start = p; trees = one.trees; number = one.number; hives = one.hives; script = one.script }) begins.2
    ∙ ap (λ (t : List TreeMap). record { past = []; sole = sole; start = origin; trees = t; number = one.number; hives = one.hives; script = one.script }) begins.3
    ∙ ap (λ (n : ℕ). record { past = []; sole = sole; start = origin; trees = trees; number = n; hives = one.hives; script = one.script }) begins.4
    ∙ ap (λ (h : ℕ). record { past = []; sole = sole; start = origin; trees = trees; number = number; hives = h; script = one.script }) begins.5 in
    let play = on.3 in
    inr (
      play.0,
      play.1,
      play.3,
      record {
        opened = told;
        told = subst (λ n. Appends before told (opened_text n)) begins.4 printed;
        script = one.script;
        begun = begins.6;
        text = play.2;
        came_to = on.1;
        end = on.0;
        plays = subst (λ (p : Part). PlaysOn whole limit (Ok p) 1 play.0 play.1 play.2 on.1 on.0) same play.4;
        played = on.2;
        wrote = play.5;
        ends = on.4;
      },
    )

-- Openings

-- of an engine that was just opened a registry may be made
pub begins_idle : (hives number room : ℕ) (trees : List TreeMap) (machine : Machine) → BeginsAt hives number trees room [] machine → IsIdle machine
begins_idle hives number room trees machine begins = subst IsIdle (sym begins) (refl, refl)

-- its number is the store's last
pub begins_before : (hives number room : ℕ) (trees : List TreeMap) (machine : Machine) → BeginsAt hives number trees room [] machine → machine.before ≡ number
begins_before hives number room trees machine begins = ap (λ (m : Machine). m.before) begins
