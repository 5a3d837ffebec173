-- Openings that came to nothing lose nothing.
use Rattle.std.proofs.Common.{inl, inr, ℕ, ◌≤◌, List, refl, sym, subst, arith}
use Rattle.disk_model.specs.FileState.{FileState, IsSound}
use Rattle.disk_model.specs.MemSound.{sound-at_rest}
use Rattle.disk_model.specs.Crash.{HonestSince, LeavesHonest}
use Rattle.disk_model.specs.ReadOnly.{IsSyncedOrSame, OnlySyncs}
use Rattle.disk_model.proofs.Crashes.{shown_left}
use Rattle.disk_model.proofs.Unwritten.{left_again, left_at_first, shown_after, synced_still}
use Rattle.engine_invariant.specs.Prefixes.{IsPrimaryOf}
use Rattle.recovery.specs.Beginnings.{AllCameToNothing, CameToNothing, MayBegin, after_crash, none_yet, one_more}
use Rattle.recovery.specs.Recovered.{seen_in}

pub after_crashes : (hives : ℕ) (files : ℕ → List ℕ) → MayBegin hives (after_crash files)
after_crashes hives files = record { sound = λ f. sound-at_rest (files f); honest = λ f has. inl refl }

sound_after : (old new : FileState) → IsSound old → IsSyncedOrSame old new → IsSound new
sound_after old new sound (inl same) = subst IsSound (sym same) sound
sound_after old new sound (inr syncs) = subst IsSound (sym syncs) (sound-at_rest old.seen)

-- Whatever a crash leaves of these files, with honest first sectors, one might have left of those.
abbrev LeaveNoMore : ℕ → (ℕ → FileState) → (ℕ → FileState) → Type 0
LeaveNoMore hives first last = (files : ℕ → List ℕ) → LeavesHonest (IsPrimaryOf hives) last files → LeavesHonest (IsPrimaryOf hives) first files

module _ (hives : ℕ) (old new : ℕ → ℕ → FileState) (start end : ℕ) (syncs : OnlySyncs old new start end) (begins : MayBegin hives (old start)) where
  left_since : (files : ℕ → List ℕ) → HonestSince (IsPrimaryOf hives) new end start files → LeavesHonest (IsPrimaryOf hives) (old start) files
  left_since = left_at_first (IsPrimaryOf hives) old new start end syncs begins.honest begins.sound

  at_end : MayBegin hives (new end) × LeaveNoMore hives (old start) (new end)
  at_end = (
    record {
      sound = λ f. sound_after (old start f) (new end f) (begins.sound f) (synced_still syncs f);
      honest = shown_after (IsPrimaryOf hives) old new start end syncs begins.honest end syncs.time.later (omega arith);
    },
    λ files left. left_since files (end, syncs.time.later, omega arith, left),
  )

  at_crash : (k : ℕ) (files : ℕ → List ℕ) → start ≤ k → k ≤ end → LeavesHonest (IsPrimaryOf hives) (new k) files → MayBegin hives (after_crash files) × LeaveNoMore hives (old start) (after_crash files)
  at_crash k files from upto left = (
    after_crashes hives files,
    λ others again. subst (LeavesHonest (IsPrimaryOf hives) (old start)) (sym (left_again files others again.0)) (left_since files (k, from, upto, left)),
  )

one : (hives : ℕ) (first last : ℕ → FileState) → MayBegin hives first → CameToNothing hives first last → MayBegin hives last × LeaveNoMore hives first last
one hives first last begins o =
    let own : MayBegin hives (o.old o.start) = subst (MayBegin hives) o.begins begins in
    let kept : MayBegin hives last × LeaveNoMore hives (o.old o.start) last = elim (o.ends) [
      | inl e ↦ subst (λ (s : ℕ → FileState). MayBegin hives s × LeaveNoMore hives (o.old o.start) s) (sym e) (at_end hives o.old o.new o.start o.end o.syncs own)
      | inr c ↦ subst (λ (s : ℕ → FileState). MayBegin hives s × LeaveNoMore hives (o.old o.start) s) (sym c.5) (at_crash hives o.old o.new o.start o.end o.syncs own c.0 c.1 c.2 c.3 c.4)
    ] in
    (kept.0, subst (λ (s : ℕ → FileState). LeaveNoMore hives s last) (sym o.begins) kept.1)

pub all : (hives : ℕ) (first last : ℕ → FileState) → MayBegin hives first → AllCameToNothing hives first last → MayBegin hives last × LeaveNoMore hives first last
all hives first last begins (none_yet end same) = (subst (MayBegin hives) (sym same) begins, λ files left. subst (λ (s : ℕ → FileState). LeavesHonest (IsPrimaryOf hives) s files) same left)
all hives first last begins (one_more mid end before store_opening) =
    let earlier = all hives first mid begins before in
    let later = one hives mid last earlier.0 store_opening in
    (later.0, λ files left. earlier.1 files (later.1 files left))

-- what a read gives then might have been left at first
pub read_then : (hives : ℕ) (first last : ℕ → FileState) → MayBegin hives first → AllCameToNothing hives first last → LeavesHonest (IsPrimaryOf hives) first (seen_in last)
read_then hives first last begins openings =
    let kept = all hives first last begins openings in
    kept.1 (seen_in last) (shown_left (IsPrimaryOf hives) last kept.0.sound kept.0.honest)
