-- Calls that write nothing, one after another, and what a crash leaves at each moment of them.
use Rattle.std.proofs.Common.{◌≡◌, inl, inr, ⊎_elim, ℕ, ◌<◌, ◌≤◌, List, refl, sym, ◌∙◌, ap, subst, arith}
use Rattle.std.specs.Prelude.{Result, Ok, Err, OnOk, OnErr}
use Rattle.std.proofs.lemmas.Bool.{cases_lt, cases_eq}
use Rattle.disk_model.specs.FileState.{FileState, at_rest, Leaves, IsSound, Syncs}
use Rattle.disk_model.specs.Call.{Passes, KeepsOthers, Extends}
use Rattle.disk_model.specs.Crash.{HonestSince, LeavesAll, LeavesHonest, ShowsHonest}
use Rattle.disk_model.specs.Sector.{IsHonest}
use Rattle.disk_model.specs.ReadOnly.{IsSyncedOrSame, OnlyReads, OnlySyncs}
use Rattle.disk_model.proofs.Crashes.{extends_none, extends_over}
use Rattle.disk_model.proofs.Leaves.{left_at_rest}

-- ---- one file

-- what a read gives stays by a sync, and one sync after another is one
pub seen_same : (old new : FileState) → IsSyncedOrSame old new → new.seen ≡ old.seen
seen_same old new (inl same) = ap (λ (s : FileState). s.seen) same
seen_same old new (inr syncs) = ap (λ (s : FileState). s.seen) syncs

pub synced_on : (old mid new : FileState) → IsSyncedOrSame old mid → IsSyncedOrSame mid new → IsSyncedOrSame old new
synced_on old mid new first (inl same) = subst (IsSyncedOrSame old) (sym same) first
synced_on old mid new first (inr syncs) = inr (syncs ∙ ap at_rest (seen_same old mid first))

-- what a crash leaves of a file that was synced it might have left before, with its first sector as honest as what a
-- read gave
left_before : (old new : FileState) (c : List ℕ) → IsSound old → IsSyncedOrSame old new → Leaves new c → Leaves old c
left_before old new c sound (inl same) left = subst (λ (s : FileState). Leaves s c) same left
left_before old new c sound (inr syncs) left = subst (Leaves old) (sym (left_at_rest old.seen c (subst (λ (s : FileState). Leaves s c) syncs left))) sound.left

honest_before : (old new : FileState) (c : List ℕ) → IsHonest old old.seen → IsSyncedOrSame old new → Leaves new c → IsHonest new c → IsHonest old c
honest_before old new c shown (inl same) left honest = subst (λ (s : FileState). IsHonest s c) same honest
honest_before old new c shown (inr syncs) left honest = subst (IsHonest old) (sym (left_at_rest old.seen c (subst (λ (s : FileState). Leaves s c) syncs left))) shown

honest_after : (old new : FileState) → IsHonest old old.seen → IsSyncedOrSame old new → IsHonest new new.seen
honest_after old new shown (inl same) = subst (λ (s : FileState). IsHonest s s.seen) (sym same) shown
honest_after old new shown (inr syncs) = subst (λ (s : FileState). IsHonest s s.seen) (sym syncs) (inl refl)

-- ---- calls one after another

-- the first moment, as it is seen later
at_first : (old new : ℕ → ℕ → FileState) (before now k f : ℕ) → Extends old new before now → before ≤ k → k ≤ before → new k f ≡ old before f
at_first old new before now k f time from upto = let is : k ≡ before = omega arith in time.past k f upto ∙ ap (λ (n : ℕ). old n f) is

passed : (old new : ℕ → ℕ → FileState) (before now : ℕ) → Passes old new before now → Extends old new before now
passed old new before now time = record { later = omega (arith, time.clock); past = time.past }

-- each file at the last moment
pub no_change : {old new : ℕ → ℕ → FileState} {before now : ℕ} → OnlyReads old new before now → (f : ℕ) → new now f ≡ old before f
no_change {now = now} reads f = reads.same now f reads.time.later (omega arith)

pub synced_still : {old new : ℕ → ℕ → FileState} {before now : ℕ} → OnlySyncs old new before now → (f : ℕ) → IsSyncedOrSame (old before f) (new now f)
synced_still {now = now} syncs f = syncs.each now f syncs.time.later (omega arith)

-- no call, and some after others
pub reads_none : (states : ℕ → ℕ → FileState) (clock : ℕ) → OnlyReads states states clock clock
reads_none states clock = record { time = extends_none states clock; same = λ k f from upto. at_first states states clock clock k f (extends_none states clock) from upto }

pub reads_on : (old mid new : ℕ → ℕ → FileState) (start before now : ℕ) → OnlyReads old mid start before → OnlyReads mid new before now → OnlyReads old new start now
reads_on old mid new start before now first second = record {
  time = extends_over old mid new start before now first.time second.time;
  same = λ k f from upto. ⊎_elim
      (λ (lt : k < before). second.time.past k f (omega arith) ∙ first.same k f from (omega arith))
      (λ (le : before ≤ k). second.same k f le upto ∙ no_change first f)
      (cases_lt k before);
}

-- calls that read, a call that syncs a file, or fails to, and some after others
pub only_reads : (old new : ℕ → ℕ → FileState) (before now : ℕ) → OnlyReads old new before now → OnlySyncs old new before now
only_reads old new before now reads = record { time = reads.time; each = λ k f from upto. inl (reads.same k f from upto) }

of_sync : {T E F : Type 0} (result : Result T E) (old new : FileState) → F → OnOk result (F → Syncs old new) → OnErr result (F → new ≡ old) → IsSyncedOrSame old new
of_sync (Ok x) old new faithful done failed = inr (done faithful)
of_sync (Err e) old new faithful done failed = inl (failed faithful)

pub sync_call : {T E F : Type 0} (result : Result T E) (file : ℕ) (old new : ℕ → ℕ → FileState) (before now : ℕ) → Passes old new before now → KeepsOthers file (old before) (new now)
    → OnOk result (F → Syncs (old before file) (new now file)) → OnErr result (F → new now file ≡ old before file) → F → OnlySyncs old new before now
sync_call result file old new before now time others done failed faithful = record {
  time = passed old new before now time;
  each = λ k f from upto. ⊎_elim
      (λ (lt : k < now). inl (at_first old new before now k f (passed old new before now time) from (omega (arith, lt, time.clock))))
      (λ (le : now ≤ k). let is : now ≡ k = omega arith in subst (λ (n : ℕ). IsSyncedOrSame (old before f) (new n f)) is (at_last f))
      (cases_lt k now);
}
  where
    at_last : (f : ℕ) → IsSyncedOrSame (old before f) (new now f)
    at_last f = elim (cases_eq f file) [
      | inl e ↦ subst (λ (n : ℕ). IsSyncedOrSame (old before n) (new now n)) (sym e) (of_sync result (old before file) (new now file) faithful done failed)
      | inr ne ↦ inl (others f ne)
    ]

pub syncs_on : (old mid new : ℕ → ℕ → FileState) (start before now : ℕ) → OnlySyncs old mid start before → OnlySyncs mid new before now → OnlySyncs old new start now
syncs_on old mid new start before now first second = record {
  time = extends_over old mid new start before now first.time second.time;
  each = λ k f from upto. ⊎_elim
      (λ (lt : k < before). subst (IsSyncedOrSame (old start f)) (sym (second.time.past k f (omega arith))) (first.each k f from (omega arith)))
      (λ (le : before ≤ k). synced_on (old start f) (mid before f) (new k f) (synced_still first f) (second.each k f le upto))
      (cases_lt k before);
}

-- ---- what a crash leaves

module _ (has_sector : ℕ → Type 0) (old new : ℕ → ℕ → FileState) (start now : ℕ) (syncs : OnlySyncs old new start now) (honest : ShowsHonest has_sector (old start)) where
  pub left_at_first : ((f : ℕ) → IsSound (old start f)) → (files : ℕ → List ℕ) → HonestSince has_sector new now start files → LeavesHonest has_sector (old start) files
  left_at_first sound files (k, from, upto, left) = (
    λ f. left_before (old start f) (new k f) (files f) (sound f) (syncs.each k f from upto) (left.0 f),
    λ f has. honest_before (old start f) (new k f) (files f) (honest f has) (syncs.each k f from upto) (left.0 f) (left.1 f has),
  )

  pub shown_after : (k : ℕ) → start ≤ k → k ≤ now → ShowsHonest has_sector (new k)
  shown_after k from upto f has = honest_after (old start f) (new k f) (honest f has) (syncs.each k f from upto)

-- what a crash left counts as synced: another one leaves just that
pub left_again : (files others : ℕ → List ℕ) → LeavesAll (λ f. at_rest (files f)) others → others ≡ files
left_again files others left = λ i f. left_at_rest (files f) (others f) (left f) i
