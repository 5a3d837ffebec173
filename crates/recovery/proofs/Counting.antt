-- How many steps of a repair are left, hive by hive.
use Rattle.std.proofs.Common.{◌≡◌, ℕ, zero, suc, ◌+◌, ◌<◌, ◌≤◌, List, [], ◌∷◌, ◌++◌, length, refl, ap, subst, arith, Some, slice_get}
use Rattle.std.specs.Prelude.{slice_set, OnOk, Result, Ok, Err}
use Rattle.std.proofs.lemmas.Option.{same_Some}
use Rattle.std.proofs.lemmas.List.Sums.{sum_by-append}
use Rattle.disk_model.specs.FileState.{FileState}
use Rattle.disk_model.specs.StoreFiles.{IsJournal, primary_file, log_file}
use Rattle.hive_flush.specs.HiveStates as hive
use Rattle.hive_flush.specs.declared.hive.HiveFile.{HiveFile}
use Rattle.engine_invariant.proofs.HiveLists.{at_slot}
use Rattle.recovery.specs.Invariant.{AreWhole}
use Rattle.recovery.specs.Recovered.{seen_in}
use Rattle.recovery.specs.Repairs.{most_repairs, repairs_left}
use Rattle.recovery.specs.Shown.{Shown}

-- if a hive has fewer left, the store has
pub fewer_left : (hives : List HiveFile) (k : ℕ) (old new : HiveFile) → slice_get hives k ≡ Some old → hive.repairs_left new < hive.repairs_left old → repairs_left (slice_set hives k new) < repairs_left hives
fewer_left [] k old new is less = absurd cc
fewer_left (h ∷ hives) zero old new is less =
    let set : slice_set (h ∷ hives) 0 new ≡ new ∷ hives = refl in
    omega (arith, less, ap hive.repairs_left (same_Some h old is), ap repairs_left set, sum_by-append hive.repairs_left (h ∷ []) hives, sum_by-append hive.repairs_left (new ∷ []) hives)
fewer_left (h ∷ hives) (suc k) old new is less =
    let set : slice_set (h ∷ hives) (suc k) new ≡ h ∷ slice_set hives k new = refl in
    let rest = fewer_left hives k old new is less in
    omega (arith, rest, ap repairs_left set, sum_by-append hive.repairs_left (h ∷ []) hives, sum_by-append hive.repairs_left (h ∷ []) (slice_set hives k new))

-- files that are the same take as many
pub most_same : (files other : ℕ → List ℕ) (n : ℕ) → ((i : ℕ) → files (primary_file i) ≡ other (primary_file i)) → ((i : ℕ) → files (log_file i) ≡ other (log_file i)) → most_repairs files n ≡ most_repairs other n
most_same files other zero primary log = refl
most_same files other (suc n) primary log = λ i. most_same files other n primary log i + hive.most_repairs (primary n i) (log n i)

-- one more hive
pub one_more_left : (files mid : ℕ → FileState) (hives : List HiveFile) (n : ℕ) (h : HiveFile) → ((f : ℕ) → (mid f).seen ≡ (files f).seen) → repairs_left hives ≤ most_repairs (seen_in files) n
    → hive.repairs_left h ≤ hive.most_repairs (mid (primary_file n)).seen (mid (log_file n)).seen → repairs_left (hives ++ h ∷ []) ≤ most_repairs (seen_in files) (n + 1)
one_more_left files mid hives n h same before here =
    let own = subst (λ (p : List ℕ). hive.repairs_left h ≤ hive.most_repairs p (files (log_file n)).seen) (same (primary_file n))
    (subst (λ (l : List ℕ). hive.repairs_left h ≤ hive.most_repairs (mid (primary_file n)).seen l) (same (log_file n)) here) in
    let all = sum_by-append hive.repairs_left hives (h ∷ []) in
    let next : suc n ≡ n + 1 = omega arith in
    subst (λ (m : ℕ). repairs_left (hives ++ h ∷ []) ≤ most_repairs (seen_in files) m) next (omega (arith, own, before, all))

-- the journal's file has nothing to do with it
pub most_beside : (old mid : ℕ → FileState) (n : ℕ) → ((f : ℕ) → ¬ (IsJournal f) → mid f ≡ old f) → most_repairs (seen_in mid) n ≡ most_repairs (seen_in old) n
most_beside old mid n others = most_same (seen_in mid) (seen_in old) n (λ i. ap (λ (s : FileState). s.seen) (others (primary_file i) (λ e. omega (arith, e)))) (λ i. ap (λ (s : FileState). s.seen) (others (log_file i) (λ e. omega (arith, e))))

-- what holds if a step was made holds if it was not refused
pub as_journal_damage : {T E P : Type 0} (result : Result T E) → ((why : E) → result ≡ Err why → ⊥) → OnOk result P → P
as_journal_damage (Ok x) not p = p
as_journal_damage (Err why) not p = absurd (not why refl)

-- a store as it is shown has as many left
pub fewer_shown : {D : Type 0} (inside it : Shown D) → inside ≡ it → (n : ℕ) → n < repairs_left inside.found.hives.items → n < repairs_left it.found.hives.items
fewer_shown {D = D} inside it is n less = subst (λ (x : Shown D). n < repairs_left x.found.hives.items) is less

-- if the hive of an index is not whole, not all are
pub some_left : (hives : List HiveFile) (place : ℕ) → place < length hives → ((h : HiveFile) → slice_get hives place ≡ Some h → hive.HiveIsRepaired h → ⊥) → AreWhole hives → ⊥
some_left hives place lt not whole =
    let at = at_slot hives place lt in
    not at.0 at.1 (whole place at.0 at.1)
