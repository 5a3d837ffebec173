-- How a change of a store is made, from the opening of the store to its end, and what is printed of it.
use Rattle.std.specs.Prelude.{◌≡◌, ◌⊎◌, ℕ, Bool, true, false, List, [], ◌∷◌, ◌++◌, Option, Some, None, Result, OnOk}
use Rattle.refusals.specs.declared.refusal.Refusal.{Refusal}
use Rattle.refusals.specs.Refusals.{refusal_text}
use Rattle.reg_tree.specs.declared.op.Op.{Op}
use Rattle.disk_model.specs.FileState.{FileState}
use Rattle.commit_journal.specs.Store.{Store}
use Rattle.store_model.specs.Machine.{Machine}
use Rattle.store_driver.specs.Work.{MakesSteps}
use Rattle.store_driver.specs.Later.{ReachedByEvents}
use Rattle.store_driver.specs.Openings.{IsOpenedOn, LeavesLife, LeavesPrefix, MayNotOpen, session_0}
use Rattle.store_change.specs.Commits.{AcceptsOps, KeepsAccepted}

-- After a change was made the steps that are left are made, up to one that is refused; else none is made.
abbrev pub Finishes : Bool → Option Refusal → Machine → Machine → Type 0
Finishes true refused old new = MakesSteps refused old new
Finishes false refused old new = (refused ≡ None) × (new ≡ old)

-- A store was opened on these files, and its change ended with this outcome. The disk as it was after the opening is
-- `first`. `can_end` says how a change may end, and `accepts` what it may accept. If all that was told could be written,
-- this was refused of the steps that were left after it, if anything was. The machine at the end is faulted only if the
-- device has failed. If the disk that is left is faithful, so was the first one; then whatever a crash leaves of it recovers
-- a prefix of what that machine accepted, with all that is durable, and so does what a read gives unless it is faulted.
pub record OpensAndChanges {D O T E : Type 0} (is_faithful : D → Type 0) (files : ℕ → List ℕ) (can_end : Machine → O → Machine → Type 0) (accepts : Machine → Machine → Type 0) (is_made : O → Bool) (outcome : O) (refused : Option Refusal) (told : Result T E) (failed faithful : Type 0) (states : ℕ → ℕ → FileState) (clock : ℕ) : Type 0 where
  pub first : D
  pub store : Store
  pub number : ℕ
  pub begun : Machine
  pub opened : IsOpenedOn (is_faithful first) files store number session_0 begun
  pub mid : Machine
  pub ends : can_end begun outcome mid
  pub last : Machine
  pub finishes : OnOk told (Finishes (is_made outcome) refused mid last)
  pub comes : ReachedByEvents mid last
  pub all : accepts begun last
  pub faulted : last.faulted ≡ true → failed
  pub since : faithful → is_faithful first
  pub left : LeavesPrefix faithful states clock store last

-- No store was opened, the outcome is the one for this reason, and the disk has lived on; or one was, and its change ended
-- so.
abbrev pub ChangesStore : {D O T E : Type 0} → (D → Type 0) → (ℕ → List ℕ) → (ℕ → FileState) → (Machine → O → Machine → Type 0) → (Machine → Machine → Type 0) → (O → Bool) → (Refusal → O) → O → Option Refusal → Result T E → Type 0 → Type 0 → (ℕ → ℕ → FileState) → ℕ → Type 0
ChangesStore is_faithful files state can_end accepts is_made refusal_of outcome refused told failed faithful states clock =
    ((why : Refusal) × MayNotOpen failed faithful files why × (outcome ≡ refusal_of why) × (refused ≡ None) × LeavesLife failed faithful state (states clock))
    ⊎ OpensAndChanges is_faithful files can_end accepts is_made outcome refused told failed faithful states clock

-- what is printed: the line of the outcome, and that of what is refused of the steps that are left, if anything is
abbrev pub report_text : List ℕ → Option Refusal → List ℕ
report_text line None = line
report_text line (Some why) = line ++ (refusal_text why ++ 10 ∷ [])

-- All operations that may be asked for, for a unit of work, were accepted as one change at a moment; or nothing was.
abbrev pub AllOrNothing : (Machine → List ℕ → List Op → Type 0) → ℕ → Machine → Machine → Type 0
AllOrNothing may_ask moment old new = KeepsAccepted old new ⊎ ((id : List ℕ) × (ops : List Op) × may_ask old id ops × AcceptsOps old id moment ops new)
