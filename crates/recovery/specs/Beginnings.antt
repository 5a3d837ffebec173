-- On which files a life of a store may begin, and what openings that came to nothing leave of them.
use Rattle.std.specs.Prelude.{◌≡◌, ◌⊎◌, ℕ, ◌≤◌, List}
use Rattle.disk_model.specs.FileState.{FileState, IsSound, at_rest}
use Rattle.disk_model.specs.Crash.{LeavesHonest, ShowsHonest}
use Rattle.disk_model.specs.ReadOnly.{OnlySyncs}
use Rattle.engine_invariant.specs.Prefixes.{IsPrimaryOf}

-- A life of a store of `hives` hives may begin on these files: what a read gives of them is what a crash may leave,
-- with honest first sectors of its primary files.
pub record MayBegin (hives : ℕ) (state : ℕ → FileState) : Type 0 where
  pub sound : (f : ℕ) → IsSound (state f)
  pub honest : ShowsHonest (IsPrimaryOf hives) state

-- what a crash left, which counts as synced
abbrev pub after_crash : (ℕ → List ℕ) → ℕ → FileState
after_crash files f = at_rest (files f)

-- An opening that came to nothing, from the files on which it began to those on which the next life begins. At each
-- moment of it each file is as at first or synced, and at one of them a crash left files with honest first sectors. Or
-- it was refused, and the files are as at its end.
pub record CameToNothing (hives : ℕ) (first last : ℕ → FileState) : Type 0 where
  pub old : ℕ → ℕ → FileState
  pub new : ℕ → ℕ → FileState
  pub start : ℕ
  pub end : ℕ
  pub begins : first ≡ old start
  pub syncs : OnlySyncs old new start end
  pub ends : (last ≡ new end)
      ⊎ ((k : ℕ) × (files : ℕ → List ℕ) × (start ≤ k) × (k ≤ end) × LeavesHonest (IsPrimaryOf hives) (new k) files × (last ≡ after_crash files))

-- such openings one after another, none or more
pub data AllCameToNothing (hives : ℕ) (first : ℕ → FileState) : (ℕ → FileState) → Type 0 where
  none_yet : (last : ℕ → FileState) → last ≡ first → AllCameToNothing hives first last
  one_more : (mid last : ℕ → FileState) → AllCameToNothing hives first mid → CameToNothing hives mid last → AllCameToNothing hives first last
