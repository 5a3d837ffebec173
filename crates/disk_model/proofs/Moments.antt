-- A disk in memory, as one more moment goes by.
use Rattle.std.proofs.Common.{◌≡◌, ℕ, zero, suc, refl, ◌+◌, ◌-◌, ◌≤◌, List, [], ◌∷◌, length, get_or, ◌∙◌, ap, add-one, arith}
use Rattle.disk_model.specs.FileState.{at_rest}
use Rattle.disk_model.specs.Call.{Passes}
use Rattle.disk_model.specs.MemFile.{state_of}
use Rattle.disk_model.specs.MemDisk.{earlier, states}
use Rattle.disk_model.specs.declared.mem_file.MemFile.{MemFile}
use Rattle.disk_model.specs.declared.history.DiskHistory.{DiskHistory, Begun}

-- at the present moment a file's state is its state in the files as they are
pub states_now : (past : DiskHistory) (files : List MemFile) (f : ℕ) → states past files (length (earlier past)) f ≡ state_of files f
unfolding states
states_now past files f =
    let here : length (earlier past) - length (earlier past) ≡ 0 = omega arith in
    ap (λ (i : ℕ). state_of (get_or (files ∷ earlier past) i []) f) here

pub states_earlier : (past later : DiskHistory) (files changed : List MemFile) (k f : ℕ) → earlier later ≡ files ∷ earlier past → k ≤ length (earlier past)
    → states later changed k f ≡ states past files k f
unfolding states
states_earlier past later files changed k f is le =
    let back : length (files ∷ earlier past) - k ≡ (length (earlier past) - k) + 1 = omega arith in
    ap (λ (l : List (List MemFile)). state_of (get_or (changed ∷ l) (length l - k) []) f) is
    ∙ ap (λ (i : ℕ). state_of (get_or (changed ∷ files ∷ earlier past) i []) f) back
    ∙ rw add-one

pub passes : (past later : DiskHistory) (files changed : List MemFile) → earlier later ≡ files ∷ earlier past
    → Passes (states past files) (states later changed) (length (earlier past)) (length (earlier later))
passes past later files changed is = record {
  clock = omega (arith, ap length is);
  past = λ k f le. states_earlier past later files changed k f is le;
}

-- a disk that was never used
pub states_begun : (files : List MemFile) (k f : ℕ) → files ≡ [] → states Begun files k f ≡ at_rest []
unfolding states
states_begun files k f none =
    let first : 0 - k ≡ 0 = omega arith in
    ap (λ (i : ℕ). state_of (get_or (files ∷ []) i []) f) first ∙ ap (λ (l : List MemFile). state_of l f) none

-- other files of the same states
pub states_same : (past : DiskHistory) (files changed : List MemFile) → ((f : ℕ) → state_of changed f ≡ state_of files f) → (k f : ℕ) → states past changed k f ≡ states past files k f
unfolding states
states_same past files changed same k f = by_index (length (earlier past) - k)
  where
    by_index : (i : ℕ) → state_of (get_or (changed ∷ earlier past) i []) f ≡ state_of (get_or (files ∷ earlier past) i []) f
    by_index zero = same f
    by_index (suc i) = refl

-- what holds of the files as they are holds of them at the present moment
pub ruleset one_moment = (states_now, passes)
