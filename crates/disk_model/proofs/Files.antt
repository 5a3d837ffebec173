-- The states of a disk's files after one is made, or changed.
use Rattle.std.proofs.Common.{◌≡◌, ◌≢◌, ℕ, zero, suc, ◌<◌, List, [], ◌∷◌, ◌++◌, length, get_or, set, refl, sym, ◌∙◌, ap, arith}
use Rattle.disk_model.specs.FileState.{at_rest}
use Rattle.disk_model.specs.MemFile.{file_state, state_of}
use Rattle.disk_model.specs.declared.mem_file.MemFile.{MemFile}

-- a file that was never written is as one that isn't there
pub state_of_push : (files : List MemFile) (file : MemFile) (f : ℕ) → file_state file ≡ at_rest [] → state_of (files ++ file ∷ []) f ≡ state_of files f
state_of_push [] file zero blank = blank
state_of_push [] file (suc f) blank = refl
state_of_push (m ∷ files) file zero blank = refl
state_of_push (m ∷ files) file (suc f) blank = state_of_push files file f blank

pub state_of_set_same : (files : List MemFile) (file : MemFile) (f : ℕ) → f < length files → state_of (set files f file) f ≡ file_state file
state_of_set_same [] file f in_files = absurd (omega arith)
state_of_set_same (m ∷ files) file zero in_files = refl
state_of_set_same (m ∷ files) file (suc f) in_files = state_of_set_same files file f (omega arith)

pub state_of_set_other : (files : List MemFile) (file : MemFile) (f g : ℕ) → g ≢ f → state_of (set files f file) g ≡ state_of files g
state_of_set_other [] file f g other = refl
state_of_set_other (m ∷ files) file zero zero other = absurd (other refl)
state_of_set_other (m ∷ files) file zero (suc g) other = refl
state_of_set_other (m ∷ files) file (suc f) zero other = refl
state_of_set_other (m ∷ files) file (suc f) (suc g) other = state_of_set_other files file f g (λ e. other (omega (arith, e)))

-- the state of a file that is there
pub state_of_there : (files : List MemFile) (file : MemFile) (f : ℕ) → f < length files → file ≡ get_or files f file → state_of files f ≡ file_state file
state_of_there [] file f in_files is = absurd (omega arith)
state_of_there (m ∷ files) file zero in_files is = ap file_state (sym is)
state_of_there (m ∷ files) file (suc f) in_files is = state_of_there files file f (omega arith) is

-- a file replaced by one of the same state
pub state_of_replaced : (files : List MemFile) (file other : MemFile) (i : ℕ) → file ≡ get_or files i file → file_state other ≡ file_state file → (f : ℕ) → state_of (set files i other) f ≡ state_of files f
state_of_replaced [] file other i is same f = refl
state_of_replaced (m ∷ files) file other zero is same zero = same ∙ ap file_state is
state_of_replaced (m ∷ files) file other zero is same (suc f) = refl
state_of_replaced (m ∷ files) file other (suc i) is same zero = refl
state_of_replaced (m ∷ files) file other (suc i) is same (suc f) = state_of_replaced files file other i is same f

-- a list of files, one of which is changed
pub ruleset one_changed = (state_of_set_same, state_of_set_other, state_of_there)
