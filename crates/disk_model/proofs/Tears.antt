-- The files of a disk in memory after a crash, one by one.
use Rattle.std.proofs.Common.{◌≡◌, ⊎_elim, ℕ, zero, suc, ◌+◌, ◌<◌, ◌≤◌, List, [], ◌∷◌, ◌++◌, length, get_or, refl, sym, subst, arith}
use Rattle.std.proofs.lemmas.Bool.{cases_lt}
use Rattle.disk_model.specs.FileState.{FileState, at_rest}
use Rattle.disk_model.specs.MemFile.{file_state, state_of}
use Rattle.disk_model.specs.ReadGives.{ReadGivesLastWrites}
use Rattle.disk_model.specs.Tear.{IsCrashOf}
use Rattle.disk_model.specs.declared.mem_file.MemFile.{MemFile}
use Rattle.disk_model.specs.declared.tear.Tear.{Tear}
use Rattle.disk_model.specs.declared.tear.Tear.TheVariants.{Old, New, Torn}
use Rattle.disk_model.proofs.Files.{state_of_there}

-- a file that was never written is left so
crash_of_none : (tear : Tear) → IsCrashOf tear (at_rest []) (at_rest [])
crash_of_none Old = ([], refl, refl)
crash_of_none New = ([], refl, refl)
crash_of_none Torn = ([], record { size = refl; each = λ p in_none. refl }, refl)

state_of_past : (files : List MemFile) (f : ℕ) → length files ≤ f → state_of files f ≡ at_rest []
state_of_past [] f past = refl
state_of_past (file ∷ files) zero past = absurd (omega arith)
state_of_past (file ∷ files) (suc f) past = state_of_past files f (omega arith)

state_of_front : (files : List MemFile) (file : MemFile) (f : ℕ) → f < length files → state_of (files ++ file ∷ []) f ≡ state_of files f
state_of_front [] file f front = absurd (omega arith)
state_of_front (m ∷ files) file zero front = refl
state_of_front (m ∷ files) file (suc f) front = state_of_front files file f (omega arith)

state_of_end : (files : List MemFile) (file : MemFile) (f : ℕ) → length files ≡ f → state_of (files ++ file ∷ []) f ≡ file_state file
state_of_end [] file zero end = refl
state_of_end [] file (suc f) end = absurd (omega arith)
state_of_end (m ∷ files) file zero end = absurd (omega arith)
state_of_end (m ∷ files) file (suc f) end = state_of_end files file f (omega arith)

module _ (tear : Tear) (files after : List MemFile) where
  pub crash_of_one_more : (file left : MemFile) (i : ℕ) → length after ≡ i → i < length files → file ≡ get_or files i file → IsCrashOf tear (file_state file) (file_state left)
      → ((f : ℕ) → f < i → IsCrashOf tear (state_of files f) (state_of after f)) → (f : ℕ) → f < i + 1 → IsCrashOf tear (state_of files f) (state_of (after ++ left ∷ []) f)
  crash_of_one_more file left i size in_files is crash so_far f below = ⊎_elim before here (cases_lt f i)
    where
      before : f < i → IsCrashOf tear (state_of files f) (state_of (after ++ left ∷ []) f)
      before lt = subst (IsCrashOf tear (state_of files f)) (sym (state_of_front after left f (omega arith))) (so_far f lt)

      here : i ≤ f → IsCrashOf tear (state_of files f) (state_of (after ++ left ∷ []) f)
      here le =
          let at_end : f ≡ i = omega arith in
          subst (λ (n : ℕ). IsCrashOf tear (state_of files n) (state_of (after ++ left ∷ []) n)) (sym at_end)
          (subst (λ (s : FileState). IsCrashOf tear s (state_of (after ++ left ∷ []) i)) (sym (state_of_there files file i (omega arith) is))
          (subst (IsCrashOf tear (file_state file)) (sym (state_of_end after left i size)) crash))

  pub crash_of_all : (i : ℕ) → length after ≡ i → length files ≤ i → ((f : ℕ) → f < i → IsCrashOf tear (state_of files f) (state_of after f)) → (f : ℕ) → IsCrashOf tear (state_of files f) (state_of after f)
  crash_of_all i size all so_far f = ⊎_elim (so_far f) past (cases_lt f i)
    where
      past : i ≤ f → IsCrashOf tear (state_of files f) (state_of after f)
      past le =
          subst (λ (s : FileState). IsCrashOf tear s (state_of after f)) (sym (state_of_past files f (omega arith)))
          (subst (IsCrashOf tear (at_rest [])) (sym (state_of_past after f (omega arith))) (crash_of_none tear))

whole-at_rest : (bytes : List ℕ) → ReadGivesLastWrites (at_rest bytes)
whole-at_rest bytes p below = refl

pub whole-state_of : (files : List MemFile) (f : ℕ) → ReadGivesLastWrites (state_of files f)
whole-state_of [] f = whole-at_rest []
whole-state_of (file ∷ files) zero = file.whole
whole-state_of (file ∷ files) (suc f) = whole-state_of files f
