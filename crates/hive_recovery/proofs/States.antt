-- Entries over bytes of several states.
use Rattle.std.proofs.Common.{◌≡◌, ◌⊎◌, ℕ, zero, suc, ◌+◌, ◌-◌, List, [], ◌∷◌, length, Option, Some, slice_index, refl, sym, ◌∙◌, subst, inl, inr}
use Rattle.std.proofs.lemmas.Bool.{cases_lt}
use Rattle.hive_log_entries.specs.Pages.{page_count, reference_at, page_bytes}
use Rattle.hive_recovery.specs.Laid.{pages_laid, entry_laid, laid, IsByteOfState}
use Rattle.hive_recovery.proofs.Parts.{part_before, part_within, part_behind}

-- pages leave a place as it is in each image, or give it one byte in each
pages_at : (entry : List ℕ) (place n : ℕ) → ((image : ℕ → Option ℕ) → pages_laid image entry n place ≡ image place) ⊎ ((byte : Option ℕ) × ((image : ℕ → Option ℕ) → pages_laid image entry n place ≡ byte))
pages_at entry place zero = inl (λ image. refl)
pages_at entry place (suc n) =
    let offset = (reference_at entry n).offset in
    let bytes = page_bytes entry n in
    elim (cases_lt place offset) [
      | inl before ↦ elim (pages_at entry place n) [
        | inl through ↦ inl (λ image. part_before (pages_laid image entry n) offset (length bytes) bytes place before ∙ through image)
        | inr given ↦ inr (given.0, λ image. part_before (pages_laid image entry n) offset (length bytes) bytes place before ∙ given.1 image)
      ]
      | inr from ↦ elim (cases_lt place (offset + length bytes)) [
        | inl within ↦ inr (Some (slice_index bytes (place - offset)), λ image. part_within (pages_laid image entry n) offset (length bytes) bytes place from within)
        | inr behind ↦ elim (pages_at entry place n) [
          | inl through ↦ inl (λ image. part_behind (pages_laid image entry n) offset (length bytes) bytes place from behind ∙ through image)
          | inr given ↦ inr (given.0, λ image. part_behind (pages_laid image entry n) offset (length bytes) bytes place from behind ∙ given.1 image)
        ]
      ]
    ]

first_state : (image : ℕ → Option ℕ) (entries : List (List ℕ)) (place : ℕ) (byte : Option ℕ) → byte ≡ image place → IsByteOfState image entries place byte
first_state image [] place byte same = same
first_state image (entry ∷ rest) place byte same = inl same

one_entry_on : (entry : List ℕ) (rest : List (List ℕ)) (image file : ℕ → Option ℕ) (place : ℕ) → IsByteOfState image (entry ∷ rest) place (file place) → IsByteOfState (entry_laid image entry) rest place (entry_laid file entry place)
one_entry_on entry rest image file place has =
    elim (pages_at entry place (page_count entry)) [
      | inl through ↦ elim has [
        | inl same ↦ first_state (entry_laid image entry) rest place (entry_laid file entry place) (through file ∙ same ∙ sym (through image))
        | inr later ↦ let P : Option ℕ → Type 0 = λ byte. IsByteOfState (entry_laid image entry) rest place byte in subst P (sym (through file)) later
      ]
      | inr given ↦ first_state (entry_laid image entry) rest place (entry_laid file entry place) (given.1 file ∙ sym (given.1 image))
    ]

pub last_state : (entries : List (List ℕ)) (image file : ℕ → Option ℕ) (place : ℕ) → IsByteOfState image entries place (file place) → laid file entries place ≡ laid image entries place
last_state [] image file place has = has
last_state (entry ∷ rest) image file place has = last_state rest (entry_laid image entry) (entry_laid file entry) place (one_entry_on entry rest image file place has)
