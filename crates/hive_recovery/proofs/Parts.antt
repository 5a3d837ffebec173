-- Bytes that are laid over an image, one by one.
use Rattle.std.proofs.Common.{◌≡◌, ◌⊎◌, ◌<◌, ◌≤◌, ℕ, ◌+◌, ◌-◌, List, length, Option, Some, None, slice_index, get_or, set, refl, sym, ◌∙◌, ap, subst, inl, inr, arith, get_or-set_same, get_or-set_other, length-set}
use Rattle.std.proofs.lemmas.Bool.{cases_lt, lt-ltb, le-ltb}
use Rattle.hive_recovery.specs.Laid.{part_laid, overlaid, HoldsImage}

-- before the offset, in the part, and behind it
pub part_before : (image : ℕ → Option ℕ) (offset count : ℕ) (bytes : List ℕ) (place : ℕ) → place < offset → part_laid image offset count bytes place ≡ image place
part_before image offset count bytes place less = rw (lt-ltb place offset less) refl

pub part_within : (image : ℕ → Option ℕ) (offset count : ℕ) (bytes : List ℕ) (place : ℕ) → offset ≤ place → place < offset + count → part_laid image offset count bytes place ≡ Some (slice_index bytes (place - offset))
part_within image offset count bytes place least less = rw (le-ltb place offset least) (rw (lt-ltb place (offset + count) less) refl)

pub part_behind : (image : ℕ → Option ℕ) (offset count : ℕ) (bytes : List ℕ) (place : ℕ) → offset ≤ place → offset + count ≤ place → part_laid image offset count bytes place ≡ image place
part_behind image offset count bytes place least past = rw (le-ltb place offset least) (rw (le-ltb place (offset + count) past) refl)

-- another number of bytes changes no place outside of both parts, and none inside of both
part_same : (image : ℕ → Option ℕ) (offset count more : ℕ) (bytes : List ℕ) (place : ℕ) → ((place < offset + count) × (place < offset + more)) ⊎ ((offset + count ≤ place) × (offset + more ≤ place)) → part_laid image offset count bytes place ≡ part_laid image offset more bytes place
part_same image offset count more bytes place sides =
    elim (cases_lt place offset) [
      | inl before ↦ part_before image offset count bytes place before ∙ sym (part_before image offset more bytes place before)
      | inr from ↦ elim sides [
        | inl both ↦ part_within image offset count bytes place from both.0 ∙ sym (part_within image offset more bytes place from both.1)
        | inr neither ↦ part_behind image offset count bytes place from neither.0 ∙ sym (part_behind image offset more bytes place from neither.1)
      ]
    ]

-- one byte more is laid
pub one_more : (image : ℕ → Option ℕ) (cells : List (Option ℕ)) (bytes : List ℕ) (offset index : ℕ) → offset + index < length cells →
    HoldsImage cells (part_laid image offset index bytes) → HoldsImage (set cells (offset + index) (Some (slice_index bytes index))) (part_laid image offset (index + 1) bytes)
one_more image cells bytes offset index inside held = λ place less.
    let long : length (set cells (offset + index) (Some (slice_index bytes index))) ≡ length cells = length-set cells (offset + index) (Some (slice_index bytes index)) in
    let there : place < length cells = omega (arith, long, less) in
    elim (cases_lt place (offset + index)) [
      | inl before ↦
          get_or-set_other cells (offset + index) place (Some (slice_index bytes index)) None (λ same. absurd (omega (arith, same, before)))
          ∙ held place there ∙ part_same image offset index (index + 1) bytes place (inl (before, omega (arith, before)))
      | inr from ↦ elim (cases_lt (offset + index) place) [
        | inl behind ↦
            get_or-set_other cells (offset + index) place (Some (slice_index bytes index)) None (λ same. absurd (omega (arith, same, behind)))
            ∙ held place there ∙ part_same image offset index (index + 1) bytes place (inr (from, omega (arith, behind)))
        | inr to ↦
            let at : place ≡ offset + index = omega (arith, from, to) in
            let P : ℕ → Type 0 = λ at. get_or (set cells (offset + index) (Some (slice_index bytes index))) at None ≡ part_laid image offset (index + 1) bytes at in
            subst P (sym at)
            (get_or-set_same cells (offset + index) (Some (slice_index bytes index)) None inside
            ∙ ap (λ k. Some (slice_index bytes k)) (let k : index ≡ offset + index - offset = omega arith in k)
            ∙ sym (part_within image offset (index + 1) bytes (offset + index) (omega arith) (omega arith)))
      ]
    ]

-- what is laid as far as there are places is all that is laid there
pub all_laid : (image : ℕ → Option ℕ) (cells : List (Option ℕ)) (bytes : List ℕ) (offset count : ℕ) → (count ≡ length bytes) ⊎ ((count ≤ length bytes) × (length cells ≤ offset + count)) →
    HoldsImage cells (part_laid image offset count bytes) → HoldsImage cells (overlaid image offset bytes)
all_laid image cells bytes offset count ends held = λ place less.
    held place less ∙ elim ends [
      | inl all ↦ ap (λ n. part_laid image offset n bytes place) all
      | inr cut ↦ part_same image offset count (length bytes) bytes place (inl (omega (arith, cut.1, less), omega (arith, cut.0, cut.1, less)))
    ]
