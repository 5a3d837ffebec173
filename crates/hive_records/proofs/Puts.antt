-- Encodings that are put one element after another.
use Rattle.std.proofs.Common.{◌≡◌, ℕ, suc, ◌+◌, ◌*◌, ◌<◌, ◌≤◌, List, [], ◌∷◌, ◌++◌, length, drop, take, get_or, refl, ◌∙◌, ap, sym, append_assoc, append-nil, arith, Bool, false}
use Rattle.std.proofs.Math.Seq.{drop-cons}
use Rattle.std.proofs.Math.ListN.{drop_of_length-le}
use Rattle.std.proofs.lemmas.List.Concat.{flat_map-cons}
use Rattle.hive_records.specs.Fields.{u16_bytes, u32_bytes}
use Rattle.hive_records.specs.NameEncodings.{is_latin, wide, spelled, name_bytes}
use Rattle.hive_records.specs.ListEncodings.{offsets_bytes}

-- the elements from an index on, one and the rest
rest_of : (xs : List ℕ) (i : ℕ) → i < length xs → drop i xs ≡ get_or xs i 0 ∷ drop (i + 1) xs
rest_of xs i h = let next : suc i ≡ i + 1 = omega arith in drop-cons xs i 0 h ∙ ap (λ (n : ℕ). get_or xs i 0 ∷ drop n xs) next

pub latin_on : (bytes name whole : List ℕ) (i : ℕ) → i < length name → bytes ++ drop i name ≡ whole → (bytes ++ get_or name i 0 ∷ []) ++ drop (i + 1) name ≡ whole
latin_on bytes name whole i h e = append_assoc bytes (get_or name i 0 ∷ []) (drop (i + 1) name) ∙ ap (λ (xs : List ℕ). bytes ++ xs) (sym (rest_of name i h)) ∙ e

pub latin_end : (bytes name whole : List ℕ) (i : ℕ) → length name ≤ i → bytes ++ drop i name ≡ whole → bytes ≡ whole
latin_end bytes name whole i h e = sym (append-nil bytes) ∙ ap (λ (xs : List ℕ). bytes ++ xs) (sym (drop_of_length-le name h)) ∙ e

pub wide_on : (bytes name whole : List ℕ) (i : ℕ) → i < length name → bytes ++ wide (drop i name) ≡ whole → (bytes ++ u16_bytes (get_or name i 0)) ++ wide (drop (i + 1) name) ≡ whole
wide_on bytes name whole i h e = append_assoc bytes (u16_bytes (get_or name i 0)) (wide (drop (i + 1) name)) ∙ ap (λ (xs : List ℕ). bytes ++ wide xs) (sym (rest_of name i h)) ∙ e

pub wide_end : (bytes name whole : List ℕ) (i : ℕ) → length name ≤ i → bytes ++ wide (drop i name) ≡ whole → bytes ≡ whole
wide_end bytes name whole i h e = sym (append-nil bytes) ∙ ap (λ (xs : List ℕ). bytes ++ wide xs) (sym (drop_of_length-le name h)) ∙ e

pub offsets_on : (bytes offsets whole : List ℕ) (i : ℕ) → i < length offsets → bytes ++ offsets_bytes (drop i offsets) ≡ whole → (bytes ++ u32_bytes (get_or offsets i 0)) ++ offsets_bytes (drop (i + 1) offsets) ≡ whole
offsets_on bytes offsets whole i h e =
    append_assoc bytes (u32_bytes (get_or offsets i 0)) (offsets_bytes (drop (i + 1) offsets))
    ∙ ap (λ (xs : List ℕ). bytes ++ xs) (sym (flat_map-cons u32_bytes (get_or offsets i 0) (drop (i + 1) offsets)) ∙ ap offsets_bytes (sym (rest_of offsets i h))) ∙ e

pub offsets_end : (bytes offsets whole : List ℕ) (i : ℕ) → length offsets ≤ i → bytes ++ offsets_bytes (drop i offsets) ≡ whole → bytes ≡ whole
offsets_end bytes offsets whole i h e = sym (append-nil bytes) ∙ ap (λ (xs : List ℕ). bytes ++ offsets_bytes xs) (sym (drop_of_length-le offsets h)) ∙ e

length-wide : (name : List ℕ) → length (wide name) ≡ 2 * length name
length-wide [] = refl
length-wide (u ∷ name) = omega (arith, length-wide name)

pub length-wide_bytes : (name : List ℕ) → is_latin name ≡ false → length (name_bytes name) ≡ 2 * length name
length-wide_bytes name e = ap (λ (b : Bool). length (spelled b name)) e ∙ length-wide name

-- data of at most four bytes, laid over four zeros
pub small_field : (bytes : List ℕ) → length bytes ≤ 4 → bytes ++ drop (length bytes) (0 ∷ 0 ∷ 0 ∷ 0 ∷ []) ≡ take 4 (bytes ++ 0 ∷ 0 ∷ 0 ∷ 0 ∷ [])
small_field [] h = refl
small_field (a ∷ []) h = refl
small_field (a ∷ b ∷ []) h = refl
small_field (a ∷ b ∷ d ∷ []) h = refl
small_field (a ∷ b ∷ d ∷ e ∷ []) h = refl
small_field (a ∷ b ∷ d ∷ e ∷ f ∷ bytes) h = absurd (omega arith)
