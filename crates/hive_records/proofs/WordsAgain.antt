-- Numbers one after another read back.
use Rattle.std.proofs.Common.{◌≡◌, ◌<◌, ◌+◌, ◌*◌, ◌^◌, ℕ, zero, suc, List, [], ◌∷◌, ◌++◌, length, map, flat_map, refl, ◌∙◌, ap, sym, subst, arith, append_assoc, length-append, get_or-append-add, get_or, slice_index}
use Rattle.hive_cells.specs.Tiles.{u32_at}
use Rattle.hive_records.specs.Numbers.{words_from}
use Rattle.hive_records.specs.Fields.{u32_bytes}
use Rattle.hive_records.specs.ListEncodings.{AreOffsets, Subkey, hashed, cell_offsets}
use Rattle.hive_records.proofs.NumbersAgain.{word_back}

index_shift : (front xs : List ℕ) (near far : ℕ) → far ≡ length front + near → slice_index (front ++ xs) far ≡ slice_index xs near
index_shift front xs near far e = ap (λ (k : ℕ). get_or (front ++ xs) k 0) e ∙ get_or-append-add front xs near 0

pub word_shift : (front xs : List ℕ) (k at : ℕ) → length front ≡ k → u32_at (front ++ xs) (k + at) ≡ u32_at xs at
unfolding u32_at
word_shift front xs k at e =
    let a = index_shift front xs at (k + at) (omega (arith, e)) in
    let b = index_shift front xs (at + 1) (k + at + 1) (omega (arith, e)) in
    let c = index_shift front xs (at + 2) (k + at + 2) (omega (arith, e)) in
    let d = index_shift front xs (at + 3) (k + at + 3) (omega (arith, e)) in
    rw (a, b, c, d) refl

pub words_shift : (front xs : List ℕ) (k : ℕ) → length front ≡ k → (at stride n : ℕ) → words_from (front ++ xs) (k + at) stride n ≡ words_from xs at stride n
words_shift front xs k e at stride zero = refl
words_shift front xs k e at stride (suc n) =
    (λ i. word_shift front xs k at e i ∷ words_from (front ++ xs) (k + at + stride) stride n)
    ∙ ap (λ (z : ℕ). u32_at xs at ∷ words_from (front ++ xs) z stride n) (omega arith)
    ∙ ap (λ (ws : List ℕ). u32_at xs at ∷ ws) (words_shift front xs k e (at + stride) stride n)

-- the first word of each encoding
module _ {X : Type 0} (f : X → List ℕ) (g : X → ℕ) (stride : ℕ) (wide : (x : X) → length (f x) ≡ stride) (back : (x : X) (rest : List ℕ) → g x < 2 ^ 32 → u32_at (f x ++ rest) 0 ≡ g x) where
  pub all_back : (xs : List X) (rest : List ℕ) → AreOffsets (map g xs) → words_from (flat_map f xs ++ rest) 0 stride (length xs) ≡ map g xs
  all_back [] rest h = refl
  all_back (x ∷ xs) rest h =
      ap (λ (bytes : List ℕ). words_from bytes 0 stride (suc (length xs))) (append_assoc (f x) (flat_map f xs) rest)
      ∙ (λ i. back x (flat_map f xs ++ rest) h.0 i ∷ words_from (f x ++ (flat_map f xs ++ rest)) (0 + stride) stride (length xs))
      ∙ ap (λ (z : ℕ). g x ∷ words_from (f x ++ (flat_map f xs ++ rest)) z stride (length xs)) (omega arith)
      ∙ ap (λ (ws : List ℕ). g x ∷ ws) (words_shift (f x) (flat_map f xs ++ rest) stride (wide x) 0 stride (length xs) ∙ all_back xs rest h.1)

  pub all_length : (xs : List X) → length (flat_map f xs) ≡ stride * length xs
  all_length [] = omega arith
  all_length (x ∷ xs) = let e = all_length xs in let w = wide x in let l = length-append (f x) (flat_map f xs) in omega (arith, e, w, l)

map_same : (ns : List ℕ) → map (λ (n : ℕ). n) ns ≡ ns
map_same [] = refl
map_same (n ∷ ns) = ap (λ (z : List ℕ). n ∷ z) (map_same ns)

pub offsets_back : (offsets rest : List ℕ) → AreOffsets offsets → words_from (flat_map u32_bytes offsets ++ rest) 0 4 (length offsets) ≡ offsets
offsets_back offsets rest h = all_back u32_bytes (λ n. n) 4 (λ n. refl) (λ n more small. word_back n more small) offsets rest (subst AreOffsets (sym (map_same offsets)) h) ∙ map_same offsets

pub offsets_length : (offsets : List ℕ) → length (flat_map u32_bytes offsets) ≡ 4 * length offsets
offsets_length offsets = all_length u32_bytes (λ n. n) 4 (λ n. refl) (λ n more small. word_back n more small) offsets

hashed_word : (subkey : Subkey) (rest : List ℕ) → subkey.at < 2 ^ 32 → u32_at (hashed subkey ++ rest) 0 ≡ subkey.at
unfolding u32_at
hashed_word subkey rest h = word_back subkey.at [] h

pub subkeys_back : (subkey_list : List Subkey) (rest : List ℕ) → AreOffsets (cell_offsets subkey_list) → words_from (flat_map hashed subkey_list ++ rest) 0 8 (length subkey_list) ≡ cell_offsets subkey_list
subkeys_back subkey_list rest h = all_back hashed (λ subkey. subkey.at) 8 (λ subkey. refl) hashed_word subkey_list rest h

pub subkeys_length : (subkey_list : List Subkey) → length (flat_map hashed subkey_list) ≡ 8 * length subkey_list
subkeys_length subkey_list = all_length hashed (λ subkey. subkey.at) 8 (λ subkey. refl) hashed_word subkey_list
