-- Lists that are written read back.
use Rattle.std.proofs.Common.{◌≡◌, ◌<◌, ◌+◌, ◌*◌, ◌^◌, ℕ, Bool, true, false, ◌||◌, List, [], ◌∷◌, ◌++◌, length, flat_map, refl, ◌∙◌, ap, sym, subst, arith, eqb, leb, eq-eqb, ne_eqb, le-leb, length-append, append-nil, Some, suc}
use Rattle.hive_records.specs.Readers.{Reader}
use Rattle.hive_cells.specs.Bins.{Cells}
use Rattle.hive_records.specs.Numbers.{u16_at, words_from, begins_with}
use Rattle.hive_records.specs.Lists.{is_plain, is_hinted, is_indirect, offsets_in, leaf_in, leaf_at, list_in, subkeys_at}
use Rattle.hive_records.specs.Fields.{u16_bytes, Gives, CellHolds}
use Rattle.hive_records.specs.ListEncodings.{Subkey, hashed_leaf, plain_leaf, hashed, offsets_bytes, AreOffsets, cell_offsets}
use Rattle.hive_records.proofs.StepsAgain.{both, second_not, gives_on, gives_done, gives_same, gives_rule, gives_yes, gives_no, gives_look}
use Rattle.hive_records.proofs.NumbersAgain.{half_back}
use Rattle.hive_records.proofs.WordsAgain.{words_shift, offsets_back, offsets_length, subkeys_back, subkeys_length}

-- a list of a signature and a number of elements, then their bytes
module _ (letters n : ℕ) (body rest : List ℕ) where
  abbrev bytes : List ℕ
  bytes = (u16_bytes letters ++ u16_bytes n ++ body) ++ rest

  count_back : n < 2 ^ 16 → u16_at bytes 2 ≡ n
  unfolding u16_at
  count_back h = half_back n [] h

  pub offsets_given : (stride : ℕ) (cells : Cells) (offsets : List ℕ) → n < 2 ^ 16 → length body ≡ stride * n → words_from (body ++ rest) 0 stride n ≡ offsets → Gives (offsets_in stride bytes) cells [] [] offsets
  offsets_given stride cells offsets h wide back =
      gives_on _ (gives_rule (leb (4 + stride * u16_at bytes 2) (length bytes)) _ cells (subst (λ (k : ℕ). leb (4 + stride * k) (length bytes) ≡ true) (sym (count_back h)) (le-leb (4 + stride * n) (length bytes) (let l = length-append body rest in omega (arith, l, wide)))))
      (gives_same (ap (words_from bytes 4 stride) (count_back h) ∙ words_shift (u16_bytes letters ++ u16_bytes n) (body ++ rest) 4 refl 0 stride n ∙ back) (gives_done (words_from bytes 4 stride (u16_at bytes 2)) cells))

pub plain_given : (cells : Cells) (offsets rest : List ℕ) → length offsets < 2 ^ 16 → AreOffsets offsets → Gives (leaf_in (plain_leaf offsets ++ rest)) cells [] [] offsets
unfolding u16_at
plain_given cells offsets rest h are =
    gives_yes _ (is_plain (plain_leaf offsets ++ rest)) (both (leb 4 (length (plain_leaf offsets ++ rest))) true (le-leb 4 (length (plain_leaf offsets ++ rest)) (omega arith)) refl)
    (offsets_given 0x696c (length offsets) (offsets_bytes offsets) rest 4 cells offsets h (offsets_length offsets) (offsets_back offsets rest are))

or_second : (a b : Bool) → b ≡ true → (a || b) ≡ true
or_second true b e = refl
or_second false b e = e

pub hashed_given : (cells : Cells) (subkey_list : List Subkey) (rest : List ℕ) → length subkey_list < 2 ^ 16 → AreOffsets (cell_offsets subkey_list) → Gives (leaf_in (hashed_leaf subkey_list ++ rest)) cells [] [] (cell_offsets subkey_list)
unfolding u16_at
hashed_given cells subkey_list rest h are =
    gives_no _ (is_plain (hashed_leaf subkey_list ++ rest)) (second_not (leb 4 (length (hashed_leaf subkey_list ++ rest))) false refl)
    (gives_on _ (gives_rule (is_hinted (hashed_leaf subkey_list ++ rest)) _ cells (or_second (begins_with (hashed_leaf subkey_list ++ rest) 0x666c 4) (begins_with (hashed_leaf subkey_list ++ rest) 0x686c 4) (both (leb 4 (length (hashed_leaf subkey_list ++ rest))) true (le-leb 4 (length (hashed_leaf subkey_list ++ rest)) (omega arith)) refl)))
    (offsets_given 0x686c (length subkey_list) (flat_map hashed subkey_list) rest 8 cells (cell_offsets subkey_list) h (subkeys_length subkey_list) (subkeys_back subkey_list rest are)))

pub plain_again : (cells : Cells) (at : ℕ) (offsets : List ℕ) → length offsets < 2 ^ 16 → AreOffsets offsets → CellHolds cells at (plain_leaf offsets) → Gives (leaf_at at) cells (at ∷ []) [] offsets
plain_again cells at offsets few are h = gives_on _ (gives_look at cells (plain_leaf offsets ++ h.0) h.1) (plain_given cells offsets h.0 few are)

pub hashed_again : (cells : Cells) (at : ℕ) (subkey_list : List Subkey) → length subkey_list < 2 ^ 16 → AreOffsets (cell_offsets subkey_list) → CellHolds cells at (hashed_leaf subkey_list) → Gives (leaf_at at) cells (at ∷ []) [] (cell_offsets subkey_list)
hashed_again cells at subkey_list few are h = gives_on _ (gives_look at cells (hashed_leaf subkey_list ++ h.0) h.1) (hashed_given cells subkey_list h.0 few are)

-- a key's list that is one leaf
pub list_given : (cells : Cells) (at count : ℕ) (bytes own subkey_list : List ℕ) → length subkey_list ≡ count → 0 < count → cells at ≡ Some bytes → Gives (list_in bytes) cells own [] subkey_list → Gives (subkeys_at count at) cells (at ∷ own) [] subkey_list
list_given cells at count bytes own subkey_list e some here given =
    gives_no _ (eqb count 0) (ne_eqb count 0 (λ z. omega (arith, some, z)))
    (gives_on _ (gives_look at cells bytes here)
    (gives_same_own (gives_on _ given (gives_on _ (gives_rule (eqb (length subkey_list) count) _ cells (eq-eqb (length subkey_list) count e)) (gives_done subkey_list cells)))))
  where
    gives_same_own : {m : Reader (List ℕ)} {cells : Cells} {own : List ℕ} {x : List ℕ} → Gives m cells (own ++ []) [] x → Gives m cells own [] x
    gives_same_own {m} {cells} {own} {x} h = subst (λ (o : List ℕ). Gives m cells o [] x) (append-nil own) h

pub one_plain : (cells : Cells) (at : ℕ) (offsets : List ℕ) → 0 < length offsets → length offsets < 2 ^ 16 → AreOffsets offsets → CellHolds cells at (plain_leaf offsets) → Gives (subkeys_at (length offsets) at) cells (at ∷ []) [] offsets
unfolding u16_at
one_plain cells at offsets some few are h = list_given cells at (length offsets) (plain_leaf offsets ++ h.0) [] offsets refl some h.1
    (gives_no _ (is_indirect (plain_leaf offsets ++ h.0)) (second_not (leb 4 (length (plain_leaf offsets ++ h.0))) false refl) (plain_given cells offsets h.0 few are))

places_length : (subkey_list : List Subkey) → length (cell_offsets subkey_list) ≡ length subkey_list
places_length [] = refl
places_length (subkey ∷ subkey_list) = ap suc (places_length subkey_list)

pub one_hashed : (cells : Cells) (at : ℕ) (subkey_list : List Subkey) → 0 < length subkey_list → length subkey_list < 2 ^ 16 → AreOffsets (cell_offsets subkey_list) → CellHolds cells at (hashed_leaf subkey_list) → Gives (subkeys_at (length subkey_list) at) cells (at ∷ []) [] (cell_offsets subkey_list)
unfolding u16_at
one_hashed cells at subkey_list some few are h = list_given cells at (length subkey_list) (hashed_leaf subkey_list ++ h.0) [] (cell_offsets subkey_list) (places_length subkey_list) some h.1
    (gives_no _ (is_indirect (hashed_leaf subkey_list ++ h.0)) (second_not (leb 4 (length (hashed_leaf subkey_list ++ h.0))) false refl) (hashed_given cells subkey_list h.0 few are))
