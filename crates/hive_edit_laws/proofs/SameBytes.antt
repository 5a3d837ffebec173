-- Numbers and data at offsets at which the bytes are the same.
use Rattle.std.proofs.Common.{◌≡◌, ◌≤◌, ◌+◌, ◌-◌, ◌*◌, ◌==◌, ◌&&◌, nat_le, ℕ, List, length, take, drop, ◌∙◌, ap, sym, slice_range, arith, length-drop, slice_index}
use Rattle.std.proofs.lemmas.List.{ext_get_or, get_or-drop}
use Rattle.hive_cells.specs.Tiles.{u32_at}
use Rattle.hive_records.specs.Numbers.{u16_at, begins_with}

pub half_same : (old new : List ℕ) (at : ℕ) → slice_index new at ≡ slice_index old at → slice_index new (at + 1) ≡ slice_index old (at + 1) → u16_at new at ≡ u16_at old at
unfolding u16_at
half_same old new at a b = λ i. a i + 0x100 * b i

pub word_same : (old new : List ℕ) (at : ℕ) → slice_index new at ≡ slice_index old at → slice_index new (at + 1) ≡ slice_index old (at + 1) → slice_index new (at + 2) ≡ slice_index old (at + 2) → slice_index new (at + 3) ≡ slice_index old (at + 3) → u32_at new at ≡ u32_at old at
unfolding u32_at
word_same old new at a b c d = λ i. a i + 0x100 * b i + 0x1_0000 * c i + 0x100_0000 * d i

pub begins_same : (old new : List ℕ) (letters least : ℕ) → length new ≡ length old → u16_at new 0 ≡ u16_at old 0 → begins_with new letters least ≡ begins_with old letters least
begins_same old new letters least l h = λ i. nat_le least (l i) && (h i == letters)

drop_same : (old new : List ℕ) (n : ℕ) → length new ≡ length old → ((i : ℕ) → n ≤ i → slice_index new i ≡ slice_index old i) → drop n new ≡ drop n old
drop_same old new n l same = ext_get_or 0 (drop n new) (drop n old) (length-drop n new ∙ ap (λ k. k - n) l ∙ sym (length-drop n old))
    (λ i h. get_or-drop n new i 0 ∙ same (n + i) (omega arith) ∙ sym (get_or-drop n old i 0))

pub tail_same : (old new : List ℕ) (n m : ℕ) → length new ≡ length old → ((i : ℕ) → n ≤ i → slice_index new i ≡ slice_index old i) → slice_range new n m ≡ slice_range old n m
tail_same old new n m l same = ap (take (m - n)) (drop_same old new n l same)

pub word_moved : (xs ys : List ℕ) (a b : ℕ) → slice_index xs a ≡ slice_index ys b → slice_index xs (a + 1) ≡ slice_index ys (b + 1) → slice_index xs (a + 2) ≡ slice_index ys (b + 2) → slice_index xs (a + 3) ≡ slice_index ys (b + 3) → u32_at xs a ≡ u32_at ys b
unfolding u32_at
word_moved xs ys a b e f g h = λ i. e i + 0x100 * f i + 0x1_0000 * g i + 0x100_0000 * h i
