-- Words and bytes of lists.
use Rattle.std.proofs.Common.{◌≡◌, ℕ, zero, suc, ◌+◌, ◌*◌, ◌<◌, List, slice_index, arith}
use Rattle.hive_cells.specs.Tiles.{u32_at}

pub same_word : (xs ys : List ℕ) (a b : ℕ) → slice_index xs a ≡ slice_index ys b → slice_index xs (a + 1) ≡ slice_index ys (b + 1) → slice_index xs (a + 2) ≡ slice_index ys (b + 2) → slice_index xs (a + 3) ≡ slice_index ys (b + 3) → u32_at xs a ≡ u32_at ys b
unfolding u32_at
same_word xs ys a b e f g h = λ i. e i + 0x100 * f i + 0x1_0000 * g i + 0x100_0000 * h i

-- four bytes of a list, one by one
pub four_bytes : (xs ys : List ℕ) (a : ℕ) → slice_index xs (a + 0) ≡ slice_index ys 0 → slice_index xs (a + 1) ≡ slice_index ys 1 → slice_index xs (a + 2) ≡ slice_index ys 2 → slice_index xs (a + 3) ≡ slice_index ys 3 → (i : ℕ) → i < 4 → slice_index xs (a + i) ≡ slice_index ys i
four_bytes xs ys a e f g h zero l = e
four_bytes xs ys a e f g h (suc zero) l = f
four_bytes xs ys a e f g h (suc (suc zero)) l = g
four_bytes xs ys a e f g h (suc (suc (suc zero))) l = h
four_bytes xs ys a e f g h (suc (suc (suc (suc i)))) l = absurd (omega (arith, l))
