-- A cell that is filled with bytes, and zeros after them.
use Rattle.std.proofs.Common.{◌≡◌, ℕ, ◌+◌, ◌-◌, ◌≤◌, List, ◌++◌, length, take, drop, slice_range, inl, sym, ◌∙◌, ap, subst, arith}
use Rattle.std.specs.Prelude.{replicate}
use Rattle.std.proofs.Math.Seq.{take-add, drop-drop}
use Rattle.hive_cells.specs.Tiles.{IsAllocatedCell, cell_size, cell_data}
use Rattle.hive_cells.specs.Starts.{IsImage}
use Rattle.hive_cells.specs.Changes.{RewritesWithin, Writes}
use Rattle.hive_cells.proofs.Images.{write_all}
use Rattle.hive_cells.proofs.Region.{range_same}

-- a part of the data is two parts
part_of : (xs : List ℕ) (from middle to : ℕ) → from ≤ middle → middle ≤ to → slice_range xs from to ≡ slice_range xs from middle ++ slice_range xs middle to
part_of xs from middle to low high =
    let sum : to - from ≡ (middle - from) + (to - middle) = omega arith in
    let next : from + (middle - from) ≡ middle = omega arith in
    ap (λ n. take n (drop from xs)) sum ∙ take-add (middle - from) (to - middle) (drop from xs)
    ∙ ap (λ ys. take (middle - from) (drop from xs) ++ take (to - middle) ys) (drop-drop (middle - from) from xs ∙ ap (λ n. drop n xs) next)

-- bytes were written, and then what comes after them
pub two_parts : (old mid new source rest : List ℕ) (from to : ℕ) → from + length source ≤ to → to ≤ length old → length mid ≡ length old → slice_range mid from (from + length source) ≡ source
    → RewritesWithin mid new (from + length source) to → slice_range new (from + length source) to ≡ rest → slice_range new from to ≡ source ++ rest
two_parts old mid new source rest from to room within len first r second =
    part_of new from (from + length source) to (omega arith) room
    ∙ ap (λ xs. xs ++ slice_range new (from + length source) to) (range_same mid new from (from + length source) (omega (arith, r.len)) (omega arith) (λ i after before. r.others i (inl before)) ∙ first)
    ∙ ap (λ xs. source ++ xs) second

-- a cell was filled
pub filled_all : (items now given new words bounds : List ℕ) (spare room words_room at end : ℕ) (source : List ℕ) → items ≡ now → given ≡ items → IsImage items words bounds spare room words_room
    → IsAllocatedCell now at → 4 + length source ≤ cell_size now at → end ≡ at + cell_size now at → RewritesWithin given new (at + 4) end
    → slice_range new (at + 4) end ≡ source ++ replicate (end - (at + 4 + length source)) 0
    → IsImage new words bounds spare room words_room × Writes now new at (at + 4) (at + cell_size now at) × (cell_data new at ≡ source ++ replicate (cell_size now at - (4 + length source)) 0)
filled_all items now given new words bounds spare room words_room at end source seen same i found fits end_is r is =
    let len : (at + 4) + (cell_size now at - 4) ≡ at + cell_size now at = omega (arith, fits) in
    let w = write_all items now given new words bounds spare room words_room at (at + 4) (cell_size now at - 4) seen same i found (omega arith) (omega (arith, fits)) (subst (λ n. RewritesWithin given new (at + 4) n) (end_is ∙ sym len) r) in
    let written : Writes now new at (at + 4) (at + cell_size now at) = subst (λ n. Writes now new at (at + 4) n) len w.1 in
    let size : cell_size new at ≡ cell_size now at = written.size in
    let rest : end - (at + 4 + length source) ≡ cell_size now at - (4 + length source) = omega (arith, end_is) in (
      w.0,
      written,
      ap (λ n. slice_range new (at + 4) (at + n)) size ∙ ap (λ n. slice_range new (at + 4) n) (sym end_is) ∙ is ∙ ap (λ n. source ++ replicate n 0) rest,
    )
