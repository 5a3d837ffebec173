use Rattle.std.proofs.Common.{◌≡◌, ◌*◌, ℕ, true, false, ap, arith, rules, subst, sym}
use Rattle.hive_cells.specs.Bins.{Bins}
use Rattle.hive_cells.specs.Tiles.{IsFreeCell, BeginsCell, cell_size}
use Rattle.hive_cells.specs.Marks.{IsWholeCell}
use Rattle.hive_cells.specs.Starts.{HasStartBits}
use Rattle.hive_cells.proofs.CellChanges.{cell_within}
use Rattle.hive_cells.proofs.Lookups.{none_ends, last_ends}
use Rattle.hive_cells.proofs.image.Image.free_before.Goals.{else-is_free-via-then-is_free+else-from-size_at, else-is_free-via-else-is_free}
use Rattle.hive_cells.proofs.image.Image.free_before.Goals as goal

pub last_start-requires : goal.last_start-requires
last_start-requires c =
    let k : HasStartBits c.self.inside.bytes.items c.self.inside.starts.items = c.self.invariant.indexed.cells in
    let w : IsWholeCell c.self.inside.bytes.items c.args.at = cell_within _ _ _ k (subst (λ (b : Bins). BeginsCell b.bytes c.args.at) (sym c.self.view_is) c.requires) in
    rw c.deref.ensures.value (omega (arith, w.least, w.within, k.starts.len))

pub returns-in_err-slot : goal.returns-in_err-slot
returns-in_err-slot c =
    let k : HasStartBits c.args.self.now.bytes c.deref.result.now = rw (c.deref.ensures.value, ← c.self.view_is) c.self.invariant.indexed.cells in
    rw c.from_residual.ensures (λ from found ends. none_ends _ _ k c.args.at from c.requires c.in_err-slot.ensures found.0 ends)

pub returns-else-is_free : goal.returns-else-is_free
returns-else-is_free c from found ends =
    let k : HasStartBits c.args.self.now.bytes c.deref.result.now = rw (c.deref.ensures.value, ← c.self.view_is) c.self.invariant.indexed.cells in
    let same : from ≡ 8 * c.in_ok-slot.slot = last_ends _ _ k c.args.at c.in_ok-slot.slot from c.requires c.in_ok-slot.ensures found.0 ends in
    elim c.else-is_free.branch [
      | else-is_free-via-then-is_free+else-from-size_at w ↦
          let size : cell_size c.args.self.now.bytes from ≡ cell_size c.args.self.now.bytes (8 * c.in_ok-slot.slot) = ap (cell_size c.args.self.now.bytes) same in
          w.if-from-size_at.false (omega (arith, w.size_at.ensures.size))
      | else-is_free-via-else-is_free w ↦
          let bad : false ≡ true = w.if-is_free.ensures.found.1 (subst (λ (x : ℕ). IsFreeCell c.args.self.now.bytes x) same found) in
          cc
    ]

pub returns-then-from-size_at : goal.returns-then-from-size_at
returns-then-from-size_at c =
    let k : HasStartBits c.args.self.now.bytes c.deref.result.now = rw (c.deref.ensures.value, ← c.self.view_is) c.self.invariant.indexed.cells in (
      c.if-is_free.ensures.found.0 (search rules),
      omega (arith, c.if-from-size_at.true, c.size_at.ensures.size),
      λ other found ends. sym (last_ends _ _ k c.args.at c.in_ok-slot.slot other c.requires c.in_ok-slot.ensures found.0 ends),
    )
