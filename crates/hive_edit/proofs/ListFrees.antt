-- A key's lists of subkeys, freed.
use Rattle.std.proofs.Common.{◌≡◌, inl, inr, ℕ, ◌+◌, ◌*◌, ◌<◌, Bool, true, false, not, List, [], ◌∷◌, refl, sym, ap, subst, ◌∙◌}
use Rattle.hive_tree_model.specs.Lists.{IsIn}
use Rattle.hive_tree_model.proofs.Basics.{yes_if}
use Rattle.hive_cells.specs.Tiles.{IsAllocatedCell, u32_at, cell_data}
use Rattle.hive_records.specs.Numbers.{u16_at, words_from}
use Rattle.hive_records.specs.Lists.{is_indirect}
use Rattle.hive_edit_laws.proofs.CellsShown.{shown_here, shown_some}
use Rattle.hive_savepoint.specs.Puts.{DropsCell}
use Rattle.hive_edit.specs.DataPlaces.{FreesCells}
use Rattle.hive_edit.specs.SegmentCells.{FreesButKeeps}
use Rattle.hive_edit.specs.ListCells.{lists_at}
use Rattle.hive_edit.proofs.KeyFrees.{both_freed}
use Rattle.hive_edit.proofs.ValueSegments.{word_is_in}

pub one_more : (old now new : List ℕ) (at count index leaf : ℕ) → FreesButKeeps old now (words_from (cell_data old at) 4 4 count) at → IsAllocatedCell now at → leaf ≡ u32_at (cell_data now at) (4 + 4 * index) → index < count → (leaf ≡ at → ⊥) → DropsCell now new leaf → FreesButKeeps old new (words_from (cell_data old at) 4 4 count) at
one_more old now new at count index leaf f there is less apart drops before shows =
    let s = f before shows in
    let t = drops.cells s.0 s.1 in
    let here = sym s.3 ∙ shown_here now s.0 s.1 at there in
    let same : cell_data now at ≡ cell_data old at = (shown_some old before shows at (cell_data now at) here).1 in
    let is_in : IsIn leaf (words_from (cell_data old at) 4 4 count) = subst (λ (z : ℕ). IsIn z (words_from (cell_data old at) 4 4 count)) (sym (is ∙ ap (λ (z : List ℕ). u32_at z (4 + 4 * index)) same)) (word_is_in (cell_data old at) 4 count index less) in (
      t.0,
      t.1,
      (λ cell no. t.2 cell (λ e. no (subst (λ (z : ℕ). IsIn z (words_from (cell_data old at) 4 4 count)) (sym e) is_in)) ∙ s.2 cell no),
      t.2 at (λ e. apart (sym e)) ∙ s.3,
    )

pub not_false : (b : Bool) → not b ≡ false → b ≡ true
not_false true e = refl
not_false false e = sym e

-- a list of lists
pub lists_freed : (old mid new : List ℕ) (at count : ℕ) → is_indirect (cell_data old at) ≡ true → count ≡ u16_at (cell_data old at) 2 → FreesCells old mid (words_from (cell_data old at) 4 4 count) → FreesCells mid new (at ∷ []) → FreesCells old new (lists_at old at)
lists_freed old mid new at count indirect is f g = subst (λ (z : List ℕ). FreesCells old new (at ∷ z))
    (ap (words_from (cell_data old at) 4 4) is ∙ sym (yes_if (is_indirect (cell_data old at)) (words_from (cell_data old at) 4 4 (u16_at (cell_data old at) 2)) [] indirect))
    (both_freed old mid new (words_from (cell_data old at) 4 4 count) (at ∷ []) (at ∷ words_from (cell_data old at) 4 4 count) f g (λ cell i. inr i) (λ cell i. elim i [ inl e ↦ inl e | inr j ↦ absurd j ]))
