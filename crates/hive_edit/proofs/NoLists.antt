-- A key's node holds no list of subkeys, also after another cell was added.
use Rattle.std.proofs.Common.{◌≡◌, ◌≢◌, inl, inr, ℕ, ◌==◌, ne_eqb, nat_le, ◌||◌, Bool, true, false, if◌then◌else◌, List, length, is_some, Option, None, Some, refl, sym, ap, ◌∙◌, arith}
use Rattle.std.proofs.lemmas.Bool.Decides.{eqb_tells}
use Rattle.refusals.specs.declared.refusal.Refusal.{Refusal}
use Rattle.hive_tree_model.proofs.Basics.{clash, some_none}
use Rattle.hive_cells.specs.Tiles.{cell_data}
use Rattle.hive_cells.specs.Bins.{Cells, Shows}
use Rattle.hive_records.specs.Numbers.{u16_at, begins_with}
use Rattle.hive_records.specs.Lists.{is_plain, is_hinted, is_indirect}
use Rattle.hive_records.specs.Heads.{key_node_fault, list_fault}
use Rattle.hive_records.proofs.StepsAgain.{second_not}
use Rattle.hive_edit_laws.specs.Found.{HoldsNode, HoldsList}
use Rattle.hive_edit_laws.proofs.Bools.{second_of, neither}
use Rattle.hive_edit_laws.proofs.CellsShown.{shown_some, shown_here}
use Rattle.hive_edit_laws.proofs.KeyPlaces.{none_there}
use Rattle.hive_edit_laws.proofs.RecordRooms.{list_long}
use Rattle.hive_savepoint.specs.Puts.{AddsCell}
use Rattle.hive_edit.proofs.LeafInserts.{no_list_still}

rule_kept : (b : Bool) (r : Refusal) (rest : Option Refusal) → (if b then rest else Some r) ≡ None → b ≡ true
rule_kept true r rest e = refl
rule_kept false r rest e = some_none r (sym e)

node_no_list : (bytes : List ℕ) → key_node_fault bytes ≡ None → list_fault bytes ≡ None → ⊥
node_no_list bytes is list = clash (is_plain bytes || (is_hinted bytes || is_indirect bytes)) (list_long bytes list).0
    (neither (is_plain bytes) (is_hinted bytes || is_indirect bytes) (other 0x696c (λ e. absurd (omega (arith, e))))
    (neither (is_hinted bytes) (is_indirect bytes) (neither (begins_with bytes 0x666c 4) (begins_with bytes 0x686c 4) (other 0x666c (λ e. absurd (omega (arith, e)))) (other 0x686c (λ e. absurd (omega (arith, e))))) (other 0x6972 (λ e. absurd (omega (arith, e))))))
  where
    letters : u16_at bytes 0 ≡ 0x6b6e
    letters = elim (eqb_tells (u16_at bytes 0) 0x6b6e) [ inl k ↦ k.1 | inr k ↦ clash (u16_at bytes 0 == 0x6b6e) (second_of (nat_le 76 (length bytes)) (u16_at bytes 0 == 0x6b6e) (rule_kept (begins_with bytes 0x6b6e 76) _ _ is)) k.0 ]

    other : (l : ℕ) → 0x6b6e ≢ l → begins_with bytes l 4 ≡ false
    other l apart = second_not (nat_le 4 (length bytes)) (u16_at bytes 0 == l) (ne_eqb (u16_at bytes 0) l (λ e. apart (sym letters ∙ e)))

pub home_no_list : (bytes mid : List ℕ) (cells : Cells) → Shows bytes cells → (home at : ℕ) (text : List ℕ) → HoldsNode bytes home → AddsCell bytes mid at text → HoldsList mid home → ⊥
home_no_list bytes mid cells shows home at text holds adds =
    let a = adds.cells cells shows in
    let here : cells home ≡ Some (cell_data bytes home) = shown_here bytes cells shows home holds.0 in
    let apart : home ≢ at = λ e. none_there (cells home) (ap is_some here) (ap cells e ∙ a.0) in
    let same : cell_data mid home ≡ cell_data bytes home = sym (shown_some mid a.1 a.2 home (cell_data bytes home) (a.3 home apart ∙ here)).1 in
    no_list_still bytes mid home holds.0 (λ h. node_no_list (cell_data bytes home) holds.1 h.1) same
