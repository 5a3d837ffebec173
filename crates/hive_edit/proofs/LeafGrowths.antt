-- A key's list of subkeys after its one leaf got one more, or after it got its first.
use Rattle.std.proofs.Common.{◌≡◌, ◌≢◌, ◌⊎◌, inl, inr, ℕ, suc, ◌+◌, ◌*◌, ◌≤◌, false, List, [], ◌∷◌, ◌++◌, length, replicate, is_some, None, Some, IsSome, refl, sym, ap, subst, ◌∙◌, arith, append-nil}
use Rattle.hive_tree_model.specs.Lists.{IsIn}
use Rattle.hive_cells.specs.Tiles.{Tiles, cell_data, cell_size}
use Rattle.hive_cells.specs.Bins.{Cells}
use Rattle.hive_records.specs.Numbers.{u16_at}
use Rattle.hive_records.specs.Fields.{Gives, CellHolds, u16_bytes}
use Rattle.hive_records.specs.ListEncodings.{hashed_leaf}
use Rattle.hive_records.specs.Lists.{is_indirect, leaf_at, subkeys_at}
use Rattle.hive_records.specs.Heads.{stride_of}
use Rattle.hive_records.proofs.ListsAgain.{hashed_again}
use Rattle.hive_records.proofs.StepsAgain.{gives_same}
use Rattle.hive_edit_laws.specs.Shifts.{with_at, ShiftsIn}
use Rattle.hive_edit_laws.proofs.CellsShown.{shown_some, shown_here}
use Rattle.hive_edit_laws.proofs.CellWrites.{data_long}
use Rattle.hive_edit_laws.proofs.KeyPlaces.{none_there}
use Rattle.hive_edit_laws.proofs.LeafBytes.{leaf_says, leaf_more, one_leaf, list_is_leaf, list_cells_none}
use Rattle.hive_edit_laws.proofs.ListChanges.{list_with}
use Rattle.hive_edit_laws.proofs.ListParts.{more_with}
use Rattle.hive_savepoint.specs.Puts.{ChangesCell, AddsCell}
use Rattle.hive_edit.specs.SubkeyPlaces.{IsShapeOf, LeafGains, ListGrown, GrowsList}
use Rattle.hive_edit.specs.LeafChanges.{GetsElement, PutsElement, FreesOldList}
use Rattle.hive_edit.specs.declared.leaf_insert.NewElement.{NewElement}
use Rattle.hive_edit.proofs.LeafInserts.{once_alone, long_enough}
use Rattle.hive_edit.specs.declared.key_lists.KeyList.{KeyList}
use Rattle.hive_edit.specs.declared.leaf_edit.LeafShape.{LeafShape}

-- in place, or in a copy
module _ (bytes mid new_bytes : List ℕ) (list : KeyList) (some : list.count ≢ 0) (shape : LeafShape) (shaped : IsShapeOf bytes list.at shape) (direct : shape.is_indirect ≡ false) (new : NewElement) (most : new.index ≤ shape.count) (made : ℕ) (put : PutsElement bytes mid list.at shape new made) (frees : FreesOldList mid new_bytes list.at made) where
  abbrev old : List ℕ
  old = cell_data bytes list.at

  not_indirect : is_indirect old ≡ false
  not_indirect = sym shaped.indirect_is ∙ direct

  module _ (before : Cells) (own lent its : List ℕ) (h : Gives (subkeys_at list.count list.at) before own lent its) (here : before list.at ≡ Some old) (after : Cells) (now : List ℕ) (there : after made ≡ Some now) (gets : GetsElement old now shape.stride shape.count new.index new.offset)
      (others : (cell : ℕ) → IsSome (before cell) → cell ≢ list.at → after cell ≡ before cell) (place : (made ≡ list.at) ⊎ (before made ≡ None)) where
    own_is : own ≡ list.at ∷ []
    own_is = (list_is_leaf before list.count list.at own lent its old h some here not_indirect).0

    in_own : IsIn list.at own
    in_own = subst (λ (z : List ℕ). IsIn list.at z) (sym own_is) (inl refl)

    shifts : ShiftsIn old now 4 (stride_of old) (u16_at old 2) new.index new.offset
    shifts = subst (λ (k : ℕ). ShiftsIn old now 4 k (u16_at old 2) new.index new.offset) shaped.stride_is (subst (λ (n : ℕ). ShiftsIn old now 4 shape.stride n new.index new.offset) shaped.count_is gets.shifts)

    long : 4 + stride_of old * suc (u16_at old 2) ≤ length now
    long = subst (λ (k : ℕ). 4 + k * suc (u16_at old 2) ≤ length now) shaped.stride_is (subst (λ (n : ℕ). 4 + shape.stride * suc n ≤ length now) shaped.count_is gets.long)

    gained : ListGrown before after list.count list.at made new.offset own its
    gained = record {
      subkeys = with_at new.index new.offset its;
      more = more_with its new.index new.offset;
      own_now = made ∷ [];
      reads = list_with before after list.count list.at made own lent its old now h some here not_indirect there gets.letters new.index new.offset (gets.count_is ∙ ap suc shaped.count_is) long (subst (λ (n : ℕ). new.index ≤ n) shaped.count_is most) shifts;
      once = once_alone made;
      takes = λ cell i. elim i [
        | inl e ↦ elim place [
          | inl p ↦ inl (subst (λ (z : ℕ). IsIn z own) (sym (e ∙ p)) in_own)
          | inr p ↦ inr (ap before e ∙ p)
        ]
        | inr j ↦ absurd j
      ];
      stays = λ cell is out. others cell is (λ e. out (subst (λ (z : ℕ). IsIn z own) (sym e) in_own));
    }

  pub grown_leaf : GrowsList bytes new_bytes list new.offset made
  grown_leaf before shows own lent its h once =
      let here : before list.at ≡ Some old = shown_here bytes before shows list.at shaped.long.0 in
      let p = put before shows in
      let f = frees.cells p.1 p.2 in (
        f.0,
        f.1,
        gained before own lent its h here f.0 p.4 (f.2 made (kept before here p.0) ∙ p.5) p.6 (λ cell some other. f.2 cell (inl other) ∙ p.3 cell (apart before cell some other p.0)) p.0,
      )
    where
      kept : (before : Cells) → before list.at ≡ Some old → (made ≡ list.at) ⊎ (before made ≡ None) → (made ≢ list.at) ⊎ (list.at ≡ made)
      kept before here (inl e) = inr (sym e)
      kept before here (inr e) = inl (λ same. none_there (before made) (ap is_some (ap before same ∙ here)) e)

      apart : (before : Cells) (cell : ℕ) → IsSome (before cell) → cell ≢ list.at → (made ≡ list.at) ⊎ (before made ≡ None) → cell ≢ made
      apart before cell some other (inl e) same = other (same ∙ e)
      apart before cell some other (inr e) same = none_there (before cell) some (ap before same ∙ e)

-- in the first leaf
pub grown_first : (bytes mid new_bytes : List ℕ) (list : KeyList) (shape : LeafShape) (subkey to : ℕ) (text : List ℕ) → Tiles mid → list.count ≡ 0 → text ≡ u16_bytes 0x686c ++ u16_bytes 0 → AddsCell bytes mid to text → IsShapeOf mid to shape → shape.count ≡ 0 → 4 + shape.stride ≤ shape.room
    → ChangesCell mid new_bytes to (λ its now. LeafGains its now shape.stride shape.count 0 subkey) → GrowsList bytes new_bytes list subkey to
grown_first bytes mid new_bytes list shape subkey to text tiles none text_is adds shaped empty room put before shows own lent its h once =
    let a = adds.cells before shows in
    let source : List ℕ = text ++ replicate a.4 0 in
    let s = put.cells a.1 a.2 in
    let d = s.3 source a.5 in
    let mine : source ≡ cell_data mid to = (shown_some mid a.1 a.2 to source a.5).1 in
    let holds : CellHolds a.1 to (hashed_leaf []) = (replicate a.4 0, a.5 ∙ ap Some (ap (λ (z : List ℕ). z ++ replicate a.4 0) (text_is ∙ ap (λ (z : List ℕ). u16_bytes 0x686c ++ z) (sym (append-nil (u16_bytes 0)))))) in
    let count_is : u16_at source 2 ≡ shape.count = ap (λ (z : List ℕ). u16_at z 2) mine ∙ sym shaped.count_is in
    let stride_is : shape.stride ≡ stride_of source = shaped.stride_is ∙ ap stride_of (sym mine) in
    let fits : 4 + shape.stride * suc shape.count ≤ length d.0 = subst (λ (l : ℕ). 4 + shape.stride * suc shape.count ≤ l) (sym (d.2.len ∙ ap length mine)) (long_enough shape.stride shape.count shape.room (length (cell_data mid to)) (cell_size mid to) (first_room shape.stride shape.count shape.room empty room) shaped.room_is.1 (data_long mid to tiles shaped.room_is.0)) in
    let long : 4 + stride_of source * suc (u16_at source 2) ≤ length d.0 = subst (λ (k : ℕ). 4 + k * suc (u16_at source 2) ≤ length d.0) stride_is (subst (λ (n : ℕ). 4 + shape.stride * suc n ≤ length d.0) (sym count_is) fits) in
    let shifts : ShiftsIn source d.0 4 (stride_of source) (u16_at source 2) 0 subkey = subst (λ (k : ℕ). ShiftsIn source d.0 4 k (u16_at source 2) 0 subkey) stride_is (subst (λ (n : ℕ). ShiftsIn source d.0 4 shape.stride n 0 subkey) (sym count_is) d.2.shifts) in
    let leaf : Gives (leaf_at to) s.0 (to ∷ []) [] (subkey ∷ []) = leaf_more a.1 s.0 to to [] source d.0 0 subkey (to ∷ [], [], hashed_again a.1 to [] (omega arith) tt holds) a.5 d.1 d.2.letters (d.2.count_is ∙ ap suc (sym count_is)) long (omega arith) shifts in
    let says = leaf_says d.0 s.0 to d.1 (subkey ∷ []) (to ∷ [], [], leaf) in
    let reads : Gives (subkeys_at 1 to) s.0 (to ∷ []) [] (subkey ∷ []) = gives_same (sym says.1) (one_leaf d.0 s.0 to d.1 1 (λ e. absurd (omega (arith, e))) says.0 (ap length (sym says.1))) in
    let nothing = list_cells_none before list.count list.at own lent its h none in (
      s.0,
      s.1,
      record {
        subkeys = subkey ∷ [];
        more = record { first = []; rest = []; fewer_is = nothing.1; more_is = refl };
        own_now = to ∷ [];
        reads = subst (λ (n : ℕ). Gives (subkeys_at (suc n) to) s.0 (to ∷ []) [] (subkey ∷ [])) (sym none) reads;
        once = once_alone to;
        takes = λ cell i. inr (only a.0 cell i);
        stays = λ cell is out. let no : cell ≢ to = λ e. none_there (before cell) is (ap before e ∙ a.0) in s.2 cell no ∙ a.3 cell no;
      },
    )
  where
    only : before to ≡ None → (cell : ℕ) → IsIn cell (to ∷ []) → before cell ≡ None
    only e cell (inl i) = ap before i ∙ e
    only e cell (inr i) = absurd i

    first_room : (stride count room : ℕ) → count ≡ 0 → 4 + stride ≤ room → 4 + stride * (count + 1) ≤ room
    first_room stride count room zero fits = subst (λ (n : ℕ). 4 + stride * (n + 1) ≤ room) (sym zero) (omega (arith, fits))
