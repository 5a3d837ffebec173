-- Where lists have subkeys.
use Rattle.std.proofs.Common.{◌≡◌, ◌≢◌, ℕ, ◌+◌, ◌*◌, ◌<◌, true, false, List, Option, None, Some, slice_get, sym, ap, subst, ◌∙◌, arith}
use Rattle.hive_tree_model.specs.Lists.{IsIn}
use Rattle.hive_cells.specs.Tiles.{u32_at, cell_data}
use Rattle.hive_cells.specs.Bins.{Cells, Shows}
use Rattle.hive_records.specs.Fields.{Gives}
use Rattle.hive_records.specs.Lists.{subkeys_at}
use Rattle.hive_records.specs.Heads.{IsSubkeyList}
use Rattle.hive_records.specs.RecordReaders.{elements_of}
use Rattle.hive_records.specs.declared.list_record.SubkeyList.{SubkeyList}
use Rattle.hive_edit_laws.specs.Found.{HoldsList}
use Rattle.hive_edit_laws.proofs.ListSearch.{word_get, get_in, list_read, leaf_there, leaf_read}
use Rattle.hive_edit.specs.Lists.{offset_at}
use Rattle.hive_edit.specs.Searches.{IsNamedAt, IsLeafSlot, IsLeafAt, IsLeafOf, IsSlotOf}
use Rattle.hive_edit.specs.declared.offsets.Offsets.{Offsets}
use Rattle.hive_edit.specs.declared.search.RecordKind.{RecordKind}
use Rattle.hive_edit.specs.declared.subkeys.SubkeySlot.{SubkeySlot}

zero_on : (k : ℕ) → 0 + k ≡ k
zero_on k = omega arith

-- an offset of a list's elements is at its index
pub element_at : (list : SubkeyList) (o : Offsets) (index at : ℕ) → o.bytes ≡ list.elements → o.stride ≡ list.stride → o.count ≡ list.count → index < o.count → at ≡ offset_at o index → slice_get (elements_of list) index ≡ Some at
element_at list o index at bytes stride count less is =
    word_get list.elements.now 0 list.stride list.count index (subst (λ n. index < n) count less)
    ∙ ap Some (ap (u32_at list.elements.now) (zero_on (list.stride * index)) ∙ ap (λ s. u32_at list.elements.now (s * index)) (sym stride) ∙ ap (λ b. u32_at b.now (o.stride * index)) (sym bytes) ∙ sym is)

pub leaf_slot : (bytes : List ℕ) (leaf : ℕ) (list : SubkeyList) (o : Offsets) (index at : ℕ) → HoldsList bytes leaf → IsSubkeyList list (cell_data bytes leaf) → list.is_indirect ≡ false → o.bytes ≡ list.elements → o.stride ≡ list.stride → o.count ≡ list.count → index < o.count → at ≡ offset_at o index → IsLeafSlot bytes leaf index at
leaf_slot bytes leaf list o index at holds is direct same stride count less here = record { holds = holds; list = list; is = is; direct = direct; here = element_at list o index at same stride count less here }

pub leaf_at_index : (bytes : List ℕ) (at : ℕ) (list : SubkeyList) (o : Offsets) (index leaf : ℕ) → HoldsList bytes at → IsSubkeyList list (cell_data bytes at) → list.is_indirect ≡ true → o.bytes ≡ list.elements → o.stride ≡ list.stride → o.count ≡ list.count → index < o.count → leaf ≡ offset_at o index → IsLeafAt bytes at index leaf
leaf_at_index bytes at list o index leaf holds is indirect same stride count less here = record { holds = holds; list = list; is = is; indirect = indirect; here = element_at list o index leaf same stride count less here }

pub named_there : (kind : RecordKind) (bytes : List ℕ) (at other : ℕ) (name : List ℕ) → at ≡ other → IsNamedAt kind bytes other name → IsNamedAt kind bytes at name
named_there kind bytes at other name e h = subst (λ a. IsNamedAt kind bytes a name) (sym e) h

-- a subkey in a slot is one of the key's subkeys
module _ (bytes : List ℕ) (cells : Cells) (shows : Shows bytes cells) (count at : ℕ) (own lent subkeys : List ℕ) (h : Gives (subkeys_at count at) cells own lent subkeys) (some : count ≢ 0) where
  by_leaf : (leaf index subkey : ℕ) (o : Option ℕ) → IsLeafOf bytes at o leaf → IsLeafSlot bytes leaf index subkey → IsIn subkey subkeys
  by_leaf leaf index subkey None e s =
      let list_is : IsSubkeyList s.list (cell_data bytes at) = subst (λ l. IsSubkeyList s.list (cell_data bytes l)) e s.is in
      subst (λ xs. IsIn subkey xs) (list_read bytes cells shows count at own lent subkeys h some s.list list_is s.direct) (get_in (elements_of s.list) index subkey s.here)
  by_leaf leaf index subkey (Some i) l s =
      let has = leaf_there bytes cells shows count at own lent subkeys h some l.list l.is l.indirect leaf (get_in (elements_of l.list) i leaf l.here) in
      has.2 subkey (subst (λ xs. IsIn subkey xs) (leaf_read bytes cells shows leaf has.0 has.1 s.list s.is).1 (get_in (elements_of s.list) index subkey s.here))

  pub slot_listed : (slot : SubkeySlot) → IsSlotOf bytes at slot → IsIn slot.subkey subkeys
  slot_listed slot s = by_leaf slot.leaf slot.index slot.subkey slot.leaf_index s.0 s.1

-- a slot in a leaf is a slot of the list that has the leaf
pub slot_of : (bytes : List ℕ) (at : ℕ) (slot : SubkeySlot) (o : Option ℕ) (leaf : ℕ) → slot.leaf_index ≡ o → slot.leaf ≡ leaf → IsLeafOf bytes at o leaf → IsLeafSlot bytes leaf slot.index slot.subkey → IsSlotOf bytes at slot
slot_of bytes at slot o leaf same there l s = (
  subst (λ p. IsLeafOf bytes at p slot.leaf) (sym same) (subst (λ f. IsLeafOf bytes at o f) (sym there) l),
  subst (λ f. IsLeafSlot bytes f slot.index slot.subkey) (sym there) s,
)
