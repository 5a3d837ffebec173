-- The cells of a value that was found, and those of its data.
use Rattle.std.proofs.Common.{◌≡◌, inl, inr, ℕ, ◌<◌, ◌≤◌, ◌+◌, ◌-◌, ◌*◌, ◌^◌, ◌==◌, nat_le, nat_lt, List, [], ◌∷◌, ◌++◌, length, flat_map, refl, ◌∙◌, ap, sym, subst, Bool, true, Ok, Some, None, Option, IsSome, slice_range, arith, append-nil, le-leb, le-ltb, lt-ltb}
use Rattle.std.proofs.lemmas.Bool.{lt-leb}
use Rattle.std.proofs.lemmas.Bool.Decides.{eqb_tells}
use Rattle.refusals.specs.declared.refusal.Cause.TheVariants as cause
use Rattle.reg_tree_parts.specs.declared.value.Value.{Value}
use Rattle.reg_tree_parts.specs.Rows.{ValueMap}
use Rattle.reg_tree.specs.Maps.{TreeMap}
use Rattle.hive_tree_model.specs.Lists.{IsIn, Once}
use Rattle.hive_tree_model.specs.Keys.{own_cells}
use Rattle.hive_tree_model.proofs.Basics.{clash, some_same, in_front, in_back, once_front, once_back}
use Rattle.hive_cells.specs.Tiles.{u32_at, IsAllocatedCell, cell_data}
use Rattle.hive_cells.specs.Bins.{Cells, Shows}
use Rattle.hive_records.specs.Readers.{Read, done, rule, choice, look, each, ◌⟫◌}
use Rattle.hive_records.specs.Numbers.{u16_at, words_from, begins_with}
use Rattle.hive_records.specs.Names.{has_flag, name_in}
use Rattle.hive_records.specs.Values.{cell_prefix, segment_bytes, segments_of, segment_sizes, big_data, data_of, value_at}
use Rattle.hive_records.specs.Fields.{Gives}
use Rattle.hive_records.specs.Images.{splits}
use Rattle.hive_records.proofs.Keys.{keys_there}
use Rattle.hive_load_parts.proofs.NoneLent.{none_values}
use Rattle.hive_edit_laws.specs.ValueEdits.{data_cells}
use Rattle.hive_edit_laws.specs.Found.{ValueFound, value_list}
use Rattle.hive_edit_laws.proofs.KeyPlaces.{none_there}
use Rattle.hive_edit_laws.proofs.ReaderSteps.{split_of, rule_of, LookStep, look_of, choice_of, done_of}
use Rattle.hive_edit_laws.proofs.CellsShown.{shown_some}
use Rattle.hive_edit_laws.proofs.ValueRecords.{name_nothing}
use Rattle.hive_edit_laws.proofs.KeySteps.{Steps, in_five}
use Rattle.hive_edit_laws.proofs.KeyValues.{ValueSwap, value_swap}
use Rattle.hive_edit_laws.proofs.OneValue.{AtIndex, at_its_index, none_in}
use Rattle.hive_edit_laws.proofs.RowRevisions.{whole_found, read_found, steps_found}

-- what a value's record says
pub record ValueParts (split : Bool) (at : ℕ) (cells : Cells) (own lent : List ℕ) (value : Value) : Type 0 where
  pub bytes : List ℕ
  pub here : cells at ≡ Some bytes
  pub data_lent : List ℕ
  pub its : Gives (data_of split (u32_at bytes 4) bytes) cells (data_cells split cells bytes) data_lent value.«data»
  pub own_is : own ≡ at ∷ data_cells split cells bytes
  pub lent_is : lent ≡ data_lent
  pub kind_is : value.kind ≡ u32_at bytes 12

pub value_parts : (split : Bool) (at : ℕ) (cells : Cells) (own lent : List ℕ) (value : Value) → Gives (value_at split at) cells own lent value → ValueParts split at cells own lent value
value_parts split at cells own lent value h = looked (look_of at _ cells own lent value h)
  where
    looked : LookStep at (λ b. rule (begins_with b 0x6b76 20) cause.BadRecord ⟫ λ _. rule (nat_le (20 + u16_at b 2) (length b)) cause.BadRecord ⟫ λ _. name_in (has_flag 1 (u16_at b 16)) (slice_range b 20 (20 + u16_at b 2)) ⟫ λ name. data_of split (u32_at b 4) b ⟫ λ its_data. done (record { name = name; kind = u32_at b 12; «data» = its_data })) cells own lent value → ValueParts split at cells own lent value
    looked l =
        let a = rule_of _ _ _ cells l.own_next lent value l.next in
        let b = rule_of _ _ _ cells l.own_next lent value a.1 in
        let c = split_of (name_in (has_flag 1 (u16_at l.bytes 16)) (slice_range l.bytes 20 (20 + u16_at l.bytes 2))) _ cells l.own_next lent value b.1 in
        let d = split_of (data_of split (u32_at l.bytes 4) l.bytes) _ cells c.own_next c.lent_next value c.next in
        let e = done_of _ cells d.own_next d.lent_next value d.next in
        let n = name_nothing (has_flag 1 (u16_at l.bytes 16)) (slice_range l.bytes 20 (20 + u16_at l.bytes 2)) cells c.own_first c.lent_first c.x c.first in
        let own_so : d.own_first ≡ data_cells split cells l.bytes = sym (ap (λ (z : Read (List ℕ)). z.own) (d.first).reads) in
        record {
          bytes = l.bytes;
          here = l.here;
          data_lent = d.lent_first;
          its = record { reads = (d.first).reads ∙ (λ i. record { own = own_so i; lent = d.lent_first; says = Ok (e.2 i).«data» }) };
          own_is = l.own_is ∙ ap (λ (z : List ℕ). at ∷ z) (c.own_is ∙ ap (λ (z : List ℕ). z ++ c.own_next) n.0 ∙ d.own_is ∙ ap (λ (z : List ℕ). d.own_first ++ z) e.0 ∙ append-nil d.own_first ∙ own_so);
          lent_is = c.lent_is ∙ ap (λ (z : List ℕ). z ++ c.lent_next) n.1 ∙ d.lent_is ∙ ap (λ (z : List ℕ). d.lent_first ++ z) e.1 ∙ append-nil d.lent_first;
          kind_is = sym (ap (λ (v : Value). v.kind) e.2);
        }

module _ (bytes : List ℕ) (root minor : ℕ) (tree : TreeMap) (path : List (List ℕ)) (name : List ℕ) (key index at : ℕ) (f : ValueFound bytes root minor tree path name key index at) where
  abbrev its_cells : List ℕ
  its_cells = data_cells (splits minor) f.in_key.cells (cell_data bytes at)

  record FoundCells : Type 0 where
    data_is : Gives (data_of (splits minor) (u32_at (cell_data bytes at) 4) (cell_data bytes at)) f.in_key.cells its_cells [] (f.value).«data»
    kind_is : (f.value).kind ≡ u32_at (cell_data bytes at) 12
    once : Once (key ∷ value_list bytes key ∷ at ∷ its_cells)
    there : (cell : ℕ) → IsIn cell (key ∷ value_list bytes key ∷ at ∷ its_cells) → IsAllocatedCell bytes cell

  found_cells : FoundCells
  found_cells = by (steps_found bytes root minor tree path key f.in_key) (at_its_index (words_from f.list 0 4 (u32_at f.node 36)) index at f.listed) (value_parts (splits minor) at f.in_key.cells f.own f.lent f.value f.reads)
    where
      allocated : (cell : ℕ) (o : Option (List ℕ)) → f.in_key.cells cell ≡ o → IsSome o → IsAllocatedCell bytes cell
      allocated cell (Some its) e some = (shown_some bytes f.in_key.cells f.in_key.shows cell its e).0
      allocated cell None e some = absurd (none_there {A = List ℕ} None some refl)

      with_change : (s : Steps (splits minor) key f.in_key.cells f.in_key.place.parts) → f.node ≡ s.node → ValueParts (splits minor) at f.in_key.cells f.own f.lent f.value → ValueSwap (splits minor) (u32_at s.node 36) (u32_at s.node 40) at f.in_key.cells f.in_key.cells s.vo s.vl f.in_key.place.parts.row.values → FoundCells
      with_change s same v h =
          let is : v.bytes ≡ cell_data bytes at = (shown_some bytes f.in_key.cells f.in_key.shows at v.bytes v.here).1 in
          let node_is : f.node ≡ cell_data bytes key = (shown_some bytes f.in_key.cells f.in_key.shows key f.node f.node_is).1 in
          let list_same : u32_at s.node 40 ≡ value_list bytes key = ap (λ (z : List ℕ). u32_at z 40) (sym same ∙ node_is) in
          let own_same : h.its_own ≡ f.own = sym (ap (λ (z : Read Value). z.own) (h.one).reads) ∙ ap (λ (z : Read Value). z.own) (f.reads).reads in
          let lent_same : h.its_lent ≡ f.lent = sym (ap (λ (z : Read Value). z.lent) (h.one).reads) ∙ ap (λ (z : Read Value). z.lent) (f.reads).reads in
          let no_lent : s.vl ≡ [] = sym (ap (λ (z : Read ValueMap). z.lent) (s.valued).reads) ∙ none_values (splits minor) (u32_at s.node 36) (u32_at s.node 40) f.in_key.cells in
          let none : h.its_lent ≡ [] = none_in h.its_lent (λ cell i. subst (λ (z : List ℕ). IsIn cell z) no_lent (h.lent_within cell i)) in
          let own_is : h.its_own ≡ at ∷ its_cells = own_same ∙ v.own_is ∙ ap (λ (z : List ℕ). at ∷ data_cells (splits minor) f.in_key.cells z) is in
          let once_so : Once (key ∷ (s.na ++ (s.co ++ (s.eo ++ (s.vo ++ s.ko))))) = subst (λ (z : List ℕ). Once z) s.own_is (once_front f.in_key.place.parts.own (own_cells f.in_key.place.below) (whole_found bytes root minor tree path key f.in_key).once) in
          let once_vo : Once s.vo = once_front s.vo s.ko (once_back s.eo (s.vo ++ s.ko) (once_back s.co (s.eo ++ (s.vo ++ s.ko)) (once_back s.na (s.co ++ (s.eo ++ (s.vo ++ s.ko))) once_so.1))) in
          let once_list : Once (u32_at s.node 40 ∷ (h.front_own ++ (h.its_own ++ h.back_own))) = subst (λ (z : List ℕ). Once z) h.own_is once_vo in
          let mine : (cell : ℕ) → IsIn cell h.its_own → IsIn cell (h.front_own ++ (h.its_own ++ h.back_own)) = λ cell i. in_back cell h.front_own (h.its_own ++ h.back_own) (in_front cell h.its_own h.back_own i) in
          let in_vo : (cell : ℕ) → IsIn cell (u32_at s.node 40 ∷ h.its_own) → IsIn cell s.vo = λ cell i. subst (λ (z : List ℕ). IsIn cell z) (sym h.own_is) (elim i [ inl e ↦ inl e | inr j ↦ inr (mine cell j) ]) in
          let in_all : (cell : ℕ) → IsIn cell (u32_at s.node 40 ∷ h.its_own) → IsIn cell (s.na ++ (s.co ++ (s.eo ++ (s.vo ++ s.ko)))) = λ cell i. in_five s.na s.co s.eo s.vo s.ko cell (in_vo cell i) in
          let once_all : Once (key ∷ u32_at s.node 40 ∷ h.its_own) = (
            (λ i. once_so.0 (in_all key i)),
            ((λ i. once_list.0 (mine (u32_at s.node 40) i)), once_front h.its_own h.back_own (once_back h.front_own (h.its_own ++ h.back_own) once_list.1)),
          ) in
          let lists_same : (key ∷ u32_at s.node 40 ∷ h.its_own) ≡ (key ∷ value_list bytes key ∷ at ∷ its_cells) = λ i. key ∷ list_same i ∷ own_is i in
          let own_all : (cell : ℕ) → IsIn cell (key ∷ u32_at s.node 40 ∷ h.its_own) → IsIn cell f.in_key.place.parts.own = λ cell i. subst (λ (z : List ℕ). IsIn cell z) (sym s.own_is) (elim i [ inl e ↦ inl e | inr j ↦ inr (in_all cell j) ]) in
          record {
            data_is = record { reads = (λ i. data_of (splits minor) (u32_at (sym is i) 4) (sym is i) f.in_key.cells) ∙ (v.its).reads ∙ (λ i. record { own = data_cells (splits minor) f.in_key.cells (is i); lent = (sym v.lent_is ∙ sym lent_same ∙ none) i; says = Ok (f.value).«data» }) };
            kind_is = v.kind_is ∙ ap (λ (z : List ℕ). u32_at z 12) is;
            once = subst (λ (z : List ℕ). Once z) lists_same once_all;
            there = λ cell i. allocated cell (f.in_key.cells cell) refl (keys_there (splits minor) f.in_key.cells key f.in_key.place.parts (read_found bytes root minor tree path key f.in_key) cell (in_front cell f.in_key.place.parts.own f.in_key.place.parts.lent (own_all cell (subst (λ (z : List ℕ). IsIn cell z) (sym lists_same) i))));
          }

      by : Steps (splits minor) key f.in_key.cells f.in_key.place.parts → AtIndex (words_from f.list 0 4 (u32_at f.node 36)) index at → ValueParts (splits minor) at f.in_key.cells f.own f.lent f.value → FoundCells
      by s p v =
          let same : f.node ≡ s.node = some_same f.node s.node (sym f.node_is ∙ s.here) in
          with_change s same v (value_swap (splits minor) (u32_at s.node 36) (u32_at s.node 40) at f.in_key.cells f.in_key.cells s.vo s.vl f.in_key.place.parts.row.values f.list p.first p.rest
          (subst (λ (z : List ℕ). f.in_key.cells (u32_at z 40) ≡ Some f.list) same f.list_is)
          (subst (λ (z : List ℕ). words_from f.list 0 4 (u32_at z 36) ≡ p.first ++ at ∷ p.rest) same p.is)
          s.valued)

  pub found_data : Gives (data_of (splits minor) (u32_at (cell_data bytes at) 4) (cell_data bytes at)) f.in_key.cells its_cells [] (f.value).«data»
  found_data = found_cells.data_is

  pub found_kind : (f.value).kind ≡ u32_at (cell_data bytes at) 12
  found_kind = found_cells.kind_is

  pub found_once : Once (key ∷ value_list bytes key ∷ at ∷ its_cells)
  found_once = found_cells.once

  pub found_there : (cell : ℕ) → IsIn cell (key ∷ value_list bytes key ∷ at ∷ its_cells) → IsAllocatedCell bytes cell
  found_there = found_cells.there

pub prefix_own : (cells : Cells) (size to : ℕ) (own lent value_bytes : List ℕ) → Gives (cell_prefix size to) cells own lent value_bytes → own ≡ to ∷ []
prefix_own cells size to own lent value_bytes h =
    let k = look_of to _ cells own lent value_bytes h in
    let a = rule_of _ _ _ cells k.own_next lent value_bytes k.next in
    k.own_is ∙ ap (λ (z : List ℕ). to ∷ z) (done_of _ cells k.own_next lent value_bytes a.1).0

-- each segment has one cell
segments_own : (cells : Cells) (left : ℕ) (offsets : List ℕ) (own lent : List ℕ) (pieces : List (List ℕ)) → Gives (each (λ (s : ℕ × ℕ). cell_prefix s.0 s.1) (segment_sizes left offsets)) cells own lent pieces → own ≡ offsets
unfolding each
segments_own cells left [] own lent pieces h = (done_of [] cells own lent pieces h).0
segments_own cells left (at ∷ []) own lent pieces h =
    let s = split_of (cell_prefix left at) _ cells own lent pieces h in
    s.own_is ∙ ap (λ (z : List ℕ). z ++ s.own_next) (prefix_own cells left at s.own_first s.lent_first s.x s.first) ∙ ap (λ (z : List ℕ). at ∷ z) (last_own s.x s.own_next s.lent_next s.next)
  where
    last_own : (y : List ℕ) (o l : List ℕ) → Gives (each (λ (s : ℕ × ℕ). cell_prefix s.0 s.1) [] ⟫ λ ys. done (y ∷ ys)) cells o l pieces → o ≡ []
    last_own y o l g =
        let t = split_of (each (λ (s : ℕ × ℕ). cell_prefix s.0 s.1) []) (λ ys. done (y ∷ ys)) cells o l pieces g in
        let d = done_of [] cells t.own_first t.lent_first t.x t.first in
        let e = done_of (y ∷ t.x) cells t.own_next t.lent_next pieces t.next in
        t.own_is ∙ ap (λ (z : List ℕ). z ++ t.own_next) d.0 ∙ e.0
segments_own cells left (at ∷ next ∷ rest) own lent pieces h =
    let s = split_of (cell_prefix 16_344 at) _ cells own lent pieces h in
    s.own_is ∙ ap (λ (z : List ℕ). z ++ s.own_next) (prefix_own cells 16_344 at s.own_first s.lent_first s.x s.first) ∙ ap (λ (z : List ℕ). at ∷ z) (rest_own s.x s.own_next s.lent_next s.next (λ o l ps g. segments_own cells (left - 16_344) (next ∷ rest) o l ps g))
  where
    rest_own : (y : List ℕ) (o l : List ℕ) → Gives (each (λ (s : ℕ × ℕ). cell_prefix s.0 s.1) (segment_sizes (left - 16_344) (next ∷ rest)) ⟫ λ ys. done (y ∷ ys)) cells o l pieces → ((o l : List ℕ) (ps : List (List ℕ)) → Gives (each (λ (s : ℕ × ℕ). cell_prefix s.0 s.1) (segment_sizes (left - 16_344) (next ∷ rest))) cells o l ps → o ≡ next ∷ rest) → o ≡ next ∷ rest
    rest_own y o l g later =
        let t = split_of (each (λ (s : ℕ × ℕ). cell_prefix s.0 s.1) (segment_sizes (left - 16_344) (next ∷ rest))) (λ ys. done (y ∷ ys)) cells o l pieces g in
        let e = done_of (y ∷ t.x) cells t.own_next t.lent_next pieces t.next in
        t.own_is ∙ ap (λ (z : List ℕ). t.own_first ++ z) e.0 ∙ append-nil t.own_first ∙ later t.own_first t.lent_first t.x t.first

-- big data have their record, their list and their segments
pub big_own : (bytes : List ℕ) (cells : Cells) → Shows bytes cells → (size to : ℕ) (own lent value_bytes : List ℕ) → Gives (big_data size to) cells own lent value_bytes →
    (own ≡ to ∷ u32_at (cell_data bytes to) 4 ∷ words_from (cell_data bytes (u32_at (cell_data bytes to) 4)) 0 4 (segments_of size))
big_own bytes cells shows size to own lent value_bytes h = first (look_of to _ cells own lent value_bytes h)
  where
    second : (o l : List ℕ) (list_at : ℕ) → LookStep list_at (λ list. rule (nat_le (4 * segments_of size) (length list)) cause.BadRecord ⟫ λ _. each (λ (s : ℕ × ℕ). cell_prefix s.0 s.1) (segment_sizes size (words_from list 0 4 (segments_of size))) ⟫ λ pieces. done (flat_map (λ (p : List ℕ). p) pieces)) cells o l value_bytes → o ≡ list_at ∷ words_from (cell_data bytes list_at) 0 4 (segments_of size)
    second o l list_at k =
        let a = rule_of _ _ _ cells k.own_next l value_bytes k.next in
        let s = split_of (each (λ (s : ℕ × ℕ). cell_prefix s.0 s.1) (segment_sizes size (words_from k.bytes 0 4 (segments_of size)))) _ cells k.own_next l value_bytes a.1 in
        let d = done_of _ cells s.own_next s.lent_next value_bytes s.next in
        k.own_is ∙ ap (λ (z : List ℕ). list_at ∷ z) (s.own_is ∙ ap (λ (z : List ℕ). s.own_first ++ z) d.0 ∙ append-nil s.own_first ∙ segments_own cells size (words_from k.bytes 0 4 (segments_of size)) s.own_first s.lent_first s.x s.first
        ∙ ap (λ (z : List ℕ). words_from z 0 4 (segments_of size)) (shown_some bytes cells shows list_at k.bytes k.here).1)

    first : LookStep to (λ b. rule (begins_with b 0x6264 8) cause.BadRecord ⟫ λ _. rule (u16_at b 2 == segments_of size) cause.BadRecord ⟫ λ _. look (u32_at b 4) ⟫ λ list. rule (nat_le (4 * segments_of size) (length list)) cause.BadRecord ⟫ λ _. each (λ (s : ℕ × ℕ). cell_prefix s.0 s.1) (segment_sizes size (words_from list 0 4 (segments_of size))) ⟫ λ pieces. done (flat_map (λ (p : List ℕ). p) pieces)) cells own lent value_bytes → own ≡ to ∷ u32_at (cell_data bytes to) 4 ∷ words_from (cell_data bytes (u32_at (cell_data bytes to) 4)) 0 4 (segments_of size)
    first k =
        let a = rule_of _ _ _ cells k.own_next lent value_bytes k.next in
        let b = rule_of _ _ _ cells k.own_next lent value_bytes a.1 in
        let is : k.bytes ≡ cell_data bytes to = (shown_some bytes cells shows to k.bytes k.here).1 in
        k.own_is ∙ ap (λ (z : List ℕ). to ∷ z) (second k.own_next lent (u32_at k.bytes 4) (look_of (u32_at k.bytes 4) _ cells k.own_next lent value_bytes b.1))
        ∙ ap (λ (z : List ℕ). to ∷ u32_at z 4 ∷ words_from (cell_data bytes (u32_at z 4)) 0 4 (segments_of size)) is

-- which cells data have, by the size that their record says
module _ (split : Bool) (bytes : List ℕ) (cells : Cells) (shows : Shows bytes cells) (fields own lent value_bytes : List ℕ) (h : Gives (data_of split (u32_at fields 4) fields) cells own lent value_bytes) where
  pub none_outside : 2 ^ 31 ≤ u32_at fields 4 → own ≡ []
  none_outside big = elim (choice_of (nat_le (2 ^ 31) (u32_at fields 4)) _ _ cells own lent value_bytes h) [
    | inl g ↦ (done_of _ cells own lent value_bytes (rule_of _ _ _ cells own lent value_bytes g.1).1).0
    | inr g ↦ clash (nat_le (2 ^ 31) (u32_at fields 4)) (le-leb (2 ^ 31) (u32_at fields 4) big) g.0
  ]

  outside : u32_at fields 4 < 2 ^ 31 → Gives (choice (u32_at fields 4 == 0) (done []) (choice split (choice (nat_lt segment_bytes (u32_at fields 4)) (big_data (u32_at fields 4) (u32_at fields 8)) (cell_prefix (u32_at fields 4) (u32_at fields 8))) (cell_prefix (u32_at fields 4) (u32_at fields 8)))) cells own lent value_bytes
  outside less = elim (choice_of (nat_le (2 ^ 31) (u32_at fields 4)) _ _ cells own lent value_bytes h) [
    | inl g ↦ clash (nat_le (2 ^ 31) (u32_at fields 4)) g.0 (lt-leb (2 ^ 31) (u32_at fields 4) less)
    | inr g ↦ g.1
  ]

  pub none_empty : u32_at fields 4 ≡ 0 → own ≡ []
  none_empty size = elim (choice_of (u32_at fields 4 == 0) _ _ cells own lent value_bytes (outside (omega (arith, size)))) [
    | inl g ↦ (done_of [] cells own lent value_bytes g.1).0
    | inr g ↦ elim (eqb_tells (u32_at fields 4) 0) [ inl k ↦ clash (u32_at fields 4 == 0) k.0 g.0 | inr k ↦ absurd (k.1 size) ]
  ]

  some : u32_at fields 4 < 2 ^ 31 → 0 < u32_at fields 4 → Gives (choice split (choice (nat_lt segment_bytes (u32_at fields 4)) (big_data (u32_at fields 4) (u32_at fields 8)) (cell_prefix (u32_at fields 4) (u32_at fields 8))) (cell_prefix (u32_at fields 4) (u32_at fields 8))) cells own lent value_bytes
  some less more = elim (choice_of (u32_at fields 4 == 0) _ _ cells own lent value_bytes (outside less)) [
    | inl g ↦ elim (eqb_tells (u32_at fields 4) 0) [ inl k ↦ absurd (let e : u32_at fields 4 ≡ 0 = k.1 in omega (arith, more, e)) | inr k ↦ clash (u32_at fields 4 == 0) g.0 k.0 ]
    | inr g ↦ g.1
  ]

  pub one_cell : 0 < u32_at fields 4 → u32_at fields 4 < 2 ^ 31 → (split ≡ true → u32_at fields 4 ≤ 16_344) → own ≡ u32_at fields 8 ∷ []
  one_cell more less few = elim (choice_of split _ _ cells own lent value_bytes (some less more)) [
    | inl g ↦ elim (choice_of (nat_lt segment_bytes (u32_at fields 4)) _ _ cells own lent value_bytes g.1) [
      | inl k ↦ clash (nat_lt segment_bytes (u32_at fields 4)) k.0 (le-ltb 16_344 (u32_at fields 4) (few g.0))
      | inr k ↦ prefix_own cells (u32_at fields 4) (u32_at fields 8) own lent value_bytes k.1
    ]
    | inr g ↦ prefix_own cells (u32_at fields 4) (u32_at fields 8) own lent value_bytes g.1
  ]

  pub many_cells : split ≡ true → 16_344 < u32_at fields 4 → u32_at fields 4 < 2 ^ 31 →
      own ≡ u32_at fields 8 ∷ u32_at (cell_data bytes (u32_at fields 8)) 4 ∷ words_from (cell_data bytes (u32_at (cell_data bytes (u32_at fields 8)) 4)) 0 4 (segments_of (u32_at fields 4))
  many_cells splitting many less = elim (choice_of split _ _ cells own lent value_bytes (some less (omega (arith, many)))) [
    | inl g ↦ elim (choice_of (nat_lt segment_bytes (u32_at fields 4)) _ _ cells own lent value_bytes g.1) [
      | inl k ↦ big_own bytes cells shows (u32_at fields 4) (u32_at fields 8) own lent value_bytes k.1
      | inr k ↦ clash (nat_lt segment_bytes (u32_at fields 4)) (lt-ltb 16_344 (u32_at fields 4) many) k.0
    ]
    | inr g ↦ clash split splitting g.0
  ]
