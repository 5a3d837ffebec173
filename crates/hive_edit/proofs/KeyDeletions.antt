-- A key is taken from its parent's list.
use Rattle.std.proofs.Common.{◌≡◌, ◌≢◌, inl, inr, ℕ, ◌+◌, ◌-◌, ◌*◌, ◌<◌, ◌≤◌, true, List, [], ◌∷◌, ◌++◌, length, Option, Some, refl, sym, ap, subst, ◌∙◌, arith, if◌then◌else◌}
use Rattle.std.proofs.Math.Nat.{mul-sub}
use Rattle.reg_names.specs.Names.{folded, folded_path}
use Rattle.reg_tree.specs.Maps.{TreeMap}
use Rattle.reg_tree.specs.Operations.{tree_after}
use Rattle.reg_tree.specs.declared.op.Op.TheVariants.{DeleteKey}
use Rattle.hive_tree_model.specs.Lists.{IsIn, Once}
use Rattle.hive_tree_model.specs.Keys.{offsets}
use Rattle.hive_tree_model.proofs.Basics.{decided, in_back, once_back, yes_if, no_if}
use Rattle.hive_cells.specs.Tiles.{Tiles, u32_at, cell_data, cell_size}
use Rattle.hive_cells.specs.Bins.{Cells, Shows}
use Rattle.hive_records.specs.Readers.{Read}
use Rattle.hive_records.specs.Numbers.{u16_at}
use Rattle.hive_records.specs.Fields.{Gives}
use Rattle.hive_records.specs.Heads.{stride_of}
use Rattle.hive_records.specs.Images.{splits, BinsEncodeTree}
use Rattle.hive_records.specs.Lists.{is_indirect, subkeys_at}
use Rattle.hive_records.specs.KeyNodes.{trail_in}
use Rattle.hive_records.proofs.WholesAgain.{no_subkeys}
use Rattle.hive_edit_laws.specs.Found.{KeyFound, list_words}
use Rattle.hive_edit_laws.specs.KeyCells.{class_cells}
use Rattle.hive_edit_laws.specs.ValueEdits.{value_cells}
use Rattle.hive_edit_laws.specs.SubkeyLists.{OneMore, subkey_cells, SubkeysChange}
use Rattle.hive_edit_laws.proofs.CellsShown.{shown_here, shown_some}
use Rattle.hive_edit_laws.proofs.CellWrites.{data_long}
use Rattle.hive_edit_laws.proofs.KeyCells.{own_kinds, own_once}
use Rattle.hive_edit_laws.proofs.LeafBytes.{list_is_leaf, list_has_leaves}
use Rattle.hive_edit_laws.proofs.ListSearch.{list_many, list_holds}
use Rattle.hive_edit_laws.proofs.KeySearch.{subkeys_read}
use Rattle.hive_edit_laws.proofs.KeyRemovals.{deletion_encodes}
use Rattle.hive_edit_laws.proofs.EachSwaps.{same_reading}
use Rattle.hive_records.proofs.Keys.{local_subkeys}
use Rattle.hive_savepoint.specs.Puts.{ChangesCell}
use Rattle.hive_edit.specs.DataPlaces.{FreesCells}
use Rattle.hive_edit.specs.OwnCells.{FreesKey}
use Rattle.hive_edit.specs.ListCells.{lists_at}
use Rattle.hive_edit.specs.Searches.{IsNamedAt, IsLeafAt, IsLeafOf, IsSlotOf}
use Rattle.hive_edit.specs.SubkeyPlaces.{IsListOfKey, IsShapeOf, LeafLoses, NodeGetsList}
use Rattle.hive_edit.specs.declared.search.RecordKind.TheVariants.{Key}
use Rattle.hive_edit.specs.declared.subkeys.SubkeySlot.{SubkeySlot}
use Rattle.hive_edit.specs.declared.key_lists.KeyList.{KeyList}
use Rattle.hive_edit.specs.declared.leaf_edit.LeafShape.{LeafShape}
use Rattle.hive_edit.proofs.KeyCells.{home_kept, lists_kept, given_freed}
use Rattle.hive_edit.proofs.KeyCreations.{home_own, lists_own}
use Rattle.hive_edit.proofs.ValueFrees.{none_freed}
use Rattle.hive_edit.proofs.Slots.{slot_listed}
use Rattle.hive_edit.proofs.LeafLosses.{ListLost, list_lost, indirect_stride}
use Rattle.hive_edit.proofs.LeafDrops.{LeafDropped, leaf_dropped, dropped_top_own, only_one}

-- the cells of a key's lists: none is there twice, and its node is none of them
pub lists_once : (bytes : List ℕ) (root minor : ℕ) (tree : TreeMap) (path : List (List ℕ)) (home : ℕ) (f : KeyFound bytes root minor tree path home) → Once (home ∷ subkey_cells f.cells (cell_data bytes home))
lists_once bytes root minor tree path home f =
    let class = class_cells (cell_data bytes home) in
    let values = value_cells (splits minor) f.cells (cell_data bytes home) in
    let lists = subkey_cells f.cells (cell_data bytes home) in
    let all : Once (home ∷ (class ++ (values ++ lists))) = subst (λ (z : List ℕ). Once z) (own_kinds bytes root minor tree path home f) (own_once bytes root minor tree path home f) in
    ((λ i. all.0 (in_back home class (values ++ lists) (in_back home values lists i))), once_back values lists (once_back class (values ++ lists) all.1))

shorter : (stride count len size : ℕ) → len + 4 ≡ size → 4 + (4 + stride * count) ≤ size → 4 + stride * (count - 1) ≤ len
shorter stride count len size is long =
    let p : stride * (count - 1) ≡ stride * count - stride * 1 = mul-sub stride count 1 in
    omega (arith, is, long, p)

module _ (bytes : List ℕ) (root : ℕ) (tree : TreeMap) (hive : ℕ) (front : List (List ℕ)) (name : List ℕ) (home : ℕ) (f : KeyFound bytes root 5 tree (folded_path front) home) (tiles : Tiles bytes) (list : KeyList) (of_key : IsListOfKey bytes home list) (slot : SubkeySlot) (in_slot : IsSlotOf bytes list.at slot)
    (named : IsNamedAt Key bytes slot.subkey (folded name)) (lonely : u32_at (cell_data bytes slot.subkey) 20 ≡ 0) (moment : ℕ) where
  r : (own : List ℕ) × Gives (subkeys_at (u32_at (cell_data bytes home) 20) (u32_at (cell_data bytes home) 28)) f.cells own [] (offsets f.place.below)
  r = subkeys_read bytes root 5 tree (folded_path front) home f

  own_is : subkey_cells f.cells (cell_data bytes home) ≡ r.0
  own_is = ap (λ (z : Read (List ℕ)). z.own) (r.1).reads

  once : Once (home ∷ r.0)
  once = subst (λ (z : List ℕ). Once (home ∷ z)) own_is (lists_once bytes root 5 tree (folded_path front) home f)

  reads : Gives (subkeys_at list.count list.at) f.cells r.0 [] (offsets f.place.below)
  reads = subst (λ (z : ℕ). Gives (subkeys_at z list.at) f.cells r.0 [] (offsets f.place.below)) (sym of_key.count_is)
      (subst (λ (z : ℕ). Gives (subkeys_at (u32_at (cell_data bytes home) 20) z) f.cells r.0 [] (offsets f.place.below)) (sym of_key.at_is) r.1)

  home_here : f.cells home ≡ Some (cell_data bytes home)
  home_here = shown_here bytes f.cells f.shows home of_key.long.0

  listed : list.count ≢ 0 → IsIn slot.subkey (offsets f.place.below)
  listed some = slot_listed bytes f.cells f.shows list.count list.at r.0 [] (offsets f.place.below) reads some slot in_slot

  in_lists : (cell : ℕ) → IsIn cell r.0 → IsIn cell (subkey_cells f.cells (cell_data bytes home))
  in_lists cell i = subst (λ (z : List ℕ). IsIn cell z) (sym own_is) i

  -- the key has another list, cells of the old one are freed, and then the cells of the subkey
  module _ (some : list.count ≢ 0) (left to : ℕ) (put_bytes mid new_bytes : List ℕ) (new_tiles : Tiles new_bytes) (put : Cells) (shown : Shows put_bytes put) (node : List ℕ) (node_is : put home ≡ Some node) (gets : NodeGetsList (cell_data bytes home) node left to moment) (own subkeys : List ℕ) (now : Gives (subkeys_at left to) put own [] subkeys)
      (own_once : Once own) (within : (cell : ℕ) → IsIn cell own → IsIn cell r.0) (others : (cell : ℕ) → cell ≢ home → (IsIn cell r.0 → ⊥) → put cell ≡ f.cells cell) (more : OneMore slot.subkey subkeys (offsets f.place.below)) (gone : List ℕ) (lists_gone : FreesCells put_bytes mid gone) (gone_within : (cell : ℕ) → IsIn cell gone → IsIn cell r.0)
      (gone_apart : (cell : ℕ) → IsIn cell own → IsIn cell gone → ⊥) (key_gone : FreesKey mid new_bytes slot.subkey) where
    abbrev given : List ℕ
    given = trail_in true f.cells slot.subkey

    after : (cells : Cells) × Shows mid cells × ((cell : ℕ) → (IsIn cell gone → ⊥) → cells cell ≡ put cell)
    after = lists_gone put shown

    key_frees : FreesCells mid new_bytes given
    key_frees = given_freed bytes root tree (folded_path front) home f slot.subkey (listed some) lonely mid after.0 after.1
        (λ cell out. after.2 cell (λ i. out (lists_own bytes root tree (folded_path front) home f cell (in_lists cell (gone_within cell i))))
        ∙ others cell (λ e. out (subst (λ (z : ℕ). IsIn z f.place.parts.own) (sym e) (home_own bytes root tree (folded_path front) home f))) (λ i. out (lists_own bytes root tree (folded_path front) home f cell (in_lists cell i))))
        new_bytes key_gone

    last : (cells : Cells) × Shows new_bytes cells × ((cell : ℕ) → (IsIn cell given → ⊥) → cells cell ≡ after.0 cell)
    last = key_frees after.0 after.1

    change : SubkeysChange f.cells last.0 home subkeys moment given
    change = record {
      old_node = cell_data bytes home;
      old_is = home_here;
      new_node = node;
      new_is = last.2 home (home_kept bytes root tree (folded_path front) home f slot.subkey (listed some)) ∙ after.2 home (λ i. once.0 (gone_within home i)) ∙ node_is;
      fields = gets.fields;
      time_is = gets.time_is;
      value_count = gets.value_count;
      value_list = gets.value_list;
      own = own;
      reads = subst (λ (z : ℕ). Gives (subkeys_at z (u32_at node 28)) last.0 own [] subkeys) (sym gets.count_is) (subst (λ (z : ℕ). Gives (subkeys_at left z) last.0 own [] subkeys) (sym gets.list_is)
          (same_reading (subkeys_at left to) (local_subkeys left to) put last.0 own [] subkeys now
          (λ cell i. last.2 cell (lists_kept bytes root tree (folded_path front) home f slot.subkey (listed some) cell (in_lists cell (within cell i))) ∙ after.2 cell (gone_apart cell i)) (λ cell i. absurd i)));
      once = own_once;
      takes = λ cell i. inl (in_lists cell (within cell i));
      stays = λ cell is apart not_list not_given. last.2 cell not_given ∙ after.2 cell (λ i. not_list (in_lists cell (gone_within cell i))) ∙ others cell apart (λ i. not_list (in_lists cell i));
    }

    taken : BinsEncodeTree new_bytes root 5 (tree_after tree (DeleteKey hive (front ++ name ∷ [])) moment)
    taken = deletion_encodes bytes new_bytes root 5 tree hive front name home slot.subkey moment f new_tiles last.0 last.1 named.1.1 lonely (record { subkeys = subkeys; change = change; more = more })

  -- the leaf that has it gets shorter
  module _ (shape : LeafShape) (shaped : IsShapeOf bytes slot.leaf shape) (few : slot.index < shape.count) (more : 1 < list.count) (mid put_bytes new_bytes : List ℕ) (new_tiles : Tiles new_bytes)
      (leaf_put : ChangesCell bytes mid slot.leaf (λ its now. LeafLoses its now shape.stride (shape.count - 1) slot.index)) (node_put : ChangesCell mid put_bytes home (λ its now. NodeGetsList its now (list.count - 1) list.at moment)) (key_gone : FreesKey put_bytes new_bytes slot.subkey) where
    many : list.count ≢ 0
    many e = absurd (omega (arith, e, more))

    abbrev old : List ℕ
    old = cell_data bytes slot.leaf

    leaf_here : f.cells slot.leaf ≡ Some old
    leaf_here = shown_here bytes f.cells f.shows slot.leaf shaped.long.0

    long : 4 + stride_of old * (shape.count - 1) ≤ length old
    long = subst (λ (k : ℕ). 4 + k * (shape.count - 1) ≤ length old) shaped.stride_is (shorter shape.stride shape.count (length old) (cell_size bytes slot.leaf) (data_long bytes slot.leaf tiles shaped.long.0) shaped.long.1)

    lost : (after : Cells) (new : List ℕ) → after slot.leaf ≡ Some new → ((cell : ℕ) → IsIn cell r.0 → cell ≢ slot.leaf → after cell ≡ f.cells cell) → LeafLoses old new (stride_of old) (shape.count - 1) slot.index → ListLost after (list.count - 1) list.at r.0 (offsets f.place.below) slot.leaf slot.subkey
    lost after new there others loses = list_lost bytes f.cells f.shows list.count r.0 [] (offsets f.place.below) once.1 (λ e. absurd (omega (arith, e, more))) (list.count - 1) (omega (arith, more)) (λ e. absurd (omega (arith, e, more))) slot.leaf slot.index slot.subkey in_slot.1
        after new there others (shape.count - 1) (sym shaped.count_is ∙ omega (arith, few)) (omega (arith, few)) loses long list.at reads slot.leaf_index in_slot.0

    pub shortened : BinsEncodeTree new_bytes root 5 (tree_after tree (DeleteKey hive (front ++ name ∷ [])) moment)
    shortened =
        let s = leaf_put.cells f.cells f.shows in
        let d = s.3 old leaf_here in
        let loses : LeafLoses old d.0 (stride_of old) (shape.count - 1) slot.index = subst (λ (k : ℕ). LeafLoses old d.0 k (shape.count - 1) slot.index) shaped.stride_is d.2 in
        let in_own : IsIn slot.leaf r.0 = (lost s.0 d.0 d.1 (λ cell i no. s.2 cell no) loses).leaf_own in
        let apart : home ≢ slot.leaf = λ e. once.0 (subst (λ (z : ℕ). IsIn z r.0) (sym e) in_own) in
        let t = node_put.cells s.0 s.1 in
        let e = t.3 (cell_data bytes home) (s.2 home apart ∙ home_here) in
        let l = lost t.0 d.0 (t.2 slot.leaf (λ q. apart (sym q)) ∙ d.1) (λ cell i no_leaf. t.2 cell (λ q. once.0 (subst (λ (z : ℕ). IsIn z r.0) q i)) ∙ s.2 cell no_leaf) loses in
        taken many (list.count - 1) list.at put_bytes put_bytes new_bytes new_tiles t.0 t.1 e.0 e.1 e.2 r.0 l.subkeys l.reads once.1 (λ cell i. i)
        (λ cell no not_list. t.2 cell no ∙ s.2 cell (λ q. not_list (subst (λ (z : ℕ). IsIn z r.0) (sym q) in_own))) l.more
        [] (none_freed put_bytes []) (λ cell i. absurd i) (λ cell i j. j) key_gone

  -- the leaf that has it alone is taken out of the list of lists
  module _ (place : ℕ) (here : slot.leaf_index ≡ Some place) (single : u16_at (cell_data bytes slot.leaf) 2 ≡ 1) (more : 1 < list.count) (shape : LeafShape) (shaped : IsShapeOf bytes list.at shape) (few : place < shape.count) (lists_bytes put_bytes mid new_bytes : List ℕ) (new_tiles : Tiles new_bytes)
      (lists_put : ChangesCell bytes lists_bytes list.at (λ its now. LeafLoses its now shape.stride (shape.count - 1) place)) (node_put : ChangesCell lists_bytes put_bytes home (λ its now. NodeGetsList its now (list.count - 1) list.at moment)) (leaf_gone : FreesCells put_bytes mid (slot.leaf ∷ [])) (key_gone : FreesKey mid new_bytes slot.subkey) where
    several : list.count ≢ 0
    several e = absurd (omega (arith, e, more))

    some_left : list.count - 1 ≢ 0
    some_left e = absurd (omega (arith, e, more))

    abbrev lists : List ℕ
    lists = cell_data bytes list.at

    lists_here : f.cells list.at ≡ Some lists
    lists_here = shown_here bytes f.cells f.shows list.at shaped.long.0

    place_is : IsLeafAt bytes list.at place slot.leaf
    place_is = subst (λ (o : Option ℕ). IsLeafOf bytes list.at o slot.leaf) here in_slot.0

    four : shape.stride ≡ 4
    four = shaped.stride_is ∙ indirect_stride lists (sym (place_is.is).indirect ∙ place_is.indirect)

    lists_long : 4 + 4 * (shape.count - 1) ≤ length lists
    lists_long = subst (λ (k : ℕ). 4 + k * (shape.count - 1) ≤ length lists) four (shorter shape.stride shape.count (length lists) (cell_size bytes list.at) (data_long bytes list.at tiles shaped.long.0) shaped.long.1)

    lists_own_them : IsIn list.at r.0
    lists_own_them = dropped_top_own bytes f.cells f.shows list.count r.0 (offsets f.place.below) once.1 several (list.count - 1) (omega (arith, more)) some_left slot.leaf slot.index slot.subkey in_slot.1 single list.at reads place place_is

    home_apart : home ≢ list.at
    home_apart e = once.0 (subst (λ (z : ℕ). IsIn z r.0) (sym e) lists_own_them)

    pub leaf_taken : BinsEncodeTree new_bytes root 5 (tree_after tree (DeleteKey hive (front ++ name ∷ [])) moment)
    leaf_taken =
        let s = lists_put.cells f.cells f.shows in
        let d = s.3 lists lists_here in
        let loses : LeafLoses lists d.0 4 (shape.count - 1) place = subst (λ (k : ℕ). LeafLoses lists d.0 k (shape.count - 1) place) four d.2 in
        let t = node_put.cells s.0 s.1 in
        let e = t.3 (cell_data bytes home) (s.2 home home_apart ∙ home_here) in
        let l : LeafDropped t.0 (list.count - 1) list.at r.0 (offsets f.place.below) slot.leaf slot.subkey = leaf_dropped bytes f.cells f.shows list.count r.0 (offsets f.place.below) once.1 several (list.count - 1) (omega (arith, more)) some_left slot.leaf slot.index slot.subkey in_slot.1 single list.at reads place place_is
        t.0 d.0 (t.2 list.at (λ q. home_apart (sym q)) ∙ d.1) (λ cell i no_top. t.2 cell (λ q. once.0 (subst (λ (z : ℕ). IsIn z r.0) q i)) ∙ s.2 cell no_top) (shape.count - 1) (sym shaped.count_is ∙ omega (arith, few)) (omega (arith, few)) loses lists_long in
        taken several (list.count - 1) list.at put_bytes mid new_bytes new_tiles t.0 t.1 e.0 e.1 e.2 l.own_now l.subkeys l.reads l.once_now l.within
        (λ cell no not_list. t.2 cell no ∙ s.2 cell (λ q. not_list (subst (λ (z : ℕ). IsIn z r.0) (sym q) lists_own_them))) l.more
        (slot.leaf ∷ []) leaf_gone (λ cell i. elim i [ inl q ↦ subst (λ (z : ℕ). IsIn z r.0) (sym q) l.leaf_own | inr j ↦ absurd j ])
        (λ cell i j. elim j [ inl q ↦ l.apart (subst (λ (z : ℕ). IsIn z l.own_now) q i) | inr k ↦ absurd k ]) key_gone

  -- the list goes with its last one, and the lists that it names
  module _ (alone : list.count ≡ 1) (to : ℕ) (put_bytes mid new_bytes : List ℕ) (new_tiles : Tiles new_bytes) (node_put : ChangesCell bytes put_bytes home (λ its now. NodeGetsList its now 0 to moment)) (lists_gone : FreesCells put_bytes mid (lists_at put_bytes list.at)) (key_gone : FreesKey mid new_bytes slot.subkey) where
    some : list.count ≢ 0
    some e = absurd (omega (arith, e, alone))

    abbrev last_list : List ℕ
    last_list = cell_data bytes list.at

    list_here : f.cells list.at ≡ Some last_list
    list_here = shown_here bytes f.cells f.shows list.at (list_holds bytes f.cells f.shows list.count list.at r.0 [] (offsets f.place.below) reads some).0

    lists_own_all : r.0 ≡ lists_at bytes list.at
    lists_own_all = elim (decided (is_indirect last_list)) [
      | inl d ↦ (list_has_leaves f.cells list.count list.at r.0 [] (offsets f.place.below) last_list reads some list_here d).1 ∙ ap (λ (z : List ℕ). list.at ∷ z) (sym (yes_if (is_indirect last_list) (list_words last_list) [] d))
      | inr d ↦ (list_is_leaf f.cells list.count list.at r.0 [] (offsets f.place.below) last_list reads some list_here d).0 ∙ ap (λ (z : List ℕ). list.at ∷ z) (sym (no_if (is_indirect last_list) (list_words last_list) [] d))
    ]

    last_apart : list.at ≢ home
    last_apart e = once.0 (subst (λ (z : ℕ). IsIn z r.0) e (subst (λ (z : List ℕ). IsIn list.at z) (sym lists_own_all) (inl refl)))

    only : offsets f.place.below ≡ slot.subkey ∷ []
    only = only_one (offsets f.place.below) slot.subkey (list_many bytes f.cells f.shows list.count list.at r.0 [] (offsets f.place.below) reads ∙ alone) (listed some)

    pub emptied : BinsEncodeTree new_bytes root 5 (tree_after tree (DeleteKey hive (front ++ name ∷ [])) moment)
    emptied =
        let s = node_put.cells f.cells f.shows in
        let d = s.3 (cell_data bytes home) home_here in
        let same : last_list ≡ cell_data put_bytes list.at = (shown_some put_bytes s.0 s.1 list.at last_list (s.2 list.at last_apart ∙ list_here)).1 in
        taken some 0 to put_bytes mid new_bytes new_tiles s.0 s.1 d.0 d.1 d.2 [] [] (no_subkeys s.0 to) tt (λ cell i. absurd i) (λ cell no not_list. s.2 cell no) (record { first = []; rest = []; fewer_is = refl; more_is = only })
        (lists_at put_bytes list.at) lists_gone (λ cell i. subst (λ (z : List ℕ). IsIn cell z) (sym (lists_own_all ∙ ap (λ (z : List ℕ). list.at ∷ (if is_indirect z then list_words z else [])) same)) i) (λ cell i j. absurd i) key_gone
