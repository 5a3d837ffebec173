-- After the values of a key have changed, the data encode the tree in which that row alone is new.
use Rattle.std.proofs.Common.{◌≡◌, inl, inr, ℕ, List, refl, ◌∙◌, ap, sym, Some, Ok}
use Rattle.std.specs.Option.{option_map}
use Rattle.std.specs.FinMap.{get, same_map, slice_cmp-IsAntisymmetric, nat_cmp-IsAntisymmetric, IsAntisymmetric}
use Rattle.std.specs.Ordering.{eq_by_cmp}
use Rattle.reg_names.specs.Names.{folded_path}
use Rattle.reg_tree_parts.specs.Orders.{path_order}
use Rattle.reg_tree_parts.specs.Rows.{Row, ValueMap}
use Rattle.reg_tree_parts.specs.ValueEdits.{values_with, values_without}
use Rattle.reg_tree.specs.Maps.{TreeMap, row}
use Rattle.reg_tree.specs.Operations.{touched, row_edited, tree_after}
use Rattle.reg_tree.specs.declared.op.Op.TheVariants.{SetValue, DeleteValue}
use Rattle.reg_tree.proofs.Paths.{eq_is, eq_self}
use Rattle.reg_tree.proofs.TreesAfter.{row-tree_after}
use Rattle.hive_tree_model.specs.Lists.{IsIn}
use Rattle.hive_tree_model.specs.Keys.{KeyParts, own_cells, lent_cells}
use Rattle.hive_tree_model.specs.Trees.{tree_of}
use Rattle.hive_tree_model.specs.Encodings.{Whole}
use Rattle.hive_tree_model.proofs.Basics.{decided, clash, some_same, paths_total, yes_if, no_if, in_front, once_front}
use Rattle.hive_cells.specs.Tiles.{Tiles}
use Rattle.hive_cells.specs.Bins.{Cells, Shows}
use Rattle.hive_records.specs.KeyNodes.{keys_in}
use Rattle.hive_records.specs.Images.{splits, BinsEncodeTree}
use Rattle.hive_records.proofs.Keys.{keys_local, keys_there}
use Rattle.hive_edit_laws.specs.KeyPlaces.{KeyPlace, root_after, subkeys_after, EditsAt, EditsRow}
use Rattle.hive_edit_laws.specs.ValueEdits.{ValuesChange}
use Rattle.hive_edit_laws.specs.Found.{KeyFound}
use Rattle.hive_edit_laws.proofs.KeyPlaces.{whole_at, apart_at}
use Rattle.hive_edit_laws.proofs.Rows.{whole_there, lent_from, own_from, row_edit}
use Rattle.hive_edit_laws.proofs.OneRow.{row_there, own_at, others_at}
use Rattle.hive_edit_laws.proofs.KeySteps.{Steps, steps_of}
use Rattle.hive_edit_laws.proofs.KeyRevisions.{Revision, revision, parts_with}

pub paths_apart : IsAntisymmetric path_order
paths_apart = slice_cmp-IsAntisymmetric (slice_cmp-IsAntisymmetric nat_cmp-IsAntisymmetric)

-- the key that was found, read by its steps
module _ (bytes : List ℕ) (root minor : ℕ) (tree : TreeMap) (path : List (List ℕ)) (key : ℕ) (f : KeyFound bytes root minor tree path key) where
  pub whole_found : Whole (keys_in (splits minor) f.cells) f.place.at f.place.parts f.place.below
  whole_found = whole_there (keys_in (splits minor) f.cells) root f.above f.subkey_list path f.place f.whole f.there

  pub read_found : keys_in (splits minor) f.cells key ≡ Ok f.place.parts
  read_found = ap (keys_in (splits minor) f.cells) (sym f.at_is) ∙ whole_found.read

  pub steps_found : Steps (splits minor) key f.cells f.place.parts
  steps_found = steps_of (splits minor) key f.cells f.place.parts read_found

  pub row_found : row tree path ≡ Some f.place.parts.row
  row_found = ap (λ (t : TreeMap). get t path) f.is ∙ row_there (keys_in (splits minor) f.cells) root f.above f.subkey_list path f.place f.whole f.there

  pub lent_apart : (cell : ℕ) → IsIn cell f.place.parts.lent → IsIn cell f.place.parts.own → ⊥
  lent_apart cell i j = f.apart cell (lent_from root f.above f.subkey_list path f.place f.there cell (in_front cell f.place.parts.lent (lent_cells f.place.below) i))
      (own_from root f.above f.subkey_list path f.place f.there cell (in_front cell f.place.parts.own (own_cells f.place.below) j))

module _ (old_bytes new_bytes : List ℕ) (root minor : ℕ) (tree : TreeMap) (path : List (List ℕ)) (key : ℕ) (values : ValueMap) (moment : ℕ) (f : KeyFound old_bytes root minor tree path key) (tiles : Tiles new_bytes) (after : Cells) (shown : Shows new_bytes after) (r : Revision (splits minor) key f.cells after f.place.parts values moment) where
  abbrev parts : KeyParts Row
  parts = parts_with f.place.parts values moment r.own r.lent

  edits : EditsRow (keys_in (splits minor)) f.cells after root f.above f.subkey_list path f.place parts
  edits = record {
    there = f.there;
    stays = r.stays;
    read_so = ap (keys_in (splits minor) after) f.at_is ∙ r.read;
    name_stays = refl;
    subkeys_stay = refl;
    once = r.once;
    takes = r.takes;
    lends = r.lends;
  }

  at_edit : EditsAt (keys_in (splits minor)) f.cells after root f.above f.subkey_list path parts f.place.below
  at_edit = row_edit (keys_in (splits minor)) (keys_local (splits minor)) (keys_there (splits minor)) f.cells after root f.above f.subkey_list f.whole f.apart path f.place parts edits

  below_is : f.place.below ≡ at_edit.place.below
  below_is = ap (λ (z : KeyPlace Row). z.below) (some_same f.place at_edit.place (sym f.there ∙ at_edit.there))

  row_so : (q : List (List ℕ)) → row_edited (λ (k : Row). record k { values = values }) tree path moment q ≡ get (tree_of (root_after f.above path parts) (subkeys_after f.subkey_list path parts f.place.below)) q
  row_so q = elim (decided (eq_by_cmp path_order q path)) [
    | inl t ↦
        yes_if (eq_by_cmp path_order q path) (option_map (λ (k : Row). touched moment (record k { values = values })) (row tree q)) (row tree q) t
        ∙ ap (option_map (λ (k : Row). touched moment (record k { values = values }))) (ap (row tree) (eq_is q path t) ∙ row_found old_bytes root minor tree path key f)
        ∙ sym (own_at (keys_in (splits minor)) (keys_local (splits minor)) (keys_there (splits minor)) f.cells after root f.above f.subkey_list f.whole f.apart path parts f.place.below at_edit below_is)
        ∙ ap (get (tree_of (root_after f.above path parts) (subkeys_after f.subkey_list path parts f.place.below))) (sym (eq_is q path t))
    | inr n ↦
        no_if (eq_by_cmp path_order q path) (option_map (λ (k : Row). touched moment (record k { values = values })) (row tree q)) (row tree q) n
        ∙ ap (λ (t : TreeMap). get t q) f.is
        ∙ sym (others_at (keys_in (splits minor)) (keys_local (splits minor)) (keys_there (splits minor)) f.cells after root f.above f.subkey_list f.whole f.apart path parts f.place.below at_edit below_is q (λ e. clash (eq_by_cmp path_order q path) (ap (eq_by_cmp path_order q) (sym e) ∙ eq_self q) n))
  ]

  pub encodes : (edited : TreeMap) → ((q : List (List ℕ)) → row edited q ≡ row_edited (λ (k : Row). record k { values = values }) tree path moment q) → BinsEncodeTree new_bytes root minor edited
  encodes edited rows = (
    tiles,
    after,
    shown,
    (
      root_after f.above path parts,
      subkeys_after f.subkey_list path parts f.place.below,
      whole_at (keys_in (splits minor)) (keys_local (splits minor)) (keys_there (splits minor)) f.cells after root f.above f.subkey_list f.whole f.apart path parts f.place.below at_edit,
      same_map paths_total paths_apart _ _ (λ q. rows q ∙ row_so q),
      apart_at (keys_in (splits minor)) (keys_local (splits minor)) (keys_there (splits minor)) f.cells after root f.above f.subkey_list f.whole f.apart path parts f.place.below at_edit,
    ),
  )

pub values_encode : (old_bytes new_bytes : List ℕ) (root minor : ℕ) (tree : TreeMap) (path : List (List ℕ)) (key : ℕ) (values : ValueMap) (moment : ℕ) (f : KeyFound old_bytes root minor tree path key) → Tiles new_bytes → (after : Cells) → Shows new_bytes after → ValuesChange (splits minor) f.cells after key values moment →
    (edited : TreeMap) → ((q : List (List ℕ)) → row edited q ≡ row_edited (λ (k : Row). record k { values = values }) tree path moment q) → BinsEncodeTree new_bytes root minor edited
values_encode old_bytes new_bytes root minor tree path key values moment f tiles after shown c =
    encodes old_bytes new_bytes root minor tree path key values moment f tiles after shown
    (revision (splits minor) key f.cells after f.place.parts values moment (read_found old_bytes root minor tree path key f)
    (once_front f.place.parts.own (own_cells f.place.below) (whole_found old_bytes root minor tree path key f).once)
    (lent_apart old_bytes root minor tree path key f) c (steps_found old_bytes root minor tree path key f))

-- the row of a found key, with its values edited
edited_so : (bytes : List ℕ) (root minor : ℕ) (tree : TreeMap) (path : List (List ℕ)) (key : ℕ) (f : KeyFound bytes root minor tree path key) (edit : ValueMap → ValueMap) (moment : ℕ) (q : List (List ℕ)) →
    row_edited (λ (k : Row). record k { values = edit k.values }) tree path moment q ≡ row_edited (λ (k : Row). record k { values = edit f.place.parts.row.values }) tree path moment q
edited_so bytes root minor tree path key f edit moment q = elim (decided (eq_by_cmp path_order q path)) [
  | inl t ↦
      let here : row tree q ≡ Some f.place.parts.row = ap (row tree) (eq_is q path t) ∙ row_found bytes root minor tree path key f in
      yes_if (eq_by_cmp path_order q path) (option_map (λ (k : Row). touched moment (record k { values = edit k.values })) (row tree q)) (row tree q) t
      ∙ ap (option_map (λ (k : Row). touched moment (record k { values = edit k.values }))) here
      ∙ sym (ap (option_map (λ (k : Row). touched moment (record k { values = edit f.place.parts.row.values }))) here)
      ∙ sym (yes_if (eq_by_cmp path_order q path) (option_map (λ (k : Row). touched moment (record k { values = edit f.place.parts.row.values })) (row tree q)) (row tree q) t)
  | inr n ↦
      no_if (eq_by_cmp path_order q path) (option_map (λ (k : Row). touched moment (record k { values = edit k.values })) (row tree q)) (row tree q) n
      ∙ sym (no_if (eq_by_cmp path_order q path) (option_map (λ (k : Row). touched moment (record k { values = edit f.place.parts.row.values })) (row tree q)) (row tree q) n)
]

pub set_encodes : (old_bytes new_bytes : List ℕ) (root minor : ℕ) (tree : TreeMap) (hive : ℕ) (spelled : List (List ℕ)) (name : List ℕ) (kind : ℕ) (value_bytes : List ℕ) (key : ℕ) (moment : ℕ) (f : KeyFound old_bytes root minor tree (folded_path spelled) key) → Tiles new_bytes → (after : Cells) → Shows new_bytes after →
    ValuesChange (splits minor) f.cells after key (values_with f.place.parts.row.values name kind value_bytes) moment → BinsEncodeTree new_bytes root minor (tree_after tree (SetValue hive spelled name kind value_bytes) moment)
set_encodes old_bytes new_bytes root minor tree hive spelled name kind value_bytes key moment f tiles after shown c =
    values_encode old_bytes new_bytes root minor tree (folded_path spelled) key (values_with f.place.parts.row.values name kind value_bytes) moment f tiles after shown c (tree_after tree (SetValue hive spelled name kind value_bytes) moment)
    (λ q. row-tree_after tree (SetValue hive spelled name kind value_bytes) moment q ∙ edited_so old_bytes root minor tree (folded_path spelled) key f (λ (vs : ValueMap). values_with vs name kind value_bytes) moment q)

pub deleted_encodes : (old_bytes new_bytes : List ℕ) (root minor : ℕ) (tree : TreeMap) (hive : ℕ) (spelled : List (List ℕ)) (name : List ℕ) (key : ℕ) (moment : ℕ) (f : KeyFound old_bytes root minor tree (folded_path spelled) key) → Tiles new_bytes → (after : Cells) → Shows new_bytes after →
    ValuesChange (splits minor) f.cells after key (values_without f.place.parts.row.values name) moment → BinsEncodeTree new_bytes root minor (tree_after tree (DeleteValue hive spelled name) moment)
deleted_encodes old_bytes new_bytes root minor tree hive spelled name key moment f tiles after shown c =
    values_encode old_bytes new_bytes root minor tree (folded_path spelled) key (values_without f.place.parts.row.values name) moment f tiles after shown c (tree_after tree (DeleteValue hive spelled name) moment)
    (λ q. row-tree_after tree (DeleteValue hive spelled name) moment q ∙ edited_so old_bytes root minor tree (folded_path spelled) key f (λ (vs : ValueMap). values_without vs name) moment q)
