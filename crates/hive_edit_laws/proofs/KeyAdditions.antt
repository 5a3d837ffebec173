-- New keys below a key that was found: the data encode the tree after a creation.
use Rattle.std.proofs.Common.{◌≡◌, ◌≢◌, inl, inr, ℕ, ◌<◌, ◌-◌, List, [], ◌∷◌, ◌++◌, length, take, refl, ◌∙◌, ap, sym, subst, false, Ok, Some, None, IsSome, is_some, append_assoc, arith}
use Rattle.std.specs.FinMap.{get, same_map}
use Rattle.std.specs.Ordering.{eq_by_cmp}
use Rattle.std.proofs.lemmas.List.{length-map, map-append}
use Rattle.std.proofs.Math.Seq.{take-append_seam}
use Rattle.reg_names.specs.Names.{folded, folded_path}
use Rattle.reg_tree_parts.specs.Orders.{name_order}
use Rattle.reg_tree_parts.specs.Rows.{Row}
use Rattle.reg_tree_parts.specs.Nodes.{row_at, begins_path, branch_row}
use Rattle.reg_tree.specs.Maps.{TreeMap, row, missing}
use Rattle.reg_tree.specs.Operations.{touched, depth_there, row_created, tree_after}
use Rattle.reg_tree.specs.declared.op.Op.TheVariants.{CreateKey}
use Rattle.reg_tree.proofs.TreesAfter.{row-tree_after}
use Rattle.reg_tree.proofs.Depths.{levels_missing}
use Rattle.reg_tree.proofs.Splices.{created}
use Rattle.reg_tree.proofs.Changes.{created_is, one_more, longer_path}
use Rattle.hive_tree_model.specs.Lists.{IsIn}
use Rattle.hive_tree_model.specs.Keys.{KeyParts, Keys, key, offsets, names, own_cells, lent_cells}
use Rattle.hive_tree_model.specs.Trees.{same, row_in, row_from, tree_of}
use Rattle.hive_tree_model.specs.Encodings.{Named, Whole}
use Rattle.hive_tree_model.specs.Changes.{rest_of, row_or}
use Rattle.hive_tree_model.proofs.Basics.{ok_same, same_of, some_none, paths_total, yes_if, no_if, in_front, in_either, once_front, once_joined}
use Rattle.hive_cells.specs.Tiles.{Tiles}
use Rattle.hive_cells.specs.Bins.{Cells, Shows}
use Rattle.hive_records.specs.KeyNodes.{keys_in}
use Rattle.hive_records.specs.Images.{splits, BinsEncodeTree}
use Rattle.hive_records.proofs.Keys.{keys_local, keys_there, keys_named}
use Rattle.hive_edit_laws.specs.KeyPlaces.{root_after, subkeys_after, EditsAt}
use Rattle.hive_edit_laws.specs.SubkeyEdits.{beside, Adds}
use Rattle.hive_edit_laws.specs.SubkeyLists.{AreNewKeys, AddsSubkey}
use Rattle.hive_edit_laws.specs.Found.{KeyFound}
use Rattle.hive_edit_laws.proofs.KeyPlaces.{none_there, whole_at, apart_at, rows_at}
use Rattle.hive_edit_laws.proofs.Rows.{lent_from}
use Rattle.hive_edit_laws.proofs.OneRow.{row_placed}
use Rattle.hive_edit_laws.proofs.SubkeyEdits as law
use Rattle.hive_edit_laws.proofs.KeySearch.{listed_key, name_listed, row_next}
use Rattle.hive_edit_laws.proofs.SubkeyRevisions.{SubkeysRevision, subkeys_revision, parts_with}
use Rattle.hive_edit_laws.proofs.RowRevisions.{paths_apart, whole_found, read_found, steps_found, row_found, lent_apart}
use Rattle.hive_edit_laws.proofs.TreeRevisions.{rest_after, rest_off, entries_of, entries_row, rows_found, found_tree, Cut, cut, new_rows, first_new}

module _ (old_bytes new_bytes : List ℕ) (root minor : ℕ) (tree : TreeMap) (hive : ℕ) (front further : List (List ℕ)) (name : List ℕ) (home at moment : ℕ) (parts : KeyParts Row) (sub : Keys Row)
    (f : KeyFound old_bytes root minor tree (folded_path front) home) (tiles : Tiles new_bytes) (after : Cells) (shown : Shows new_bytes after) (named : folded name ≢ []) (absent : row tree (folded_path front ++ folded name ∷ []) ≡ None)
    (a : AddsSubkey (splits minor) f.cells after home at (offsets f.place.below) f.place.parts.lent parts sub moment) (new : AreNewKeys name further f.place.parts.row.descriptor moment parts sub) where
  abbrev path : List (List ℕ)
  path = folded_path front

  w : Whole (keys_in (splits minor) f.cells) f.place.at f.place.parts f.place.below
  w = whole_found old_bytes root minor tree (folded_path front) home f

  called : parts.name ≡ folded name
  called = keys_named (splits minor) after at parts a.whole.read ∙ ap (λ (r : Row). folded r.name) (first_new name further f.place.parts.row.descriptor moment parts sub new)

  -- no subkey has the name
  unlike : IsIn parts.name (names f.place.below) → ⊥
  unlike i = by (name_listed (keys_in (splits minor) f.cells) f.place.below w.fits parts.name i)
    where
      by : (to : ℕ) × (p : KeyParts Row) × IsIn to (offsets f.place.below) × (keys_in (splits minor) f.cells to ≡ Ok p) × (parts.name ≡ p.name) → ⊥
      by r =
          let l = listed_key (keys_in (splits minor) f.cells) f.place.below w.fits w.named r.0 r.2 in
          let same_parts : l.0 ≡ r.1 = ok_same l.0 r.1 (sym l.2 ∙ r.3) in
          let here : row_in f.place.below ((l.0).name ∷ []) ≡ Some (l.0).row = row_placed f.place.below (l.0).name [] (record { at = r.0; parts = l.0; below = l.1 }) l.3 in
          let name_so : (l.0).name ≡ folded name = ap (λ (p : KeyParts Row). p.name) same_parts ∙ sym r.4 ∙ called in
          some_none (l.0).row (sym absent ∙ ap (λ (t : TreeMap). get t (folded_path front ++ folded name ∷ [])) f.is ∙ row_next root f.above f.subkey_list f.whole.named (folded_path front) (folded name) [] f.place f.there ∙ ap (λ n. row_in f.place.below (n ∷ [])) (sym name_so) ∙ here)

  module _ (r : SubkeysRevision (splits minor) home f.cells after f.place.parts a.subkeys moment a.change.own []) (c : Cut f.place.below a.more.first a.more.rest) where
    abbrev its : KeyParts Row
    its = parts_with f.place.parts a.subkeys moment r.own r.lent

    old_there : (cell : ℕ) → IsIn cell f.place.parts.own → IsSome (f.cells cell)
    old_there cell i = keys_there (splits minor) f.cells home f.place.parts (read_found old_bytes root minor tree (folded_path front) home f) cell (in_front cell f.place.parts.own f.place.parts.lent i)

    adds : Adds (keys_in (splits minor)) f.cells after root f.above f.subkey_list (folded_path front) f.place its c.front c.back at parts sub
    adds = record {
      there = f.there;
      were = c.is;
      stays = λ cell some out. r.stays cell some out (λ i. absurd i);
      read_so = ap (keys_in (splits minor) after) f.at_is ∙ r.read;
      name_stays = refl;
      lists = a.more.more_is ∙ (λ i. sym c.front_is i ++ at ∷ sym c.back_is i);
      whole = a.whole;
      named = λ e. named (sym called ∙ e);
      unlike = unlike;
      once = once_joined r.own (parts.own ++ own_cells sub) r.once a.whole.once (λ cell i j. elim (r.from cell i) [
        | inl k ↦ none_there (f.cells cell) (old_there cell k) (a.fresh cell j)
        | inr k ↦ a.apart cell k.0 j
      ]);
      takes = λ cell i. elim (r.from cell i) [ inl k ↦ inl k | inr k ↦ inr k.1 ];
      fresh = a.fresh;
      lends = λ cell i. lent_from root f.above f.subkey_list (folded_path front) f.place f.there cell (in_front cell f.place.parts.lent (lent_cells f.place.below) (elim (in_either cell r.lent (parts.lent ++ lent_cells sub) i) [ inl j ↦ r.lends cell j | inr j ↦ a.lends cell j ]));
    }

    abbrev below_now : Keys Row
    below_now = beside c.front (key at parts sub c.back)

    at_edit : EditsAt (keys_in (splits minor)) f.cells after root f.above f.subkey_list (folded_path front) its below_now
    at_edit = law.adds (keys_in (splits minor)) (keys_local (splits minor)) (keys_there (splits minor)) f.cells after root f.above f.subkey_list f.whole f.apart (folded_path front) f.place f.there its c.front c.back at parts sub adds

    abbrev new_tree : TreeMap
    new_tree = tree_of (root_after f.above (folded_path front) its) (subkeys_after f.subkey_list (folded_path front) its below_now)

    rows_new : (q : List (List ℕ)) → row new_tree q ≡ row_or (rest_of (folded_path front) q) its.row below_now (row tree q)
    rows_new q = rows_at (keys_in (splits minor)) (keys_local (splits minor)) (keys_there (splits minor)) f.cells after root f.above f.subkey_list f.whole f.apart (folded_path front) its below_now at_edit q ∙ ap (λ (t : TreeMap). row_or (rest_of (folded_path front) q) its.row below_now (get t q)) (sym f.is)

    named_now : Named below_now
    named_now = at_edit.whole.named

    unlike_front : IsIn parts.name (names c.front) → ⊥
    unlike_front i = unlike (subst (λ (g : Keys Row). IsIn parts.name (names g)) (sym c.is) (subst (λ (z : List (List ℕ)). IsIn parts.name z) (sym (law.names_beside c.front c.back)) (in_front parts.name (names c.front) (names c.back) i)))

    within : (q : List (List ℕ)) → row new_tree (folded_path front ++ q) ≡ row_at (entries_of its.row below_now) q
    within q = rows_new (folded_path front ++ q) ∙ ap (λ o. row_or o its.row below_now (row tree (folded_path front ++ q))) (rest_after (folded_path front) q) ∙ sym (entries_row its below_now named_now q)

    others : (q : List (List ℕ)) → begins_path (folded_path front) q ≡ false → row new_tree q ≡ row tree q
    others q off = rows_new q ∙ ap (λ o. row_or o its.row below_now (row tree q)) (rest_off (folded_path front) q off)

    was : (q : List (List ℕ)) → row tree (folded_path front ++ q) ≡ row_at (entries_of f.place.parts.row f.place.below) q
    was q = rows_found old_bytes root minor tree (folded_path front) home f q ∙ sym (entries_row f.place.parts f.place.below w.named q)

    here : row_at (entries_of its.row below_now) [] ≡ Some (touched moment f.place.parts.row)
    here = entries_row its below_now named_now []

    below : (q : List (List ℕ)) → row_at (entries_of its.row below_now) (folded name ∷ q) ≡ row_at (entries_of parts.row sub) q
    below q = entries_row its below_now named_now (folded name ∷ q)
        ∙ law.rows_beside c.front at parts sub c.back unlike_front (folded name) q
        ∙ yes_if (same (folded name) parts.name) (row_from parts.row sub q) (row_in (beside c.front c.back) (folded name ∷ q)) (same_of (folded name) parts.name (sym called))
        ∙ sym (entries_row parts sub a.whole.named q)

    kept : (m : List ℕ) (q : List (List ℕ)) → eq_by_cmp name_order m (folded name) ≡ false → row_at (entries_of its.row below_now) (m ∷ q) ≡ row_at (entries_of f.place.parts.row f.place.below) (m ∷ q)
    kept m q other = entries_row its below_now named_now (m ∷ q)
        ∙ law.rows_beside c.front at parts sub c.back unlike_front m q
        ∙ no_if (same m parts.name) (row_from parts.row sub q) (row_in (beside c.front c.back) (m ∷ q)) (ap (same m) called ∙ other)
        ∙ ap (λ (g : Keys Row). row_in g (m ∷ q)) (sym c.is)
        ∙ sym (entries_row f.place.parts f.place.below w.named (m ∷ q))

    branch : (q : List (List ℕ)) → row_at (entries_of parts.row sub) q ≡ branch_row name further f.place.parts.row.descriptor moment q
    branch q = entries_row parts sub a.whole.named q ∙ new_rows (splits minor) after name further f.place.parts.row.descriptor moment parts sub a.whole.fits new q

    empty : (q : List (List ℕ)) → row tree (folded_path front ++ folded name ∷ q) ≡ None
    empty q = rows_found old_bytes root minor tree (folded_path front) home f (folded name ∷ q) ∙ law.no_row f.place.below (folded name) q (λ i. unlike (subst (λ (n : List ℕ). IsIn n (names f.place.below)) (sym called) i))

    depth : length front ≡ depth_there tree (folded_path (front ++ name ∷ further))
    depth =
        let less : length front < length (folded_path (front ++ name ∷ further)) = longer_path front further name (length front) refl in
        let start : take (length front) (folded_path (front ++ name ∷ further)) ≡ folded_path front = (λ i. take (sym (length-map front folded) i) (map-append folded front (name ∷ further) i)) ∙ take-append_seam (folded_path front) (folded_path (name ∷ further)) in
        let missing_are : length (missing tree (folded_path (front ++ name ∷ further))) ≡ length (folded_path (front ++ name ∷ further)) - length front =
        levels_missing tree (found_tree old_bytes root minor tree (folded_path front) home f) (folded_path (front ++ name ∷ further)) (length front) (omega (arith, less))
        (ap is_some (ap (row tree) start ∙ row_found old_bytes root minor tree (folded_path front) home f))
        (λ lt rest. ap (λ p. row tree (p ++ rest)) (one_more front further name (length front) refl) ∙ ap (row tree) (append_assoc (folded_path front) (folded name ∷ []) rest) ∙ empty rest) in
        omega (arith, missing_are, less)

    rows_after : (q : List (List ℕ)) → row new_tree q ≡ row_created tree (front ++ name ∷ further) moment q
    rows_after q = created (row new_tree) (row tree) (entries_of its.row below_now) (entries_of f.place.parts.row f.place.below) (entries_of parts.row sub) front further name f.place.parts.row.descriptor moment f.place.parts.row
        within others was (row_found old_bytes root minor tree (folded_path front) home f) here below kept branch empty q
        ∙ created_is tree (front ++ name ∷ further) front further name (length front) f.place.parts.row moment refl depth refl (row_found old_bytes root minor tree (folded_path front) home f) q

    by_cut : BinsEncodeTree new_bytes root minor (tree_after tree (CreateKey hive (front ++ name ∷ further)) moment)
    by_cut = (
      tiles,
      after,
      shown,
      (
        root_after f.above (folded_path front) its,
        subkeys_after f.subkey_list (folded_path front) its below_now,
        whole_at (keys_in (splits minor)) (keys_local (splits minor)) (keys_there (splits minor)) f.cells after root f.above f.subkey_list f.whole f.apart (folded_path front) its below_now at_edit,
        same_map paths_total paths_apart _ _ (λ q. row-tree_after tree (CreateKey hive (front ++ name ∷ further)) moment q ∙ sym (rows_after q)),
        apart_at (keys_in (splits minor)) (keys_local (splits minor)) (keys_there (splits minor)) f.cells after root f.above f.subkey_list f.whole f.apart (folded_path front) its below_now at_edit,
      ),
    )

  pub encodes : BinsEncodeTree new_bytes root minor (tree_after tree (CreateKey hive (front ++ name ∷ further)) moment)
  encodes = by_cut
      (subkeys_revision (splits minor) home f.cells after f.place.parts a.subkeys moment [] (read_found old_bytes root minor tree (folded_path front) home f)
      (once_front f.place.parts.own (own_cells f.place.below) w.once) (lent_apart old_bytes root minor tree (folded_path front) home f) (λ cell i j. absurd j) a.change (steps_found old_bytes root minor tree (folded_path front) home f))
      (cut f.place.below a.more.first a.more.rest a.more.fewer_is)
