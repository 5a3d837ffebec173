-- A key without subkeys is taken from its parent: the data encode the tree after a deletion.
use Rattle.std.proofs.Common.{◌≡◌, inl, inr, ℕ, List, [], ◌∷◌, ◌++◌, length, refl, ◌∙◌, ap, sym, subst, Bool, false, Some, None, arith}
use Rattle.std.specs.FinMap.{get, same_map}
use Rattle.std.specs.Ordering.{eq_by_cmp}
use Rattle.std.proofs.lemmas.List.{map-append}
use Rattle.reg_names.specs.Names.{folded, folded_path}
use Rattle.reg_tree_parts.specs.Orders.{name_order}
use Rattle.reg_tree_parts.specs.Rows.{Row}
use Rattle.reg_tree_parts.specs.Nodes.{row_at, begins_path}
use Rattle.reg_tree.specs.Maps.{TreeMap, row}
use Rattle.reg_tree.specs.Operations.{touched, row_deleted, tree_after}
use Rattle.reg_tree.specs.declared.op.Op.TheVariants.{DeleteKey}
use Rattle.reg_tree.proofs.TreesAfter.{row-tree_after}
use Rattle.reg_tree.proofs.Splices.{deleted}
use Rattle.hive_tree_model.specs.Lists.{IsIn}
use Rattle.hive_tree_model.specs.Keys.{KeyParts, Keys, none, key, offsets, names, own_cells, lent_cells}
use Rattle.hive_tree_model.specs.Trees.{same, row_in, row_from, tree_of}
use Rattle.hive_tree_model.specs.Encodings.{CellsMatchKeys, Named, Whole}
use Rattle.hive_tree_model.specs.Changes.{rest_of, row_or}
use Rattle.hive_tree_model.proofs.Basics.{cons_nil, same_of, paths_total, yes_if, no_if, in_front, in_back, in_either, once_front, once_apart}
use Rattle.hive_cells.specs.Tiles.{Tiles, u32_at, cell_data}
use Rattle.hive_cells.specs.Bins.{Cells, Shows}
use Rattle.hive_records.specs.KeyNodes.{keys_in, trail_in}
use Rattle.hive_records.specs.Images.{splits, BinsEncodeTree}
use Rattle.hive_records.proofs.Keys.{keys_local, keys_there, keys_trail}
use Rattle.hive_edit_laws.specs.KeyPlaces.{root_after, subkeys_after, EditsAt}
use Rattle.hive_edit_laws.specs.SubkeyEdits.{beside, Drops}
use Rattle.hive_edit_laws.specs.SubkeyLists.{DropsSubkey}
use Rattle.hive_edit_laws.specs.Found.{KeyFound, node_name}
use Rattle.hive_edit_laws.proofs.KeyPlaces.{whole_at, apart_at, rows_at}
use Rattle.hive_edit_laws.proofs.Rows.{lent_from, own_from}
use Rattle.hive_edit_laws.proofs.SubkeyEdits as law
use Rattle.hive_edit_laws.proofs.CellsShown.{shown_some}
use Rattle.hive_edit_laws.proofs.ListSearch.{list_many}
use Rattle.hive_edit_laws.proofs.KeySearch.{name_here}
use Rattle.hive_edit_laws.proofs.KeySteps.{Steps, steps_of}
use Rattle.hive_edit_laws.proofs.SubkeyRevisions.{SubkeysRevision, subkeys_revision, parts_with}
use Rattle.hive_edit_laws.proofs.RowRevisions.{paths_apart, whole_found, read_found, steps_found, row_found, lent_apart}
use Rattle.hive_edit_laws.proofs.TreeRevisions.{rest_after, rest_off, entries_of, entries_row, rows_found, Around, around}

no_keys : (g : Keys Row) → length (offsets g) ≡ 0 → g ≡ none
no_keys none e = refl
no_keys (key at p below after) e = cons_nil at (offsets after) (empty (at ∷ offsets after) e)
  where
    empty : (xs : List ℕ) → length xs ≡ 0 → xs ≡ []
    empty [] e = refl
    empty (x ∷ xs) e = absurd (omega (arith, e))

back_fits : (split : Bool) (cells : Cells) (f g : Keys Row) → CellsMatchKeys (keys_in split cells) (beside f g) → CellsMatchKeys (keys_in split cells) g
back_fits split cells none g h = h
back_fits split cells (key at p below after) g h = back_fits split cells after g h.3

module _ (old_bytes new_bytes : List ℕ) (root minor : ℕ) (tree : TreeMap) (hive : ℕ) (front : List (List ℕ)) (name : List ℕ) (home at moment : ℕ)
    (f : KeyFound old_bytes root minor tree (folded_path front) home) (tiles : Tiles new_bytes) (after : Cells) (shown : Shows new_bytes after) (is_named : folded (node_name (cell_data old_bytes at)) ≡ folded name) (alone : u32_at (cell_data old_bytes at) 20 ≡ 0)
    (a : DropsSubkey (splits minor) f.cells after home at (offsets f.place.below) moment) (c : Around f.place.below a.more.first at a.more.rest) where
  w : Whole (keys_in (splits minor) f.cells) f.place.at f.place.parts f.place.below
  w = whole_found old_bytes root minor tree (folded_path front) home f

  -- the key, among the keys beside it
  beside_fits : CellsMatchKeys (keys_in (splits minor) f.cells) (beside c.front (key at c.its c.sub c.back))
  beside_fits = subst (λ (g : Keys Row). CellsMatchKeys (keys_in (splits minor) f.cells) g) c.is w.fits

  named_parts : Named (beside c.front (key at c.its c.sub c.back))
  named_parts = subst (λ (g : Keys Row). Named g) c.is w.named

  mine : CellsMatchKeys (keys_in (splits minor) f.cells) (key at c.its c.sub c.back)
  mine = back_fits (splits minor) f.cells c.front (key at c.its c.sub c.back) beside_fits

  called : (c.its).name ≡ folded name
  called = name_here (splits minor) f.cells at c.its mine.0 old_bytes f.shows ∙ is_named

  no_subkeys : c.sub ≡ none
  no_subkeys = by (steps_of (splits minor) at f.cells c.its mine.0)
    where
      by : Steps (splits minor) at f.cells c.its → c.sub ≡ none
      by s =
          let same_node : s.node ≡ cell_data old_bytes at = (shown_some old_bytes f.cells f.shows at s.node s.here).1 in
          no_keys c.sub (ap length mine.1 ∙ list_many old_bytes f.cells f.shows (u32_at s.node 20) (u32_at s.node 28) s.ko s.kl (c.its).subkey_list s.listed ∙ ap (λ (z : List ℕ). u32_at z 20) same_node ∙ alone)

  trail_is : trail_in (splits minor) f.cells at ≡ (c.its).own
  trail_is = keys_trail (splits minor) f.cells at c.its mine.0

  its_below : (cell : ℕ) → IsIn cell (c.its).own → IsIn cell (own_cells f.place.below)
  its_below cell i = subst (λ (g : Keys Row). IsIn cell (own_cells g)) (sym c.is) (subst (λ (z : List ℕ). IsIn cell z) (sym (law.own_beside c.front (key at c.its c.sub c.back)))
      (in_back cell (own_cells c.front) (own_cells (key at c.its c.sub c.back)) (in_front cell ((c.its).own ++ own_cells c.sub) (own_cells c.back) (in_front cell (c.its).own (own_cells c.sub) i))))

  given_apart : (cell : ℕ) → IsIn cell (f.place.parts.own ++ f.place.parts.lent) → IsIn cell (trail_in (splits minor) f.cells at) → ⊥
  given_apart cell i j =
      let below : IsIn cell (own_cells f.place.below) = its_below cell (subst (λ (z : List ℕ). IsIn cell z) trail_is j) in
      elim (in_either cell f.place.parts.own f.place.parts.lent i) [
        | inl k ↦ once_apart cell f.place.parts.own (own_cells f.place.below) w.once k below
        | inr k ↦ f.apart cell (lent_from root f.above f.subkey_list (folded_path front) f.place f.there cell (in_front cell f.place.parts.lent (lent_cells f.place.below) k))
            (own_from root f.above f.subkey_list (folded_path front) f.place f.there cell (in_back cell f.place.parts.own (own_cells f.place.below) below))
      ]

  module _ (r : SubkeysRevision (splits minor) home f.cells after f.place.parts a.subkeys moment a.change.own (trail_in (splits minor) f.cells at)) where
    abbrev its : KeyParts Row
    its = parts_with f.place.parts a.subkeys moment r.own r.lent

    drops : Drops (keys_in (splits minor)) f.cells after root f.above f.subkey_list (folded_path front) f.place its c.front c.back at c.its c.sub
    drops = record {
      there = f.there;
      were = c.is;
      stays = λ cell some out. r.stays cell some (λ i. out (in_front cell f.place.parts.own ((c.its).own ++ own_cells c.sub) i))
          (λ i. out (in_back cell f.place.parts.own ((c.its).own ++ own_cells c.sub) (in_front cell (c.its).own (own_cells c.sub) (subst (λ (z : List ℕ). IsIn cell z) trail_is i))));
      read_so = ap (keys_in (splits minor) after) f.at_is ∙ r.read;
      name_stays = refl;
      lists = a.more.fewer_is ∙ (λ i. sym c.front_is i ++ sym c.back_is i);
      once = r.once;
      takes = λ cell i. elim (r.from cell i) [ inl k ↦ inl k | inr k ↦ inr k.1 ];
      lends = r.lends;
    }

    abbrev below_now : Keys Row
    below_now = beside c.front c.back

    at_edit : EditsAt (keys_in (splits minor)) f.cells after root f.above f.subkey_list (folded_path front) its below_now
    at_edit = law.drops (keys_in (splits minor)) (keys_local (splits minor)) (keys_there (splits minor)) f.cells after root f.above f.subkey_list f.whole f.apart (folded_path front) f.place f.there its c.front c.back at c.its c.sub drops

    abbrev new_tree : TreeMap
    new_tree = tree_of (root_after f.above (folded_path front) its) (subkeys_after f.subkey_list (folded_path front) its below_now)

    rows_new : (q : List (List ℕ)) → row new_tree q ≡ row_or (rest_of (folded_path front) q) its.row below_now (row tree q)
    rows_new q = rows_at (keys_in (splits minor)) (keys_local (splits minor)) (keys_there (splits minor)) f.cells after root f.above f.subkey_list f.whole f.apart (folded_path front) its below_now at_edit q ∙ ap (λ (t : TreeMap). row_or (rest_of (folded_path front) q) its.row below_now (get t q)) (sym f.is)

    named_now : Named below_now
    named_now = at_edit.whole.named

    not_front : IsIn (c.its).name (names c.front) → ⊥
    not_front i = law.named_apart c.front (key at c.its c.sub c.back) (c.its).name named_parts i (inl refl)

    not_back : IsIn (c.its).name (names c.back) → ⊥
    not_back i = (law.named_back c.front (key at c.its c.sub c.back) named_parts).1 i

    not_now : IsIn (folded name) (names below_now) → ⊥
    not_now i = elim (in_either (c.its).name (names c.front) (names c.back) (subst (λ (z : List (List ℕ)). IsIn (c.its).name z) (law.names_beside c.front c.back) (subst (λ (n : List ℕ). IsIn n (names below_now)) (sym called) i))) [ inl j ↦ not_front j | inr j ↦ not_back j ]

    within : (q : List (List ℕ)) → row new_tree (folded_path front ++ q) ≡ row_at (entries_of its.row below_now) q
    within q = rows_new (folded_path front ++ q) ∙ ap (λ o. row_or o its.row below_now (row tree (folded_path front ++ q))) (rest_after (folded_path front) q) ∙ sym (entries_row its below_now named_now q)

    others : (q : List (List ℕ)) → begins_path (folded_path front) q ≡ false → row new_tree q ≡ row tree q
    others q off = rows_new q ∙ ap (λ o. row_or o its.row below_now (row tree q)) (rest_off (folded_path front) q off)

    was : (q : List (List ℕ)) → row tree (folded_path front ++ q) ≡ row_at (entries_of f.place.parts.row f.place.below) q
    was q = rows_found old_bytes root minor tree (folded_path front) home f q ∙ sym (entries_row f.place.parts f.place.below w.named q)

    here : row_at (entries_of its.row below_now) [] ≡ Some (touched moment f.place.parts.row)
    here = entries_row its below_now named_now []

    gone : (q : List (List ℕ)) → row_at (entries_of its.row below_now) (folded name ∷ q) ≡ None
    gone q = entries_row its below_now named_now (folded name ∷ q) ∙ law.no_row below_now (folded name) q not_now

    kept : (m : List ℕ) (q : List (List ℕ)) → eq_by_cmp name_order m (folded name) ≡ false → row_at (entries_of its.row below_now) (m ∷ q) ≡ row_at (entries_of f.place.parts.row f.place.below) (m ∷ q)
    kept m q other = entries_row its below_now named_now (m ∷ q)
        ∙ sym (no_if (same m (c.its).name) (row_from (c.its).row c.sub q) (row_in below_now (m ∷ q)) (ap (same m) called ∙ other))
        ∙ sym (law.rows_beside c.front at c.its c.sub c.back not_front m q)
        ∙ ap (λ (g : Keys Row). row_in g (m ∷ q)) (sym c.is)
        ∙ sym (entries_row f.place.parts f.place.below w.named (m ∷ q))

    empty : (m : List ℕ) (q : List (List ℕ)) → row tree (folded_path front ++ folded name ∷ m ∷ q) ≡ None
    empty m q = rows_found old_bytes root minor tree (folded_path front) home f (folded name ∷ m ∷ q)
        ∙ ap (λ (g : Keys Row). row_in g (folded name ∷ m ∷ q)) c.is
        ∙ law.rows_beside c.front at c.its c.sub c.back not_front (folded name) (m ∷ q)
        ∙ yes_if (same (folded name) (c.its).name) (row_in c.sub (m ∷ q)) (row_in below_now (folded name ∷ m ∷ q)) (same_of (folded name) (c.its).name (sym called))
        ∙ ap (λ (g : Keys Row). row_in g (m ∷ q)) no_subkeys

    spelled_so : folded_path front ++ folded name ∷ [] ≡ folded_path (front ++ name ∷ [])
    spelled_so = sym (map-append folded front (name ∷ []))

    rows_after : (q : List (List ℕ)) → row new_tree q ≡ row_deleted tree (folded_path (front ++ name ∷ [])) moment q
    rows_after q = deleted (row new_tree) (row tree) (entries_of its.row below_now) (entries_of f.place.parts.row f.place.below) (folded_path front) within others was
        f.place.parts.row moment (folded name) (row_found old_bytes root minor tree (folded_path front) home f) here gone kept empty q
        ∙ ap (λ p. row_deleted tree p moment q) spelled_so

    by_revision : BinsEncodeTree new_bytes root minor (tree_after tree (DeleteKey hive (front ++ name ∷ [])) moment)
    by_revision = (
      tiles,
      after,
      shown,
      (
        root_after f.above (folded_path front) its,
        subkeys_after f.subkey_list (folded_path front) its below_now,
        whole_at (keys_in (splits minor)) (keys_local (splits minor)) (keys_there (splits minor)) f.cells after root f.above f.subkey_list f.whole f.apart (folded_path front) its below_now at_edit,
        same_map paths_total paths_apart _ _ (λ q. row-tree_after tree (DeleteKey hive (front ++ name ∷ [])) moment q ∙ sym (rows_after q)),
        apart_at (keys_in (splits minor)) (keys_local (splits minor)) (keys_there (splits minor)) f.cells after root f.above f.subkey_list f.whole f.apart (folded_path front) its below_now at_edit,
      ),
    )

  pub encodes : BinsEncodeTree new_bytes root minor (tree_after tree (DeleteKey hive (front ++ name ∷ [])) moment)
  encodes = by_revision (subkeys_revision (splits minor) home f.cells after f.place.parts a.subkeys moment (trail_in (splits minor) f.cells at) (read_found old_bytes root minor tree (folded_path front) home f)
      (once_front f.place.parts.own (own_cells f.place.below) w.once) (lent_apart old_bytes root minor tree (folded_path front) home f) given_apart a.change (steps_found old_bytes root minor tree (folded_path front) home f))

pub deletion_encodes : (old_bytes new_bytes : List ℕ) (root minor : ℕ) (tree : TreeMap) (hive : ℕ) (front : List (List ℕ)) (name : List ℕ) (home at moment : ℕ) (f : KeyFound old_bytes root minor tree (folded_path front) home) → Tiles new_bytes → (after : Cells) → Shows new_bytes after → folded (node_name (cell_data old_bytes at)) ≡ folded name → u32_at (cell_data old_bytes at) 20 ≡ 0 →
    DropsSubkey (splits minor) f.cells after home at (offsets f.place.below) moment → BinsEncodeTree new_bytes root minor (tree_after tree (DeleteKey hive (front ++ name ∷ [])) moment)
deletion_encodes old_bytes new_bytes root minor tree hive front name home at moment f tiles after shown is_named alone a =
    encodes old_bytes new_bytes root minor tree hive front name home at moment f tiles after shown is_named alone a (around f.place.below a.more.first at a.more.rest a.more.more_is)
