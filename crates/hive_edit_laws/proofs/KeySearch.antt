-- Keys of a tree, found level by level by the names of their nodes.
use Rattle.std.proofs.Common.{◌≡◌, ◌≢◌, inl, inr, ◌%◌, ◌==◌, ℕ, List, [], ◌∷◌, ◌++◌, length, refl, ◌∙◌, ap, sym, subst, Bool, Ok, Some, None, Option}
use Rattle.std.specs.FinMap.{get}
use Rattle.refusals.specs.declared.refusal.Refusal.{Refusal}
use Rattle.refusals.specs.declared.refusal.Cause.TheVariants as cause
use Rattle.reg_names.specs.Names.{folded}
use Rattle.reg_tree_parts.specs.Rows.{Row, ValueMap}
use Rattle.reg_tree.specs.Maps.{TreeMap, row}
use Rattle.hive_tree_model.specs.Lists.{IsIn}
use Rattle.hive_tree_model.specs.Keys.{KeyParts, KeyReader, Keys, none, key, offsets, names}
use Rattle.hive_tree_model.specs.Trees.{same, row_in, tree_of}
use Rattle.hive_tree_model.specs.Encodings.{CellsMatchKeys, Named, Whole}
use Rattle.hive_tree_model.proofs.Basics.{yes_if, no_if, same_itself, same_not, some_same, some_none}
use Rattle.hive_tree_model.proofs.Rows.{row_of_tree}
use Rattle.hive_cells.specs.Tiles.{u32_at, cell_data}
use Rattle.hive_cells.specs.Bins.{Cells, Shows}
use Rattle.hive_records.specs.Readers.{Read, done, rule, ◌⟫◌}
use Rattle.hive_records.specs.Numbers.{u16_at}
use Rattle.hive_records.specs.Names.{has_flag, pairs, name_in}
use Rattle.hive_records.specs.Heads.{units_in, key_name_bytes, key_node_fault}
use Rattle.hive_records.specs.Fields.{Gives}
use Rattle.hive_records.specs.KeyNodes.{keys_in, parts_of}
use Rattle.hive_records.specs.Images.{splits, BinsEncodeTree}
use Rattle.hive_records.proofs.Local.{never_ok}
use Rattle.hive_records.proofs.RecordReaders.{key_out}
use Rattle.hive_edit_laws.specs.KeyPlaces.{KeyPlace, place_in, place_from}
use Rattle.hive_edit_laws.specs.Found.{KeyFound, node_name, HoldsNode, value_count, value_list}
use Rattle.hive_edit_laws.proofs.ReaderSteps.{choice_of, rule_of, done_of}
use Rattle.hive_edit_laws.proofs.SubkeyEdits.{no_row}
use Rattle.hive_edit_laws.proofs.KeySteps.{Steps, steps_of}
use Rattle.hive_edit_laws.proofs.CellsShown.{shown_some, shown_here}
use Rattle.hive_edit_laws.proofs.RowRevisions.{whole_found, read_found, steps_found}
use Rattle.hive_load_parts.proofs.NoneLent.{none_values, none_subkeys}
use Rattle.hive_records.specs.Lists.{subkeys_at}
use Rattle.hive_records.specs.Values.{values_at}
use Rattle.hive_edit_laws.proofs.Bools.{by_test}

-- the units of a name
pub name_units : (latin : Bool) (bytes : List ℕ) (cells : Cells) (own lent name : List ℕ) → Gives (name_in latin bytes) cells own lent name → name ≡ units_in latin bytes
name_units latin bytes cells own lent name h = elim (choice_of latin (done bytes) (rule (length bytes % 2 == 0) cause.BadName ⟫ λ _. done (pairs bytes)) cells own lent name h) [
  | inl g ↦ sym (done_of bytes cells own lent name g.1).2 ∙ ap (λ b. units_in b bytes) (sym g.0)
  | inr g ↦ sym (done_of (pairs bytes) cells own lent name (rule_of _ _ _ cells own lent name g.1).1).2 ∙ ap (λ b. units_in b bytes) (sym g.0)
]

module _ (split : Bool) (cells : Cells) (at : ℕ) (parts : KeyParts Row) (reads : keys_in split cells at ≡ Ok parts) where
  pub no_fault : (node : List ℕ) → cells at ≡ Some node → key_node_fault node ≡ None
  no_fault node here = go (key_node_fault node) refl
    where
      go : (o : Option Refusal) → key_node_fault node ≡ o → key_node_fault node ≡ None
      go None e = e
      go (Some r) e = never_ok r parts (sym (ap parts_of (key_out split cells at node r here e)) ∙ reads)

  pub its_name : (node : List ℕ) → cells at ≡ Some node → parts.name ≡ folded (node_name node)
  its_name node here = by (steps_of split at cells parts reads)
    where
      by : Steps split at cells parts → parts.name ≡ folded (node_name node)
      by s = s.name_is ∙ ap folded (name_units (has_flag 0x20 (u16_at s.node 2)) (key_name_bytes s.node) cells s.na s.nl (parts.row).name s.named ∙ ap node_name (some_same s.node node (sym s.here ∙ here)))

  pub node_here : (bytes : List ℕ) → Shows bytes cells → HoldsNode bytes at
  node_here bytes shows = by (steps_of split at cells parts reads)
    where
      by : Steps split at cells parts → HoldsNode bytes at
      by s = let h = shown_some bytes cells shows at s.node s.here in (h.0, ap key_node_fault (sym h.1) ∙ no_fault s.node s.here)

  pub name_here : (bytes : List ℕ) → Shows bytes cells → parts.name ≡ folded (node_name (cell_data bytes at))
  name_here bytes shows = its_name (cell_data bytes at) (shown_here bytes cells shows at (node_here bytes shows).0)

module _ {R C : Type 0} (reads : KeyReader R C) where
  -- a listed key is at its name
  pub listed_key : (f : Keys R) → CellsMatchKeys reads f → Named f → (at : ℕ) → IsIn at (offsets f) → (p : KeyParts R) × (sub : Keys R) × (reads at ≡ Ok p) × (place_in f (p.name ∷ []) ≡ Some (record { at = at; parts = p; below = sub })) × IsIn p.name (names f)
  listed_key none fits named at i = absurd i
  listed_key (key to q below after) fits named at (inl e) = (
    q,
    below,
    ap reads e ∙ fits.0,
    yes_if (same q.name q.name) (Some (record { at = to; parts = q; below = below })) (place_in after (q.name ∷ [])) (same_itself q.name) ∙ ap (λ (n : ℕ). Some (record { at = n; parts = q; below = below })) (sym e),
    inl refl,
  )
  listed_key (key to q below after) fits named at (inr i) = let r = listed_key after fits.3 named.3 at i in (
    r.0,
    r.1,
    r.2,
    no_if (same (r.0).name q.name) (Some (record { at = to; parts = q; below = below })) (place_in after ((r.0).name ∷ [])) (same_not (r.0).name q.name (λ e. named.1 (subst (λ (n : List ℕ). IsIn n (names after)) e r.4))) ∙ r.3,
    inr r.4,
  )

  -- a name is the name of a listed key
  pub name_listed : (f : Keys R) → CellsMatchKeys reads f → (n : List ℕ) → IsIn n (names f) → (at : ℕ) × (p : KeyParts R) × IsIn at (offsets f) × (reads at ≡ Ok p) × (n ≡ p.name)
  name_listed none fits n i = absurd i
  name_listed (key to q below after) fits n (inl e) = (to, q, inl refl, fits.0, e)
  name_listed (key to q below after) fits n (inr i) = let r = name_listed after fits.3 n i in (r.0, r.1, inr r.2, r.3, r.4)

module _ {R : Type 0} where
  -- one level further down
  place_on : (f : Keys R) (m : List ℕ) (path : List (List ℕ)) (n : List ℕ) (p q : KeyPlace R) → place_in f (m ∷ path) ≡ Some p → place_in p.below (n ∷ []) ≡ Some q → place_in f (m ∷ (path ++ n ∷ [])) ≡ Some q
  place_on none m path n p q e g = some_none p e
  place_on (key at parts below after) m [] n p q e g = elim (by_test (same m parts.name) (Some (record { at = at; parts = parts; below = below })) (place_in after (m ∷ [])) p e) [
    | inl h ↦ yes_if (same m parts.name) (place_in below (n ∷ [])) (place_in after (m ∷ n ∷ [])) h.0 ∙ ap (λ (z : KeyPlace R). place_in z.below (n ∷ [])) (some_same (record { at = at; parts = parts; below = below }) p h.1) ∙ g
    | inr h ↦ no_if (same m parts.name) (place_in below (n ∷ [])) (place_in after (m ∷ n ∷ [])) h.0 ∙ place_on after m [] n p q h.1 g
  ]
  place_on (key at parts below after) m (k ∷ path) n p q e g = elim (by_test (same m parts.name) (place_in below (k ∷ path)) (place_in after (m ∷ k ∷ path)) p e) [
    | inl h ↦ yes_if (same m parts.name) (place_in below (k ∷ (path ++ n ∷ []))) (place_in after (m ∷ k ∷ (path ++ n ∷ []))) h.0 ∙ place_on below k path n p q h.1 g
    | inr h ↦ no_if (same m parts.name) (place_in below (k ∷ (path ++ n ∷ []))) (place_in after (m ∷ k ∷ (path ++ n ∷ []))) h.0 ∙ place_on after m (k ∷ path) n p q h.1 g
  ]

  pub place_next : (root : ℕ) (above : KeyParts R) (subkey_list : Keys R) (path : List (List ℕ)) (n : List ℕ) (p q : KeyPlace R) → place_from root above subkey_list path ≡ Some p → place_in p.below (n ∷ []) ≡ Some q → place_from root above subkey_list (path ++ n ∷ []) ≡ Some q
  place_next root above subkey_list [] n p q e g = ap (λ (z : KeyPlace R). place_in z.below (n ∷ [])) (some_same (record { at = root; parts = above; below = subkey_list }) p e) ∙ g
  place_next root above subkey_list (m ∷ path) n p q e g = place_on subkey_list m path n p q e g

  row_on : (f : Keys R) (m : List ℕ) (path : List (List ℕ)) (n : List ℕ) (rest : List (List ℕ)) (p : KeyPlace R) → place_in f (m ∷ path) ≡ Some p → row_in f (m ∷ (path ++ n ∷ rest)) ≡ row_in p.below (n ∷ rest)
  row_on none m path n rest p e = some_none p e
  row_on (key at parts below after) m [] n rest p e = elim (by_test (same m parts.name) (Some (record { at = at; parts = parts; below = below })) (place_in after (m ∷ [])) p e) [
    | inl h ↦ yes_if (same m parts.name) (row_in below (n ∷ rest)) (row_in after (m ∷ n ∷ rest)) h.0 ∙ ap (λ (z : KeyPlace R). row_in z.below (n ∷ rest)) (some_same (record { at = at; parts = parts; below = below }) p h.1)
    | inr h ↦ no_if (same m parts.name) (row_in below (n ∷ rest)) (row_in after (m ∷ n ∷ rest)) h.0 ∙ row_on after m [] n rest p h.1
  ]
  row_on (key at parts below after) m (k ∷ path) n rest p e = elim (by_test (same m parts.name) (place_in below (k ∷ path)) (place_in after (m ∷ k ∷ path)) p e) [
    | inl h ↦ yes_if (same m parts.name) (row_in below (k ∷ (path ++ n ∷ rest))) (row_in after (m ∷ k ∷ (path ++ n ∷ rest))) h.0 ∙ row_on below k path n rest p h.1
    | inr h ↦ no_if (same m parts.name) (row_in below (k ∷ (path ++ n ∷ rest))) (row_in after (m ∷ k ∷ (path ++ n ∷ rest))) h.0 ∙ row_on after m (k ∷ path) n rest p h.1
  ]

  pub row_next : (root : ℕ) (above : KeyParts R) (subkey_list : Keys R) → Named subkey_list → (path : List (List ℕ)) (n : List ℕ) (rest : List (List ℕ)) (p : KeyPlace R) → place_from root above subkey_list path ≡ Some p → get (tree_of above subkey_list) (path ++ n ∷ rest) ≡ row_in p.below (n ∷ rest)
  row_next root above subkey_list named [] n rest p e = row_of_tree above subkey_list named (n ∷ rest) ∙ ap (λ (z : KeyPlace R). row_in z.below (n ∷ rest)) (some_same (record { at = root; parts = above; below = subkey_list }) p e)
  row_next root above subkey_list named (m ∷ path) n rest p e = row_of_tree above subkey_list named (m ∷ (path ++ n ∷ rest)) ∙ row_on subkey_list m path n rest p e

pub root_found : (bytes : List ℕ) (root minor : ℕ) (tree : TreeMap) → BinsEncodeTree bytes root minor tree → KeyFound bytes root minor tree [] root
root_found bytes root minor tree h = record {
  cells = h.1;
  shows = h.2;
  above = h.3.0;
  subkey_list = h.3.1;
  whole = h.3.2;
  apart = h.3.4;
  is = h.3.3;
  place = record { at = root; parts = h.3.0; below = h.3.1 };
  there = refl;
  at_is = refl;
}

module _ (bytes : List ℕ) (root minor : ℕ) (tree : TreeMap) (path : List (List ℕ)) (at : ℕ) (f : KeyFound bytes root minor tree path at) where
  w : Whole (keys_in (splits minor) f.cells) f.place.at f.place.parts f.place.below
  w = whole_found bytes root minor tree path at f

  pub holds_node : HoldsNode bytes at
  holds_node = node_here (splits minor) f.cells at f.place.parts (read_found bytes root minor tree path at f) bytes f.shows

  pub subkey_node : (offset : ℕ) → IsIn offset (offsets f.place.below) → HoldsNode bytes offset
  subkey_node offset i = let r = listed_key (keys_in (splits minor) f.cells) f.place.below w.fits w.named offset i in node_here (splits minor) f.cells offset r.0 r.2 bytes f.shows

  pub subkey_there : (offset : ℕ) (name : List ℕ) → IsIn offset (offsets f.place.below) → folded (node_name (cell_data bytes offset)) ≡ name → KeyFound bytes root minor tree (path ++ name ∷ []) offset
  subkey_there offset name i is = by (listed_key (keys_in (splits minor) f.cells) f.place.below w.fits w.named offset i)
    where
      by : (p : KeyParts Row) × (sub : Keys Row) × (keys_in (splits minor) f.cells offset ≡ Ok p) × (place_in f.place.below (p.name ∷ []) ≡ Some (record { at = offset; parts = p; below = sub })) × IsIn p.name (names f.place.below) → KeyFound bytes root minor tree (path ++ name ∷ []) offset
      by r =
          let called : (r.0).name ≡ name = name_here (splits minor) f.cells offset r.0 r.2 bytes f.shows ∙ is in
          record {
            cells = f.cells;
            shows = f.shows;
            above = f.above;
            subkey_list = f.subkey_list;
            whole = f.whole;
            apart = f.apart;
            is = f.is;
            place = record { at = offset; parts = r.0; below = r.1 };
            there = place_next root f.above f.subkey_list path name f.place (record { at = offset; parts = r.0; below = r.1 }) f.there (ap (λ (n : List ℕ). place_in f.place.below (n ∷ [])) (sym called) ∙ r.3);
            at_is = refl;
          }

  pub subkey_absent : (name : List ℕ) → ((offset : ℕ) → IsIn offset (offsets f.place.below) → folded (node_name (cell_data bytes offset)) ≢ name) → (rest : List (List ℕ)) → row tree (path ++ name ∷ rest) ≡ None
  subkey_absent name apart rest = ap (λ (t : TreeMap). get t (path ++ name ∷ rest)) f.is
      ∙ row_next root f.above f.subkey_list f.whole.named path name rest f.place f.there
      ∙ no_row f.place.below name rest (λ i. let r = name_listed (keys_in (splits minor) f.cells) f.place.below w.fits name i in apart r.0 r.2 (sym (name_here (splits minor) f.cells r.0 r.1 r.3 bytes f.shows) ∙ sym r.4))

  pub subkeys_read : (own : List ℕ) × Gives (subkeys_at (u32_at (cell_data bytes at) 20) (u32_at (cell_data bytes at) 28)) f.cells own [] (offsets f.place.below)
  subkeys_read = by (steps_found bytes root minor tree path at f)
    where
      by : Steps (splits minor) at f.cells f.place.parts → (own : List ℕ) × Gives (subkeys_at (u32_at (cell_data bytes at) 20) (u32_at (cell_data bytes at) 28)) f.cells own [] (offsets f.place.below)
      by s =
          let same : s.node ≡ cell_data bytes at = (shown_some bytes f.cells f.shows at s.node s.here).1 in
          let no_lent : s.kl ≡ [] = sym (ap (λ (z : Read (List ℕ)). z.lent) (s.listed).reads) ∙ none_subkeys (u32_at s.node 20) (u32_at s.node 28) f.cells in
          (s.ko, record { reads = (λ i. subkeys_at (u32_at (sym same i) 20) (u32_at (sym same i) 28) f.cells) ∙ (s.listed).reads ∙ (λ i. record { own = s.ko; lent = no_lent i; says = Ok (sym w.listed i) }) })

  pub values_read : (own : List ℕ) × Gives (values_at (splits minor) (value_count bytes at) (value_list bytes at)) f.cells own [] f.place.parts.row.values
  values_read = by (steps_found bytes root minor tree path at f)
    where
      by : Steps (splits minor) at f.cells f.place.parts → (own : List ℕ) × Gives (values_at (splits minor) (value_count bytes at) (value_list bytes at)) f.cells own [] f.place.parts.row.values
      by s =
          let same : s.node ≡ cell_data bytes at = (shown_some bytes f.cells f.shows at s.node s.here).1 in
          let no_lent : s.vl ≡ [] = sym (ap (λ (z : Read ValueMap). z.lent) (s.valued).reads) ∙ none_values (splits minor) (u32_at s.node 36) (u32_at s.node 40) f.cells in
          (s.vo, record { reads = (λ i. values_at (splits minor) (u32_at (sym same i) 36) (u32_at (sym same i) 40) f.cells) ∙ (s.valued).reads ∙ (λ i. record { own = s.vo; lent = no_lent i; says = Ok f.place.parts.row.values }) })
