-- The keys of a subtree are its first key, and the keys below its subkeys in the order of their names.
use Rattle.std.proofs.Common.{◌≡◌, ◌<◌, ◌+◌, ◌&&◌, inl, inr, ℕ, zero, suc, Bool, T, List, [], ◌∷◌, ◌++◌, length, map, take, get_or, refl, ◌∙◌, ap, sym, subst, arith, Result, Ok, Err, IfErr, Some, IsSome, slice_get, ◌⊎◌, ◌≢◌, true, false, MatchResult, OnOk}
use Rattle.std.specs.List.{flat_map}
use Rattle.std.specs.List.Sorted.{IsPermutation}
use Rattle.std.proofs.lemmas.List.{take_more}
use Rattle.std.proofs.lemmas.List.Sorted.{IsPermutation-map, IsPermutation-sym}
use Rattle.std.specs.FinMap as finite
use Rattle.std.specs.FinMap.{get-entries, entries_sorted, entries-from_sorted}
use Rattle.std.specs.FinMap.Entries.{is_sorted, below_all}
use Rattle.std.specs.Ordering.{is_lt}
use Rattle.reg_names.specs.Names.{folded}
use Rattle.reg_tree_parts.specs.Orders.{name_order, path_order}
use Rattle.reg_tree_parts.specs.Rows.{Row}
use Rattle.reg_tree_parts.specs.Nodes.{Entries, entries_of, row_in, IsNode, AreNodes}
use Rattle.reg_tree_parts.proofs.Rises.{entries_rise}
use Rattle.hive_cells.specs.Bins.{Cells}
use Rattle.hive_tree_model.specs.Lists.{IsIn, Once}
use Rattle.hive_tree_model.specs.Keys.{KeyParts, Keys, none, key, offsets, names, own_cells, lent_cells}
use Rattle.hive_tree_model.specs.Trees.{same, tree_of}
use Rattle.hive_tree_model.specs.Loads.{CellMarks}
use Rattle.hive_tree_model.specs.Encodings.{CellsMatchKeys, Named, IsKeyTree}
use Rattle.hive_tree_model.proofs.Basics.{decided, clash, in_front, in_back, in_either, once_front, once_back, once_apart, yes_if, no_if, same_is, same_itself, same_not}
use Rattle.hive_tree_model.proofs.ChainsAre.{key_tree}
use Rattle.hive_records.specs.KeyNodes.{keys_in}
use Rattle.hive_records.specs.Nodes.{IsNodeOf, AreNodesOf}
use Rattle.hive_records.proofs.Keys.{keys_named}
use Rattle.hive_records.proofs.NodesOf.{node_of, tree_of_node}
use Rattle.hive_load_parts.specs.Nodes.{AreListed}
use Rattle.hive_load_parts.proofs.Listed.{listed_rows, listed_names}
use Rattle.hive_load.specs.Nodes.{names_of}
use Rattle.hive_load.proofs.Shuffled.{shuffled_found, in_shuffled}
use Rattle.reg_tree.specs.Maps.{TreeMap}
use Rattle.hive_records.specs.Images.{BinsEncodeTree}
use Rattle.key_walk.specs.KeyRows.{NamedRow, node_rows, spelled_in, subkey_rows, tree_rows}
use Rattle.key_walk.proofs.Rows.{node_walk, whole_rows}
use Rattle.hive_walk.specs.declared.errors.ImageError.{ImageError}
use Rattle.hive_walk.specs.declared.errors.ImageError.TheVariants as image_error
use Rattle.hive_walk.specs.declared.errors.WalkError.{WalkError}
use Rattle.hive_walk.specs.declared.errors.WalkError.TheVariants as walk_error
use Rattle.hive_walk.specs.declared.siblings.Sibling.{Sibling}
use Rattle.hive_walk.specs.Siblings.{offsets_by_name, sibling_names, siblings_in}
use Rattle.hive_walk.specs.Walks.{KeysAreSound, KeyIsSound, entries_of_key, entries_named, cells_named, nodes_of_siblings, AreUnmarked, MarksOnly, IsNoFault, WalkRefused, LeavesSink, rows_under}
use Rattle.hive_walk.proofs.Order.{name_at, name_in}
use Rattle.hive_walk.proofs.Judged.{first_root, entries_rows}

module _ (split : Bool) (cells : Cells) where
  -- ---- sound keys

  pub subkeys_sound : (levels at : ℕ) (parts : KeyParts Row) (below : Keys Row) → KeyIsSound split cells levels at parts below → KeysAreSound split cells levels below
  subkeys_sound levels at parts below s = record {
    fits = s.whole.fits;
    named = s.whole.named;
    once = once_back parts.own (own_cells below) s.whole.once;
    apart = λ cell lent owned. s.apart cell (in_back cell parts.lent (lent_cells below) lent) (in_back cell parts.own (own_cells below) owned);
    shallow = s.shallow;
  }

  first_sound : (levels at : ℕ) (p : KeyParts Row) (below after : Keys Row) → KeysAreSound split cells (suc levels) (key at p below after) → KeyIsSound split cells levels at p below
  first_sound levels at p below after s = record {
    whole = record { read = s.fits.0; listed = s.fits.1; fits = s.fits.2; named = s.named.2; once = once_front (p.own ++ own_cells below) (own_cells after) s.once };
    apart = λ cell lent owned. s.apart cell (in_front cell (p.lent ++ lent_cells below) (lent_cells after) lent) (in_front cell (p.own ++ own_cells below) (own_cells after) owned);
    shallow = s.shallow.0;
  }

  rest_sound : (levels at : ℕ) (p : KeyParts Row) (below after : Keys Row) → KeysAreSound split cells (suc levels) (key at p below after) → KeysAreSound split cells (suc levels) after
  rest_sound levels at p below after s = record {
    fits = s.fits.3;
    named = s.named.3;
    once = once_back (p.own ++ own_cells below) (own_cells after) s.once;
    apart = λ cell lent owned. s.apart cell (in_back cell (p.lent ++ lent_cells below) (lent_cells after) lent) (in_back cell (p.own ++ own_cells below) (own_cells after) owned);
    shallow = s.shallow.1;
  }

  -- what such a key and those below it make is a node
  pub sound_node : (levels at : ℕ) (parts : KeyParts Row) (below : Keys Row) → KeyIsSound split cells levels at parts below → IsNode (entries_of_key parts below)
  sound_node levels at parts below s = record {
    row = parts.row;
    others = first.0;
    whole = first.1;
    rises = entries_sorted (tree_of parts below);
    parents = λ path name h. subst IsSome (get-entries (tree_of parts below) path) (kept.parents path name (subst IsSome (sym (get-entries (tree_of parts below) (path ++ name ∷ []))) h));
    named = λ path name row h. kept.named path name row (get-entries (tree_of parts below) (path ++ name ∷ []) ∙ h);
  }
    where
      first : (others : Entries) × (entries_of_key parts below ≡ ([], parts.row) ∷ others)
      first = first_root (entries_of_key parts below) parts.row (entries_sorted (tree_of parts below)) (entries_rows parts below s.whole.named [])

      kept : IsKeyTree (λ (row : Row). folded row.name) (tree_of parts below)
      kept = key_tree (keys_in split cells) (λ (row : Row). folded row.name) (keys_named split cells) at (tree_of parts below) (parts, below, s.whole, refl, s.apart)

  -- ---- the names of siblings

  sibling_named : (keys : Keys Row) → CellsMatchKeys (keys_in split cells) keys → sibling_names (siblings_in keys) ≡ names keys
  sibling_named none fits = refl
  sibling_named (key at p below after) fits = λ i. sym (keys_named split cells at p fits.0) i ∷ sibling_named after fits.3 i

  once_named : (keys : Keys Row) → Named keys → Once (names keys)
  once_named none named = tt
  once_named (key at p below after) named = (named.1, once_named after named.3)

  pub siblings_once : (keys : Keys Row) → CellsMatchKeys (keys_in split cells) keys → Named keys → Once (sibling_names (siblings_in keys))
  siblings_once keys fits named = subst (λ (z : List (List ℕ)). Once z) (sym (sibling_named keys fits)) (once_named keys named)

  -- ---- subkeys that are listed, one more

  sibling_there : (keys : Keys Row) → CellsMatchKeys (keys_in split cells) keys → (i d : ℕ) (e : Sibling) → i < length (offsets keys) → (parts : KeyParts Row) × (keys_in split cells (get_or (offsets keys) i d) ≡ Ok parts) × (get_or (siblings_in keys) i e ≡ record { name = parts.row.name; at = get_or (offsets keys) i d })
  sibling_there none fits i d e lt = absurd (omega (arith, lt))
  sibling_there (key at p below after) fits zero d e lt = (p, fits.0, refl)
  sibling_there (key at p below after) fits (suc i) d e lt = sibling_there after fits.3 i d e (omega (arith, lt))

  pub same_length : (keys : Keys Row) → length (siblings_in keys) ≡ length (offsets keys)
  same_length none = refl
  same_length (key at p below after) = ap suc (same_length after)

  pub one_sibling : (keys : Keys Row) → CellsMatchKeys (keys_in split cells) keys → (listed : List ℕ) → offsets keys ≡ listed → (siblings : List Sibling) (i : ℕ) → i < length listed → siblings ≡ take i (siblings_in keys) → (name : List ℕ) → ((parts : KeyParts Row) → keys_in split cells (get_or listed i 0) ≡ Ok parts → name ≡ parts.row.name) →
      siblings ++ record { name = name; at = get_or listed i 0 } ∷ [] ≡ take (i + 1) (siblings_in keys)
  one_sibling keys fits listed e siblings i lt so_far name named =
      let within : i < length (offsets keys) = subst (λ (l : List ℕ). i < length l) (sym e) lt in
      let same_at : get_or (offsets keys) i 0 ≡ get_or listed i 0 = ap (λ (l : List ℕ). get_or l i 0) e in
      let new : Sibling = record { name = name; at = get_or listed i 0 } in
      let there : (parts : KeyParts Row) × (keys_in split cells (get_or (offsets keys) i 0) ≡ Ok parts) × (get_or (siblings_in keys) i new ≡ record { name = parts.row.name; at = get_or (offsets keys) i 0 }) = sibling_there keys fits i 0 new within in
      let is_name : name ≡ there.0.row.name = named there.0 (ap (keys_in split cells) (sym same_at) ∙ there.1) in
      let is : new ≡ get_or (siblings_in keys) i new = (λ j. record { name = is_name j; at = sym same_at j }) ∙ sym there.2 in
      let counted : i < length (siblings_in keys) = let l = same_length keys in omega (arith, within, l) in
      (λ j. so_far j ++ is j ∷ []) ∙ sym (take_more (siblings_in keys) i new counted)

  -- the key at a listed offset can be read
  pub listed_key : (keys : Keys Row) → CellsMatchKeys (keys_in split cells) keys → (listed : List ℕ) → offsets keys ≡ listed → (i : ℕ) → i < length listed → (parts : KeyParts Row) × (keys_in split cells (get_or listed i 0) ≡ Ok parts)
  listed_key keys fits listed e i lt =
      let there = sibling_there keys fits i 0 (record { name = []; at = 0 }) (subst (λ (l : List ℕ). i < length l) (sym e) lt) in
      (there.0, ap (λ (l : List ℕ). keys_in split cells (get_or l i 0)) (sym e) ∙ there.1)

  -- ---- a sibling's key

  pub sibling_key : (levels : ℕ) (keys : Keys Row) → KeysAreSound split cells (suc levels) keys → (sibling : Sibling) → IsIn sibling (siblings_in keys) →
      (parts : KeyParts Row) × (below : Keys Row) × KeyIsSound split cells levels sibling.at parts below × (parts.row.name ≡ sibling.name) × (entries_named keys (folded sibling.name) ≡ entries_of_key parts below) × (cells_named keys (folded sibling.name) ≡ parts.own ++ own_cells below)
  sibling_key levels none s sibling i = absurd i
  sibling_key levels (key at p below after) s sibling (inl e) = (
    p,
    below,
    subst (λ (n : ℕ). KeyIsSound split cells levels n p below) (sym (ap (λ (x : Sibling). x.at) e)) (first_sound levels at p below after s),
    sym (ap (λ (x : Sibling). x.name) e),
    yes_if (same (folded sibling.name) p.name) (entries_of_key p below) (entries_named after (folded sibling.name)) it_is,
    yes_if (same (folded sibling.name) p.name) (p.own ++ own_cells below) (cells_named after (folded sibling.name)) it_is,
  )
    where
      named : p.name ≡ folded sibling.name
      named = keys_named split cells at p s.fits.0 ∙ ap folded (sym (ap (λ (x : Sibling). x.name) e))

      it_is : same (folded sibling.name) p.name ≡ true
      it_is = ap (same (folded sibling.name)) named ∙ same_itself (folded sibling.name)
  sibling_key levels (key at p below after) s sibling (inr i) =
      let found : (parts : KeyParts Row) × (under : Keys Row) × KeyIsSound split cells levels sibling.at parts under × (parts.row.name ≡ sibling.name) × (entries_named after (folded sibling.name) ≡ entries_of_key parts under) × (cells_named after (folded sibling.name) ≡ parts.own ++ own_cells under) = sibling_key levels after (rest_sound levels at p below after s) sibling i in
      let not_it : same (folded sibling.name) p.name ≡ false = same_not (folded sibling.name) p.name (λ e. s.named.1 (subst (λ (n : List ℕ). IsIn n (names after)) e (name_among after s.fits.3 sibling i))) in (
        found.0,
        found.1,
        found.2,
        found.3,
        no_if (same (folded sibling.name) p.name) (entries_of_key p below) (entries_named after (folded sibling.name)) not_it ∙ found.4,
        no_if (same (folded sibling.name) p.name) (p.own ++ own_cells below) (cells_named after (folded sibling.name)) not_it ∙ found.5,
      )
    where
      name_among : (keys : Keys Row) → CellsMatchKeys (keys_in split cells) keys → (sibling : Sibling) → IsIn sibling (siblings_in keys) → IsIn (folded sibling.name) (names keys)
      name_among none fits sibling i = i
      name_among (key to q under later) fits sibling (inl e) = inl (ap (λ (x : Sibling). folded x.name) e ∙ sym (keys_named split cells to q fits.0))
      name_among (key to q under later) fits sibling (inr i) = inr (name_among later fits.3 sibling i)

  -- ---- nodes of siblings

  -- each of some keys is found by its name among all
  abbrev AreNamedIn : Keys Row → Keys Row → Type 0
  AreNamedIn all none = Unit {0}
  AreNamedIn all (key at p below after) = (entries_named all p.name ≡ entries_of_key p below) × AreNamedIn all after

  named_later : (at : ℕ) (p : KeyParts Row) (below all keys : Keys Row) → (IsIn p.name (names keys) → ⊥) → AreNamedIn all keys → AreNamedIn (key at p below all) keys
  named_later at p below all none apart h = tt
  named_later at p below all (key to q under later) apart h = (
    no_if (same q.name p.name) (entries_of_key p below) (entries_named all q.name) (same_not q.name p.name (λ e. apart (inl (sym e)))) ∙ h.0,
    named_later at p below all later (λ i. apart (inr i)) h.1,
  )

  named_in : (keys : Keys Row) → Named keys → AreNamedIn keys keys
  named_in none named = tt
  named_in (key at p below after) named = (
    yes_if (same p.name p.name) (entries_of_key p below) (entries_named after p.name) (same_itself p.name),
    named_later at p below after after named.1 (named_in after named.3),
  )

  listed_in : (all keys : Keys Row) → AreNamedIn all keys → CellsMatchKeys (keys_in split cells) keys → Named keys → AreListed (nodes_of_siblings all (siblings_in keys)) keys
  listed_in all none h fits named = tt
  listed_in all (key at p below after) h fits named = (
    sym (keys_named split cells at p fits.0),
    subst (λ (es : Entries). IsNodeOf es p below) (sym (ap (entries_named all) (sym (keys_named split cells at p fits.0)) ∙ h.0)) (entries_rows p below named.2),
    listed_in all after h.1 fits.3 named.3,
  )

  nodes_found : (keys : Keys Row) → CellsMatchKeys (keys_in split cells) keys → Named keys → (siblings : List Sibling) → IsPermutation (siblings_in keys) siblings → AreNodesOf (nodes_of_siblings keys siblings) keys
  nodes_found keys fits named siblings moved name path =
      let listed : AreListed (nodes_of_siblings keys (siblings_in keys)) keys = listed_in keys keys (named_in keys named) fits named in
      let once : Once (names_of (nodes_of_siblings keys (siblings_in keys))) = subst (λ (z : List (List ℕ)). Once z) (sym (listed_names (nodes_of_siblings keys (siblings_in keys)) keys listed)) (once_named keys named) in
      ap (λ o. row_in o path) (shuffled_found (nodes_of_siblings keys (siblings_in keys)) (nodes_of_siblings keys siblings) (IsPermutation-map (λ (s : Sibling). (folded s.name, entries_named keys (folded s.name))) (siblings_in keys) siblings moved) once name)
      ∙ listed_rows (nodes_of_siblings keys (siblings_in keys)) keys listed name path

  -- nodes rise as the names of their siblings do
  below_as : (keys : Keys Row) (n : List ℕ) (siblings : List Sibling) → below_all name_order n (nodes_of_siblings keys siblings) ≡ below_all name_order n (offsets_by_name siblings)
  below_as keys n [] = refl
  below_as keys n (s ∷ siblings) = ap (λ b. is_lt (name_order n (folded s.name)) && b) (below_as keys n siblings)

  sorted_as : (keys : Keys Row) (siblings : List Sibling) → is_sorted name_order (nodes_of_siblings keys siblings) ≡ is_sorted name_order (offsets_by_name siblings)
  sorted_as keys [] = refl
  sorted_as keys (s ∷ siblings) = λ i. below_as keys (folded s.name) siblings i && sorted_as keys siblings i

  are_nodes : (levels : ℕ) (keys : Keys Row) → KeysAreSound split cells (suc levels) keys → (siblings : List Sibling) → ((s : Sibling) → IsIn s siblings → IsIn s (siblings_in keys)) → AreNodes (nodes_of_siblings keys siblings)
  are_nodes levels keys sound [] among = tt
  are_nodes levels keys sound (s ∷ siblings) among = (
    (let its = sibling_key levels keys sound s (among s (inl refl)) in subst IsNode (sym its.4) (sound_node levels s.at its.0 its.1 its.2)),
    are_nodes levels keys sound siblings (λ t i. among t (inr i)),
  )

  none_at_all : (keys : Keys Row) → KeysAreSound split cells 0 keys → keys ≡ none
  none_at_all none s = refl
  none_at_all (key at p below after) s = absurd s.shallow

  pub none_left : (keys : Keys Row) → KeysAreSound split cells 0 keys → (siblings : List Sibling) → IsPermutation (siblings_in keys) siblings → siblings ≡ []
  none_left none s [] moved = refl
  none_left none s (sibling ∷ siblings) moved = absurd (in_shuffled (sibling ∷ siblings) [] (IsPermutation-sym [] (sibling ∷ siblings) moved) sibling (inl refl))
  none_left (key at p below after) s siblings moved = absurd s.shallow

  all_nodes : (levels : ℕ) (keys : Keys Row) → KeysAreSound split cells levels keys → (siblings : List Sibling) → IsPermutation (siblings_in keys) siblings → AreNodes (nodes_of_siblings keys siblings)
  all_nodes zero keys s siblings moved = subst (λ (z : List Sibling). AreNodes (nodes_of_siblings keys z)) (sym (none_left keys s siblings moved)) tt
  all_nodes (suc levels) keys s siblings moved = are_nodes levels keys s siblings (λ t i. in_shuffled siblings (siblings_in keys) (IsPermutation-sym (siblings_in keys) siblings moved) t i)

  -- the entries of a key are its own and those of its subkeys
  pub whole_key : (levels at : ℕ) (parts : KeyParts Row) (below : Keys Row) → KeyIsSound split cells levels at parts below → (siblings : List Sibling) → IsPermutation (siblings_in below) siblings → T (is_sorted name_order (offsets_by_name siblings)) → (path : List (List ℕ)) →
      (path, parts.row) ∷ flat_map (subkey_rows path) (nodes_of_siblings below siblings) ≡ node_rows path (entries_of_key parts below)
  whole_key levels at parts below s siblings moved rises path =
      let sorted : T (is_sorted name_order (nodes_of_siblings below siblings)) = subst T (sym (sorted_as below siblings)) rises in
      let up : T (is_sorted path_order (entries_of parts.row (nodes_of_siblings below siblings))) = entries_rise parts.row (nodes_of_siblings below siblings) (all_nodes levels below (subkeys_sound levels at parts below s) siblings moved) sorted in
      let is : IsNodeOf (entries_of parts.row (nodes_of_siblings below siblings)) parts below = node_of parts below (nodes_of_siblings below siblings) sorted (nodes_found below s.whole.fits s.whole.named siblings moved) in
      let tree : finite.from_sorted {R = path_order} (entries_of parts.row (nodes_of_siblings below siblings)) ≡ tree_of parts below = tree_of_node parts below (entries_of parts.row (nodes_of_siblings below siblings)) up s.whole.named is in
      let made : entries_of parts.row (nodes_of_siblings below siblings) ≡ entries_of_key parts below = sym (entries-from_sorted path_order (entries_of parts.row (nodes_of_siblings below siblings)) up) ∙ ap finite.entries tree in
      sym (node_walk path parts.row (nodes_of_siblings below siblings) sorted) ∙ ap (node_rows path) made

  -- the entries of the sibling at an index
  pub node_there : (keys : Keys Row) (siblings : List Sibling) (i : ℕ) (d : Sibling) → i < length siblings → Some (entries_named keys (folded (get_or siblings i d).name)) ≡ slice_get (map (λ subkey. subkey.1) (nodes_of_siblings keys siblings)) i
  node_there keys [] i d lt = absurd (omega (arith, lt))
  node_there keys (s ∷ siblings) zero d lt = refl
  node_there keys (s ∷ siblings) (suc i) d lt = node_there keys siblings i d (omega (arith, lt))

  pub sibling_in : (siblings : List Sibling) (i : ℕ) (d : Sibling) → i < length siblings → IsIn (get_or siblings i d) siblings
  sibling_in [] i d lt = absurd (omega (arith, lt))
  sibling_in (s ∷ siblings) zero d lt = inl refl
  sibling_in (s ∷ siblings) (suc i) d lt = inr (sibling_in siblings i d (omega (arith, lt)))

-- ---- marks

pub only_joined : (a b c : CellMarks) (xs ys : List ℕ) → MarksOnly a b xs → MarksOnly b c ys → MarksOnly a c (xs ++ ys)
only_joined a b c xs ys first second cell h = elim (second cell h) [
  | inl m ↦ elim (first cell m) [ inl k ↦ inl k | inr i ↦ inr (in_front cell xs ys i) ]
  | inr i ↦ inr (in_back cell xs ys i)
]

pub still_unmarked : (old now : CellMarks) (xs ys : List ℕ) → MarksOnly old now xs → ((cell : ℕ) → IsIn cell xs → IsIn cell ys → ⊥) → AreUnmarked old ys → AreUnmarked now ys
still_unmarked old now xs ys only apart unmarked cell here = elim (decided (now cell)) [
  | inl t ↦ elim (only cell t) [ inl m ↦ clash (old cell) m (unmarked cell here) | inr i ↦ absurd (apart cell i here) ]
  | inr f ↦ f
]

-- the cells of a key with a name are cells of the keys
pub cells_within : (keys : Keys Row) (n : List ℕ) (cell : ℕ) → IsIn cell (cells_named keys n) → IsIn cell (own_cells keys)
cells_within none n cell h = h
cells_within (key at p below after) n cell h = elim (decided (same n p.name)) [
  | inl t ↦ in_front cell (p.own ++ own_cells below) (own_cells after) (subst (IsIn cell) (yes_if (same n p.name) (p.own ++ own_cells below) (cells_named after n) t) h)
  | inr f ↦ in_back cell (p.own ++ own_cells below) (own_cells after) (cells_within after n cell (subst (IsIn cell) (no_if (same n p.name) (p.own ++ own_cells below) (cells_named after n) f) h))
]

-- keys with other names have other cells
pub cells_apart : (keys : Keys Row) → Once (own_cells keys) → (n m : List ℕ) → n ≢ m → (cell : ℕ) → IsIn cell (cells_named keys n) → IsIn cell (cells_named keys m) → ⊥
cells_apart none once n m other cell h g = h
cells_apart (key at p below after) once n m other cell h g = by_names (λ i j. cells_apart after (once_back (p.own ++ own_cells below) (own_cells after) once) n m other cell i j) (decided (same n p.name)) (decided (same m p.name))
  where
    here : (k : List ℕ) → same k p.name ≡ true → IsIn cell (cells_named (key at p below after) k) → IsIn cell (p.own ++ own_cells below)
    here k t i = subst (IsIn cell) (yes_if (same k p.name) (p.own ++ own_cells below) (cells_named after k) t) i

    later : (k : List ℕ) → same k p.name ≡ false → IsIn cell (cells_named (key at p below after) k) → IsIn cell (cells_named after k)
    later k f i = subst (IsIn cell) (no_if (same k p.name) (p.own ++ own_cells below) (cells_named after k) f) i

    by_names : (IsIn cell (cells_named after n) → IsIn cell (cells_named after m) → ⊥) → (same n p.name ≡ true) ⊎ (same n p.name ≡ false) → (same m p.name ≡ true) ⊎ (same m p.name ≡ false) → ⊥
    by_names rest (inl t) (inl u) = other (same_is n p.name t ∙ sym (same_is m p.name u))
    by_names rest (inl t) (inr f) = once_apart cell (p.own ++ own_cells below) (own_cells after) once (here n t h) (cells_within after m cell (later m f g))
    by_names rest (inr f) (inl u) = once_apart cell (p.own ++ own_cells below) (own_cells after) once (here m u g) (cells_within after n cell (later n f h))
    by_names rest (inr f) (inr k) = rest (later n f h) (later m k g)

-- the cells of some siblings' keys
abbrev pub cells_of : Keys Row → List Sibling → List ℕ
cells_of keys siblings = flat_map (λ (sibling : Sibling). cells_named keys (folded sibling.name)) siblings

whose : (keys : Keys Row) (siblings : List Sibling) (cell : ℕ) → IsIn cell (cells_of keys siblings) → (s : Sibling) × IsIn s siblings × IsIn cell (cells_named keys (folded s.name))
whose keys [] cell h = absurd h
whose keys (s ∷ siblings) cell h = elim (in_either cell (cells_named keys (folded s.name)) (cells_of keys siblings) h) [
  | inl i ↦ (s, inl refl, i)
  | inr i ↦ (let its : (t : Sibling) × IsIn t siblings × IsIn cell (cells_named keys (folded t.name)) = whose keys siblings cell i in (its.0, inr its.1, its.2))
]

pub all_within : (keys : Keys Row) (siblings : List Sibling) (cell : ℕ) → IsIn cell (cells_of keys siblings) → IsIn cell (own_cells keys)
all_within keys siblings cell h = let its = whose keys siblings cell h in cells_within keys (folded its.0.name) cell its.2

-- siblings before one have other names
named_before : (siblings : List Sibling) → Once (sibling_names siblings) → (i : ℕ) (d t : Sibling) → i < length siblings → IsIn t (take i siblings) → folded t.name ≢ name_at siblings i d
named_before [] once i d t lt h e = absurd (omega (arith, lt))
named_before (x ∷ siblings) once zero d t lt h e = h
named_before (x ∷ siblings) once (suc i) d t lt (inl is) e = once.0 (subst (λ (n : List ℕ). IsIn n (sibling_names siblings)) (sym e ∙ ap (λ (s : Sibling). folded s.name) is) (name_in siblings i d (omega (arith, lt))))
named_before (x ∷ siblings) once (suc i) d t lt (inr h) e = named_before siblings once.1 i d t (omega (arith, lt)) h e

-- the cells of a sibling's key aren't among those of the siblings before it
pub apart_before : (keys : Keys Row) → Once (own_cells keys) → (siblings : List Sibling) → Once (sibling_names siblings) → (i : ℕ) (d : Sibling) → i < length siblings → (cell : ℕ) → IsIn cell (cells_of keys (take i siblings)) → IsIn cell (cells_named keys (name_at siblings i d)) → ⊥
apart_before keys once siblings apart i d lt cell h g =
    let its = whose keys (take i siblings) cell h in
    cells_apart keys once (folded its.0.name) (name_at siblings i d) (named_before siblings apart i d its.0 lt its.1) cell its.2 g

pub many_nodes : (keys : Keys Row) (siblings : List Sibling) → length (nodes_of_siblings keys siblings) ≡ length siblings
many_nodes keys [] = refl
many_nodes keys (s ∷ siblings) = ap suc (many_nodes keys siblings)

pub got : (siblings : List Sibling) (i : ℕ) (d : Sibling) → i < length siblings → slice_get siblings i ≡ Some (get_or siblings i d)
got [] i d lt = absurd (omega (arith, lt))
got (s ∷ siblings) zero d lt = refl
got (s ∷ siblings) (suc i) d lt = got siblings i d (omega (arith, lt))

pub on_match : {T E P Q : Type 0} (R : E → Type 0) (answer : Result T E) → (P → Q) → MatchResult answer (λ _. P) R → MatchResult answer (λ _. Q) R
on_match R (Ok x) f p = f p
on_match R (Err e) f r = r

pub only_ok : {T E : Type 0} (P : Type 0) (R : E → Type 0) (answer : Result T E) → MatchResult answer (λ _. P) R → OnOk answer P
only_ok P R (Ok x) p = p
only_ok P R (Err e) r = tt

pub only_err : {T E : Type 0} (P : Type 0) (R : E → Type 0) (answer : Result T E) → MatchResult answer (λ _. P) R → IfErr answer R
only_err P R (Ok x) p = tt
only_err P R (Err e) r = r

pub memory_alone : (E : Type 0) (error : ImageError) → error ≡ image_error.NoMemory → IsNoFault {E = E} (walk_error.Image error)
memory_alone E error e = subst (λ (it : ImageError). IsNoFault {E = E} (walk_error.Image it)) (sym e) tt

-- what holds, holds of each refusal
pub if_err_all : {X E P : Type 0} (answer : Result X E) → P → IfErr answer (λ _. P)
if_err_all (Ok x) p = tt
if_err_all (Err e) p = p

pub sink_left : {S X E : Type 0} (old new : S) (result : Result X (WalkError E)) → IfErr result IsNoFault → IfErr result (LeavesSink old new)
sink_left old new (Ok x) h = tt
sink_left old new (Err (walk_error.Image image_error.NoMemory)) h = tt
sink_left old new (Err (walk_error.Image (image_error.Fault fault))) h = absurd h
sink_left old new (Err (walk_error.Sink refusal)) h = tt

-- ---- a whole image

pub same_rows : (split : Bool) (cells : Cells) (levels at : ℕ) (parts : KeyParts Row) (below : Keys Row) → KeyIsSound split cells levels at parts below → node_rows [] (entries_of_key parts below) ≡ tree_rows (tree_of parts below)
same_rows split cells levels at parts below s =
    whole_rows (entries_of_key parts below) (sound_node split cells levels at parts below s)
    ∙ ap tree_rows (tree_of_node parts below (entries_of_key parts below) (entries_sorted (tree_of parts below)) s.whole.named (entries_rows parts below s.whole.named))

-- the same of a part, to whose first key names lead
under_rows : (names : List (List ℕ)) (all entries : Entries) → map (λ (entry : List (List ℕ) × Row). (names ++ spelled_in all entry.0, entry.1)) entries ≡ rows_under names (map (λ (entry : List (List ℕ) × Row). (spelled_in all entry.0, entry.1)) entries)
under_rows names all [] = refl
under_rows names all (entry ∷ entries) = ap (λ (rows : List NamedRow). (names ++ spelled_in all entry.0, entry.1) ∷ rows) (under_rows names all entries)

pub part_rows : (split : Bool) (cells : Cells) (levels at : ℕ) (parts : KeyParts Row) (below : Keys Row) → KeyIsSound split cells levels at parts below → (names : List (List ℕ)) → node_rows names (entries_of_key parts below) ≡ rows_under names (tree_rows (tree_of parts below))
part_rows split cells levels at parts below s names = under_rows names (entries_of_key parts below) (entries_of_key parts below) ∙ ap (rows_under names) (same_rows split cells levels at parts below s)

pub no_fault : {X E : Type 0} (bytes : List ℕ) (root minor : ℕ) (result : Result X (WalkError E)) → IfErr result IsNoFault → IfErr result (λ _. (tree : TreeMap) × BinsEncodeTree bytes root minor tree) → IfErr result (WalkRefused bytes root minor)
no_fault bytes root minor (Ok x) h tree = tt
no_fault bytes root minor (Err (walk_error.Image image_error.NoMemory)) h tree = tt
no_fault bytes root minor (Err (walk_error.Image (image_error.Fault fault))) h tree = absurd h
no_fault bytes root minor (Err (walk_error.Sink refusal)) h tree = tree
