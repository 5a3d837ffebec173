-- What a loaded root, or a refused one, says of the data.
use Rattle.std.proofs.Common.{◌≡◌, ◌≢◌, ◌⊎◌, ◌≤◌, ◌<◌, inl, inr, ℕ, zero, suc, Bool, true, false, List, [], ◌∷◌, ◌++◌, length, refl, ◌∙◌, ap, sym, subst, arith, Some, IsSome}
use Rattle.std.specs.FinMap as finite
use Rattle.std.specs.FinMap.{get-from_sorted, entries-from_sorted}
use Rattle.refusals.specs.declared.refusal.Refusal.{Refusal}
use Rattle.refusals.specs.declared.refusal.Refusal.TheVariants as refusal
use Rattle.refusals.specs.declared.refusal.Cause.TheVariants as cause
use Rattle.refusals.specs.declared.limits.TheConstants.{MOST_PATH_NAMES, MOST_WEIGHT}
use Rattle.reg_names.specs.Names.{folded}
use Rattle.reg_tree_parts.specs.Orders.{path_order}
use Rattle.reg_tree_parts.specs.Rows.{Row}
use Rattle.reg_tree_parts.specs.Nodes.{Entries, IsNode}
use Rattle.reg_tree.specs.Maps.{TreeMap, row, weight}
use Rattle.reg_tree.specs.Encodable.{IsEncodable, IsEncodableAt, IsEncodableRow}
use Rattle.hive_cells.specs.Tiles.{Tiles}
use Rattle.hive_cells.specs.Bins.{Cells, Shows}
use Rattle.hive_tree_model.specs.Lists.{IsIn}
use Rattle.hive_tree_model.specs.Keys.{KeyParts, Keys, none, key, lent_cells}
use Rattle.hive_tree_model.specs.Trees.{same, row_in, row_from}
use Rattle.hive_tree_model.specs.Encodings.{CellsMatchKeys, Named, CellsEncodeTree}
use Rattle.hive_tree_model.specs.Faults.{HasDeeperKey}
use Rattle.hive_tree_model.specs.Loads.{CellMarks, Loaded, HasFault}
use Rattle.hive_tree_model.proofs.Basics.{decided, never, yes_if, no_if, some_same, some_none}
use Rattle.hive_tree_model.proofs.Depths.{deep}
use Rattle.hive_tree_model.proofs.Settled.{settled, lent_met}
use Rattle.hive_records.specs.Bytes.{AreBytes, HoldBytes}
use Rattle.hive_records.specs.KeyNodes.{keys_in, trail_in, lends_in}
use Rattle.hive_records.specs.Images.{splits, BinsEncodeTree, FaultIn}
use Rattle.hive_records.proofs.NodesOf.{tree_of_node}
use Rattle.hive_records.proofs.Keys.{keys_trail, keys_lends, keys_named}
use Rattle.hive_records.proofs.Spelled.{row_spelled, cells_bytes}
use Rattle.hive_records.proofs.Images.{same_cells, one_image, image_fault}
use Rattle.hive_load_parts.specs.Descriptors.{descriptor_in}
use Rattle.hive_load.specs.Answers.{IsShallow, LoadsKey, RefusesKey}
use Rattle.hive_load.specs.Roots.{LoadsRoot, RefusesRoot}
use Rattle.hive_load.specs.Limits.{IsShallowTree, TreeIsInLimits, LoadRefused, ShallowLoadRefused}

-- ---- rows at the end of paths

step_no : (at : ℕ) (p : KeyParts Row) (below after : Keys Row) (n : List ℕ) (path : List (List ℕ)) → same n p.name ≡ false → row_in (key at p below after) (n ∷ path) ≡ row_in after (n ∷ path)
step_no at p below after n [] e = no_if (same n p.name) (Some p.row) (row_in after (n ∷ [])) e
step_no at p below after n (m ∷ path) e = no_if (same n p.name) (row_in below (m ∷ path)) (row_in after (n ∷ m ∷ path)) e

-- if keys lie on at most a number of levels, a path to a row has at most as many names
pub shallow_row : (levels : ℕ) (keys : Keys Row) → IsShallow levels keys → (path : List (List ℕ)) (r : Row) → row_in keys path ≡ Some r → length path ≤ levels
shallow_row levels none h path r e = some_none r e
shallow_row zero (key at p below after) h path r e = absurd h
shallow_row (suc levels) (key at p below after) h [] r e = omega arith
shallow_row (suc levels) (key at p below after) h (n ∷ []) r e = omega arith
shallow_row (suc levels) (key at p below after) h (n ∷ m ∷ path) r e = elim (decided (same n p.name)) [
  | inl t ↦ let short : length (m ∷ path) ≤ levels = shallow_row levels below h.0 (m ∷ path) r (sym (yes_if (same n p.name) (row_in below (m ∷ path)) (row_in after (n ∷ m ∷ path)) t) ∙ e) in omega (arith, short)
  | inr f ↦ shallow_row (suc levels) after h.1 (n ∷ m ∷ path) r (sym (no_if (same n p.name) (row_in below (m ∷ path)) (row_in after (n ∷ m ∷ path)) f) ∙ e)
]

-- what holds of each key's row
abbrev pub EachRow : (Row → Type 0) → Keys Row → Type 0
EachRow P none = Unit {0}
EachRow P (key at p below after) = P p.row × EachRow P below × EachRow P after

pub row_is : (P : Row → Type 0) (keys : Keys Row) → EachRow P keys → (path : List (List ℕ)) (r : Row) → row_in keys path ≡ Some r → P r
row_is P none h path r e = some_none r e
row_is P (key at p below after) h [] r e = some_none r e
row_is P (key at p below after) h (n ∷ []) r e = elim (decided (same n p.name)) [
  | inl t ↦ subst P (some_same p.row r (sym (yes_if (same n p.name) (Some p.row) (row_in after (n ∷ [])) t) ∙ e)) h.0
  | inr f ↦ row_is P after h.2 (n ∷ []) r (sym (no_if (same n p.name) (Some p.row) (row_in after (n ∷ [])) f) ∙ e)
]
row_is P (key at p below after) h (n ∷ m ∷ path) r e = elim (decided (same n p.name)) [
  | inl t ↦ row_is P below h.1 (m ∷ path) r (sym (yes_if (same n p.name) (row_in below (m ∷ path)) (row_in after (n ∷ m ∷ path)) t) ∙ e)
  | inr f ↦ row_is P after h.2 (n ∷ m ∷ path) r (sym (no_if (same n p.name) (row_in below (m ∷ path)) (row_in after (n ∷ m ∷ path)) f) ∙ e)
]

-- ---- the root

module _ (split : Bool) (cells : Cells) (old new : CellMarks) (root : ℕ) (unset : (at : ℕ) → old at ≡ false) where
  none_yet : old ≡ (λ at. false)
  none_yet = λ i at. unset at i

  pub root_refused : (levels : ℕ) (why : Refusal) → levels ≡ suc MOST_PATH_NAMES → RefusesKey split cells old levels root why → RefusesRoot split cells root why
  root_refused levels why e (inl h) = inl h
  root_refused levels why e (inr (inl (g, d))) = inr (inl (g, (d.0, d.1, d.2, d.3, d.4, let most = d.5 in omega (arith, most, e))))
  root_refused levels why e (inr (inr t)) = inr (inr (inl (subst (λ (m : CellMarks). HasFault (trail_in split cells) (keys_in split cells) (refusal.HiveDamaged 0 cause.BadName) (refusal.HiveDamaged 0 cause.Shared) m root why) none_yet t)))

  module _ (has : List (ℕ × List ℕ)) (levels : ℕ) (node : Entries) (l : LoadsKey split cells old new [] has levels root node) where
    loaded : Loaded (keys_in split cells) (λ at. false) new root l.parts l.below
    loaded = subst (λ (m : CellMarks). Loaded (keys_in split cells) m new root l.parts l.below) none_yet l.loaded

    pub root_loaded : levels ≡ suc MOST_PATH_NAMES → ((at : ℕ) → IsSome (descriptor_in has at) → new at ≡ false) → LoadsRoot split cells root node
    root_loaded e apart = record {
      parts = l.parts;
      below = l.below;
      whole = l.loaded.0;
      apart = settled (keys_in split cells) new root l.parts l.below loaded (λ cell i. apart cell ((l.keeps cell).1 (inr i)));
      is_node = l.is_node;
      shallow = (subst (λ (n : ℕ). IsShallow n (key root l.parts l.below none)) e l.shallow).0;
    }

    pub root_lends : (at : ℕ) → IsSome (descriptor_in has at) → new at ≡ true → (why : Refusal) → why ≡ refusal.HiveDamaged 0 cause.Shared → RefusesRoot split cells root why
    root_lends at is marked why e = inr (inr (inr (e, lent_met (keys_in split cells) (trail_in split cells) (lends_in split cells) (keys_trail split cells) (keys_lends split cells) new root l.parts l.below loaded at (by_lent ((l.keeps at).0 is)) marked)))
      where
        by_lent : IsSome (descriptor_in [] at) ⊎ IsIn at (l.parts.lent ++ lent_cells l.below) → IsIn at (l.parts.lent ++ lent_cells l.below)
        by_lent (inl h) = never h
        by_lent (inr i) = i

-- ---- the tree

module _ (bytes : List ℕ) (root minor : ℕ) (split : Bool) (is_split : split ≡ splits minor) (cells : Cells) (shows : Shows bytes cells) where
  pub refused_for : (why : Refusal) → RefusesRoot split cells root why → ShallowLoadRefused bytes root minor why
  refused_for why (inl e) = inl e
  refused_for why (inr (inl (e, d))) = inr (inl (e, (cells, shows, subst (λ (b : Bool). HasDeeperKey (keys_in b cells) root MOST_PATH_NAMES) is_split d)))
  refused_for why (inr (inr f)) = inr (inr (cells, shows, subst (λ (b : Bool). FaultIn b cells root why) is_split f))

  module _ (node : Entries) (l : LoadsRoot split cells root node) (is : IsNode node) where
    abbrev the_tree : TreeMap
    the_tree = finite.from_sorted node

    row_there : (path : List (List ℕ)) → row (finite.from_sorted node) path ≡ row_from l.parts.row l.below path
    row_there path = get-from_sorted path_order node path is.rises ∙ l.is_node path

    pub stands_for : Tiles bytes → BinsEncodeTree bytes root minor (finite.from_sorted node)
    stands_for tiles = (tiles, cells, shows, subst (λ (b : Bool). CellsEncodeTree (keys_in b cells) root (finite.from_sorted node)) is_split (l.parts, l.below, l.whole, tree_of_node l.parts l.below node is.rises l.whole.named l.is_node, l.apart))

    named_rows : (keys : Keys Row) → CellsMatchKeys (keys_in split cells) keys → Named keys → EachRow (λ r. 0 < length r.name) keys
    named_rows none fits named = tt
    named_rows (key at p below after) fits named = (has_name p.row.name (λ e. named.0 (keys_named split cells at p fits.0 ∙ ap folded e)), named_rows below fits.2 named.2, named_rows after fits.3 named.3)
      where
        has_name : (units : List ℕ) → (units ≡ [] → ⊥) → 0 < length units
        has_name [] h = absurd (h refl)
        has_name (u ∷ units) h = omega arith

    spelled_rows : HoldBytes cells → (keys : Keys Row) → CellsMatchKeys (keys_in split cells) keys → EachRow IsEncodableRow keys
    spelled_rows held none fits = tt
    spelled_rows held (key at p below after) fits = (row_spelled cells held split at p fits.0, spelled_rows held below fits.2, spelled_rows held after fits.3)

    spelled_at : HoldBytes cells → (path : List (List ℕ)) (r : Row) → row_from l.parts.row l.below path ≡ Some r → IsEncodableAt path r
    spelled_at held [] r e = record { shallow = omega arith; named = λ h. absurd (omega (arith, h)); spelled = subst IsEncodableRow (some_same l.parts.row r e) (row_spelled cells held split root l.parts l.whole.read) }
    spelled_at held (n ∷ path) r e = record {
      shallow = shallow_row MOST_PATH_NAMES l.below l.shallow (n ∷ path) r e;
      named = λ _. row_is (λ (q : Row). 0 < length q.name) l.below (named_rows l.below l.whole.fits l.whole.named) (n ∷ path) r e;
      spelled = row_is IsEncodableRow l.below (spelled_rows held l.below l.whole.fits) (n ∷ path) r e;
    }

    pub is_encodable : AreBytes bytes → IsEncodable (finite.from_sorted node)
    is_encodable bytes_are = record { rows = λ path r e. spelled_at (cells_bytes bytes cells bytes_are shows) path r (sym (row_there path) ∙ e) }

    path_short : (path : List (List ℕ)) (r : Row) → row_from l.parts.row l.below path ≡ Some r → length path ≤ MOST_PATH_NAMES
    path_short [] r e = omega arith
    path_short (n ∷ path) r e = shallow_row MOST_PATH_NAMES l.below l.shallow (n ∷ path) r e

    pub is_shallow : IsShallowTree (finite.from_sorted node)
    is_shallow = λ path r e. path_short path r (sym (row_there path) ∙ e)

-- ---- a refusal excludes trees

-- data that are refused whatever a tree weighs encode none that isn't too deep
pub excluded_shallow : (bytes : List ℕ) (root minor : ℕ) (why : Refusal) → ShallowLoadRefused bytes root minor why → why ≢ refusal.NoMemory → (tree : TreeMap) → BinsEncodeTree bytes root minor tree → IsShallowTree tree → ⊥
excluded_shallow bytes root minor why (inl e) some tree s w = some e
excluded_shallow bytes root minor why (inr (inl (e, d))) some tree s w =
    let here : CellsEncodeTree (keys_in (splits minor) d.0) root tree = subst (λ (z : Cells). CellsEncodeTree (keys_in (splits minor) z) root tree) (same_cells bytes s.1 d.0 s.2 d.1) s.3 in
    let found : (path : List (List ℕ)) × (r : Row) × (row tree path ≡ Some r) × (MOST_PATH_NAMES < length path) = deep (keys_in (splits minor) d.0) root tree here MOST_PATH_NAMES d.2 in
    let short = w found.0 found.1 found.2 in
    let long = found.3 in absurd (omega (arith, short, long))
excluded_shallow bytes root minor why (inr (inr f)) some tree s w = image_fault bytes root minor tree why f s

pub excluded : (bytes : List ℕ) (root minor : ℕ) (why : Refusal) → LoadRefused bytes root minor why → why ≢ refusal.NoMemory → (tree : TreeMap) → BinsEncodeTree bytes root minor tree → TreeIsInLimits tree → ⊥
excluded bytes root minor why (inl e) some tree s w = some e
excluded bytes root minor why (inr (inl (e, inl h))) some tree s w =
    let same : tree ≡ h.0 = one_image bytes root minor tree h.0 s h.1 in
    let heavy : MOST_WEIGHT < weight tree = subst (λ (t : TreeMap). MOST_WEIGHT < weight t) (sym same) h.2 in
    let light = w.light in absurd (omega (arith, heavy, light))
excluded bytes root minor why (inr (inl (e, inr d))) some tree s w = excluded_shallow bytes root minor why (inr (inl (e, d))) some tree s w.shallow
excluded bytes root minor why (inr (inr f)) some tree s w = excluded_shallow bytes root minor why (inr (inr f)) some tree s w.shallow

-- ---- a tree of any weight, and the limit of weight

-- what refuses data whatever a tree weighs refuses them within the limits
pub refused_too : (bytes : List ℕ) (root minor : ℕ) (why : Refusal) → ShallowLoadRefused bytes root minor why → LoadRefused bytes root minor why
refused_too bytes root minor why (inl e) = inl e
refused_too bytes root minor why (inr (inl (e, d))) = inr (inl (e, inr d))
refused_too bytes root minor why (inr (inr f)) = inr (inr f)

-- a tree that is too heavy
pub too_heavy : (bytes : List ℕ) (root minor : ℕ) (tree : TreeMap) (why : Refusal) → BinsEncodeTree bytes root minor tree → (why ≡ refusal.TooLarge) × (MOST_WEIGHT < weight tree) → LoadRefused bytes root minor why
too_heavy bytes root minor tree why stands heavy = inr (inl (heavy.0, inl (tree, stands, heavy.1)))
