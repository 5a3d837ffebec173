-- A key and the keys below it, judged or refused.
use Rattle.std.proofs.Common.{◌≡◌, ◌<◌, ◌≢◌, ◌-◌, inl, inr, ℕ, suc, Bool, false, T, List, [], ◌∷◌, ◌++◌, length, refl, ◌∙◌, ap, sym, subst, Ok, Err, Some, None, IsSome, arith, append_assoc, append-nil, Result, MatchResult, OnOk, IfErr}
use Rattle.std.specs.FinMap as finite
use Rattle.std.specs.FinMap.{get-entries, entries_sorted}
use Rattle.std.specs.FinMap.Entries.{find, is_sorted, below_all}
use Rattle.refusals.specs.declared.refusal.Refusal.{Refusal}
use Rattle.refusals.specs.declared.refusal.Refusal.TheVariants as refusal
use Rattle.refusals.specs.declared.refusal.Cause.TheVariants as cause
use Rattle.refusals.specs.declared.limits.TheConstants.{MOST_PATH_NAMES}
use Rattle.reg_names.specs.Names.{folded}
use Rattle.reg_tree_parts.specs.Orders.{path_order}
use Rattle.reg_tree_parts.specs.Rows.{Row}
use Rattle.reg_tree_parts.specs.Nodes.{Entries, root_name}
use Rattle.reg_tree_parts.proofs.SortedLists.{front_of, back_of}
use Rattle.std.specs.Ordering.{is_lt}
use Rattle.std.proofs.lemmas.List.{map-append}
use Rattle.hive_cells.specs.Bins.{Cells, Shows}
use Rattle.hive_tree_model.specs.Lists.{IsIn, Once}
use Rattle.hive_tree_model.specs.Keys.{KeyParts, KeyReader, Keys, none, key, lent_cells, names}
use Rattle.hive_tree_model.specs.Trees.{tree_of}
use Rattle.hive_tree_model.specs.Loads.{CellMarks, HasFault, Loaded}
use Rattle.hive_tree_model.specs.Encodings.{Named}
use Rattle.hive_tree_model.proofs.Basics.{some_same, some_none, in_back}
use Rattle.hive_tree_model.proofs.Loading.{ends}
use Rattle.hive_tree_model.proofs.Rows.{row_of_tree}
use Rattle.hive_tree_model.proofs.Settled.{settled}
use Rattle.hive_records.specs.KeyNodes.{key_at, keys_in, lends_in, parts_if, trail_in}
use Rattle.hive_records.specs.Follows.{Follows}
use Rattle.hive_records.specs.Images.{splits}
use Rattle.hive_records.specs.Nodes.{IsNodeOf}
use Rattle.hive_records.proofs.Keys.{keys_trail}
use Rattle.hive_load_parts.specs.Descriptors.{descriptor_in}
use Rattle.hive_load_parts.specs.PartsOfKey.{parts_at}
use Rattle.hive_load_parts.proofs.KeyTold.{key_parts, key_told}
use Rattle.hive_load_parts.proofs.Listed.{listed_names}
use Rattle.hive_load.specs.Answers.{IsShallow, LoadsKey, RefusesKey, LoadsKeys, Faults}
use Rattle.hive_load.specs.Nodes.{names_of}
use Rattle.hive_load.specs.Roots.{RefusesRoot}
use Rattle.hive_load.proofs.Levels.{keeps_joined, keys_begin, keys_on, keys_stop, key_too_deep, subkey_refused, siblings_refused}
use Rattle.hive_walk.specs.declared.errors.Fault.{Fault}
use Rattle.hive_walk.specs.declared.errors.ImageError.{ImageError}
use Rattle.hive_walk.specs.declared.errors.ImageError.TheVariants as image_error
use Rattle.hive_walk.specs.declared.siblings.Sibling.{Sibling}
use Rattle.hive_walk.specs.Errors.{IsFaultAt}
use Rattle.hive_walk.specs.Siblings.{sibling_names, LacksNames}
use Rattle.hive_walk.specs.Judgements.{IsTrueOfKey, IsTrueWhereMet, ListsSubkey, NamesLeadTo, NamesReach, StandsWithin, KeyIsRead, KeyIsUnread, KeyIsJudged, KeyIsRefused, BelowIsRefused, KeysAreJudged, KeysAreRefused, PartIsRefused, PartRefused, ImageRefused}
use Rattle.hive_walk.specs.Walks.{PartIsSound}

-- ---- the entries of a tree of keys

-- no path in entries that rise above a name is the root's
no_root : (n : List ℕ) (path : List (List ℕ)) (es : Entries) → T (below_all path_order (n ∷ path) es) → find path_order [] es ≡ None
no_root n path [] h = refl
no_root n path (([], row) ∷ es) h = absurd (front_of (is_lt (path_order (n ∷ path) [])) (below_all path_order (n ∷ path) es) h)
no_root n path ((m ∷ other, row) ∷ es) h = no_root n path es (back_of (is_lt (path_order (n ∷ path) (m ∷ other))) (below_all path_order (n ∷ path) es) h)

-- the first of entries that rise is the root's, if it is there
pub first_root : (es : Entries) (row : Row) → T (is_sorted path_order es) → find path_order [] es ≡ Some row → (others : Entries) × (es ≡ ([], row) ∷ others)
first_root [] row h e = some_none row e
first_root (([], other) ∷ es) row h e = (es, λ i. ([], some_same other row e i) ∷ es)
first_root ((n ∷ path, other) ∷ es) row h e = some_none row (sym (no_root n path es (front_of (below_all path_order (n ∷ path) es) (is_sorted path_order es) h)) ∙ e)

-- the entries of a key and of those below it have their rows
pub entries_rows : (parts : KeyParts Row) (below : Keys Row) → Named below → IsNodeOf (finite.entries (tree_of parts below)) parts below
entries_rows parts below named path = sym (get-entries (tree_of parts below) path) ∙ row_of_tree parts below named path

-- ---- single steps

-- a refusal that is true of a key is true of it where a fault says so
met_there : (reads : KeyReader Row Refusal) (path : List (List ℕ)) (at : ℕ) (why : Refusal) (fault : Fault) → fault.refusal ≡ why → fault.at ≡ at → fault.path.items ≡ path → IsTrueOfKey reads path at why → IsTrueWhereMet reads fault
met_there reads path at why fault r a p h =
    subst (λ (z : List (List ℕ)). IsTrueOfKey reads z fault.at fault.refusal) (sym p)
    (subst (λ (z : ℕ). IsTrueOfKey reads path z fault.refusal) (sym a) (subst (λ (z : Refusal). IsTrueOfKey reads path at z) (sym r) h))

pub read_refused : (split : Bool) (cells : Cells) (at : ℕ) (old new : CellMarks) (why : Refusal) (above : List (List ℕ)) (error : ImageError) → Follows (key_at split at) cells old new (Err why) → IsFaultAt above at why error → KeyIsUnread split cells old at above error
read_refused split cells at old new why above image_error.NoMemory h is = tt
read_refused split cells at old new why above (image_error.Fault fault) h is = elim (key_told split cells at old new why h) [
  | inl e ↦ absurd (is.0 e)
  | inr t ↦ (
    λ e. is.0 (sym is.1 ∙ e),
    subst (λ (r : Refusal). Faults split cells old at r) (sym is.1) t,
    is.2,
    is.3,
    met_there (keys_in split cells) above at why fault is.1 is.2 is.3 (unread h),
  )
]
  where
    unread : Follows (key_at split at) cells old new (Err why) → IsTrueOfKey (keys_in split cells) above at why
    unread (inl e) = absurd (is.0 e)
    unread (inr (inl e)) = inl (ap (parts_if (key_at split at cells).own (key_at split at cells).lent) e)
    unread (inr (inr e)) = inr (inr (inr e.0))

-- a key that can't be read
pub unread_refused : (split : Bool) (cells : Cells) (at levels : ℕ) (old : CellMarks) (above : List (List ℕ)) (error : ImageError) → KeyIsUnread split cells old at above error → KeyIsRefused split cells old levels at above error
unread_refused split cells at levels old above image_error.NoMemory h = tt
unread_refused split cells at levels old above (image_error.Fault fault) h = (h.0, inr (inr h.1), [], h.3 ∙ sym (append-nil above), sym h.2, h.4)

-- names that lead from a subkey on lead from its parent on
pub lead_on : (split : Bool) (cells : Cells) (at subkey : ℕ) (names : List (List ℕ)) (to : ℕ) → ListsSubkey (keys_in split cells) at subkey → NamesReach (keys_in split cells) subkey names to → NamesLeadTo (keys_in split cells) at names to
lead_on split cells at subkey [] to lists reach = inr (subst (λ (n : ℕ). ListsSubkey (keys_in split cells) at n) reach lists)
lead_on split cells at subkey (name ∷ names) to lists reach = (subkey, reach.0, lists, reach.1, reach.2, reach.3)

module _ (split : Bool) (cells : Cells) (at : ℕ) (old mid : CellMarks) (had between : List (ℕ × List ℕ)) (name : List ℕ) (subkey_list : List ℕ) (read : KeyIsRead split cells old mid had between at name subkey_list) where
  abbrev its : KeyParts Row
  its = parts_at split cells at read.0 subkey_list

  reads_so : keys_in split cells at ≡ Ok (parts_at split cells at read.0 subkey_list)
  reads_so = (key_parts split cells at old mid read.0 subkey_list read.2).0

  -- a fault of the key itself
  fault_here : (levels : ℕ) (why : Refusal) (path : List (List ℕ)) (error : ImageError) → RefusesKey split cells old levels at why → IsTrueOfKey (keys_in split cells) path at why → IsFaultAt path at why error → BelowIsRefused split cells old levels at path error
  fault_here levels why path image_error.NoMemory h met is = tt
  fault_here levels why path (image_error.Fault fault) h met is = (
    λ e. is.0 (sym is.1 ∙ e),
    subst (λ (r : Refusal). RefusesKey split cells old levels at r) (sym is.1) h,
    [],
    is.3 ∙ sym (append-nil path),
    inl (sym is.2),
    met_there (keys_in split cells) path at why fault is.1 is.2 is.3 met,
  )

  pub deep_refused : (levels : ℕ) (path : List (List ℕ)) (error : ImageError) → levels ≡ 0 → MOST_PATH_NAMES < length path → IsFaultAt path at refusal.TooLarge error → BelowIsRefused split cells old levels at path error
  deep_refused levels path error e long is = fault_here levels refusal.TooLarge path error (subst (λ (n : ℕ). RefusesKey split cells old n at refusal.TooLarge) (sym e) (key_too_deep split cells at old mid read.0 subkey_list read.2)) (inr (inl (refl, long))) is

  pub below_refused : (below levels : ℕ) (path : List (List ℕ)) (error : ImageError) → suc below ≡ levels → KeysAreRefused split cells mid below subkey_list path error → BelowIsRefused split cells old levels at path error
  below_refused below levels path image_error.NoMemory more h = tt
  below_refused below levels path (image_error.Fault fault) more h = (
    h.0,
    subst (λ (n : ℕ). RefusesKey split cells old n at fault.refusal) more (subkey_refused split cells at old mid read.0 subkey_list read.2 (keys_trail split cells) below fault.refusal h.1),
    h.2,
    h.3,
    lead_on split cells at h.4 h.2 fault.at (parts_at split cells at read.0 subkey_list, reads_so, h.5) h.6,
    h.7,
  )

  pub key_refused : (levels : ℕ) (above : List (List ℕ)) (error : ImageError) → BelowIsRefused split cells old levels at (above ++ name ∷ []) error → KeyIsRefused split cells old levels at above error
  key_refused levels above image_error.NoMemory h = tt
  key_refused levels above (image_error.Fault fault) h = (h.0, h.1, name ∷ h.2, h.3 ∙ append_assoc above (name ∷ []) h.2, (parts_at split cells at read.0 subkey_list, reads_so, read.1, h.4), h.5)

  module _ (new : CellMarks) (has : List (ℕ × List ℕ)) (below levels : ℕ) (siblings : List Sibling) (more : suc below ≡ levels) (judged : KeysAreJudged split cells mid new between has below subkey_list siblings) where
    l : LoadsKeys split cells mid new between has below subkey_list judged.0
    l = judged.1

    named : names_of judged.0 ≡ names l.keys
    named = listed_names judged.0 l.keys l.are_nodes

    pub key_judged : Once (sibling_names siblings) → (IsIn [] (sibling_names siblings) → ⊥) → KeyIsJudged split cells old new had has levels at name
    key_judged once some =
        let same : sibling_names siblings ≡ names l.keys = sym judged.2 ∙ named in
        let loaded : Loaded (keys_in split cells) old new at (parts_at split cells at read.0 subkey_list) l.keys = ends (keys_in split cells) old mid new at (parts_at split cells at read.0 subkey_list) l.keys reads_so
        (key_parts split cells at old mid read.0 subkey_list read.2).1 l.loading l.are_listed
        (subst (λ (z : List (List ℕ)). Once z) same once) (subst (λ (z : List (List ℕ)). IsIn [] z → ⊥) same some) in
        let rows : IsNodeOf (finite.entries (tree_of (parts_at split cells at read.0 subkey_list) l.keys)) (parts_at split cells at read.0 subkey_list) l.keys = entries_rows (parts_at split cells at read.0 subkey_list) l.keys loaded.0.named in
        let root : root_name (finite.entries (tree_of (parts_at split cells at read.0 subkey_list) l.keys)) ≡ folded (read.0).name = ap root_name (first_root (finite.entries (tree_of (parts_at split cells at read.0 subkey_list) l.keys)) read.0 (entries_sorted (tree_of (parts_at split cells at read.0 subkey_list) l.keys)) (rows [])).1 in (
          finite.entries (tree_of (parts_at split cells at read.0 subkey_list) l.keys),
          subst (λ (n : ℕ). LoadsKey split cells old new had has n at (finite.entries (tree_of (parts_at split cells at read.0 subkey_list) l.keys))) more (record {
            parts = parts_at split cells at read.0 subkey_list;
            below = l.keys;
            loaded = loaded;
            is_node = rows;
            named = root;
            shallow = (l.shallow, tt);
            keeps = keeps_joined had between has (lends_in split cells at) (lent_cells l.keys) read.3 l.keeps;
          }),
          root ∙ ap folded read.1,
        )

    pub names_refused : (path : List (List ℕ)) (why : Refusal) (error : ImageError) → why ≡ refusal.HiveDamaged 0 cause.BadName → LacksNames (sibling_names siblings) → IsFaultAt path at why error → BelowIsRefused split cells old levels at path error
    names_refused path why error e lacks is = fault_here levels why path error
        (subst (λ (n : ℕ). RefusesKey split cells old n at why) more (siblings_refused split cells at old mid read.0 subkey_list read.2 new between has below judged.0 why l
        (inr (e, subst LacksNames (sym judged.2) lacks))))
        (inr (inr (inl (e, (parts_at split cells at read.0 subkey_list, l.keys, reads_so, l.are_listed, l.loading.fits, subst LacksNames (sym judged.2 ∙ named) lacks)))))
        is

-- ---- keys one after another

module _ (split : Bool) (cells : Cells) (old : CellMarks) (had : List (ℕ × List ℕ)) (levels : ℕ) where
  pub none_judged : KeysAreJudged split cells old old had had levels [] []
  none_judged = ([], keys_begin split cells old had levels, refl)

  pub one_judged : (mid new : CellMarks) (between has : List (ℕ × List ℕ)) (listed : List ℕ) (siblings : List Sibling) (at : ℕ) (sibling : Sibling) → KeysAreJudged split cells old mid had between levels listed siblings → KeyIsJudged split cells mid new between has levels at sibling.name → KeysAreJudged split cells old new had has levels (listed ++ at ∷ []) (siblings ++ sibling ∷ [])
  one_judged mid new between has listed siblings at sibling h k = (
    h.0 ++ (root_name k.0, k.0) ∷ [],
    keys_on split cells old had levels mid new between has listed h.0 at k.0 h.1 k.1,
    map-append (λ (n : List ℕ × Entries). n.0) h.0 ((root_name k.0, k.0) ∷ []) ∙ (λ i. h.2 i ++ k.2 i ∷ []) ∙ sym (map-append (λ (s : Sibling). folded s.name) siblings (sibling ∷ [])),
  )

  pub one_refused : (mid : CellMarks) (between : List (ℕ × List ℕ)) (first rest : List ℕ) (siblings : List Sibling) (at : ℕ) (above : List (List ℕ)) (error : ImageError) → KeysAreJudged split cells old mid had between levels first siblings → KeyIsRefused split cells mid levels at above error → KeysAreRefused split cells old levels (first ++ at ∷ rest) above error
  one_refused mid between first rest siblings at above image_error.NoMemory h k = tt
  one_refused mid between first rest siblings at above (image_error.Fault fault) h k = (
    k.0,
    keys_stop split cells old had levels mid between first rest h.0 at fault.refusal h.1 k.1,
    k.2,
    k.3,
    at,
    in_back at first (at ∷ rest) (inl refl),
    k.4,
    k.5,
  )

-- ---- a part

module _ (split : Bool) (cells : Cells) (old new : CellMarks) (at : ℕ) (unset : (cell : ℕ) → old cell ≡ false) where
  none_yet : old ≡ (λ cell. false)
  none_yet = λ i cell. unset cell i

  stands_within : (levels most : ℕ) (why : Refusal) → levels ≡ suc most → why ≢ refusal.NoMemory → RefusesKey split cells old levels at why → StandsWithin most split cells at why
  stands_within levels most why e some (inl h) = absurd (some h)
  stands_within levels most why e some (inr (inl (g, d))) = inl (g, (d.0, d.1, d.2, d.3, d.4, let far = d.5 in omega (arith, far, e)))
  stands_within levels most why e some (inr (inr t)) = inr (inl (subst (λ (m : CellMarks). HasFault (trail_in split cells) (keys_in split cells) (refusal.HiveDamaged 0 cause.BadName) (refusal.HiveDamaged 0 cause.Shared) m at why) none_yet t))

  lent_stands : (most : ℕ) (why : Refusal) → why ≡ refusal.HiveDamaged 0 cause.Shared → RefusesRoot split cells at why → StandsWithin most split cells at why
  lent_stands most why e (inl n) = absurd (let no : ⊥ = cc in no)
  lent_stands most why e (inr (inl (g, d))) = absurd (let no : ⊥ = cc in no)
  lent_stands most why e (inr (inr f)) = inr f

  module _ (path : List (List ℕ)) (most : ℕ) where
    pub part_unread : (error : ImageError) → KeyIsUnread split cells old at path error → PartIsRefused split cells most path at error
    part_unread image_error.NoMemory h = tt
    part_unread (image_error.Fault fault) h = (stands_within (suc most) most fault.refusal refl h.0 (inr (inr h.1)), [], h.3 ∙ sym (append-nil path), inl (sym h.2), h.4)

    pub part_below : (levels : ℕ) (error : ImageError) → levels ≡ suc most → BelowIsRefused split cells old levels at path error → PartIsRefused split cells most path at error
    part_below levels image_error.NoMemory e h = tt
    part_below levels (image_error.Fault fault) e h = (stands_within levels most fault.refusal e h.0 h.1, h.2, h.3, h.4, h.5)

    pub part_lent : (why : Refusal) (error : ImageError) → why ≡ refusal.HiveDamaged 0 cause.Shared → RefusesRoot split cells at why → IsFaultAt path at why error → PartIsRefused split cells most path at error
    part_lent why image_error.NoMemory e h is = tt
    part_lent why (image_error.Fault fault) e h is = (
      subst (λ (r : Refusal). StandsWithin most split cells at r) (sym is.1) (lent_stands most why e h),
      [],
      is.3 ∙ sym (append-nil path),
      inl (sym is.2),
      met_there (keys_in split cells) path at why fault is.1 is.2 is.3 (inr (inr (inr e))),
    )

    pub part_sound : (has : List (ℕ × List ℕ)) (levels : ℕ) (node : Entries) → LoadsKey split cells old new [] has levels at node → levels ≡ suc most → ((cell : ℕ) → IsSome (descriptor_in has cell) → new cell ≡ false) → PartIsSound split cells most at
    part_sound has levels node l e apart =
        let loaded : Loaded (keys_in split cells) (λ cell. false) new at l.parts l.below = subst (λ (m : CellMarks). Loaded (keys_in split cells) m new at l.parts l.below) none_yet l.loaded in (
          l.parts,
          l.below,
          record {
            whole = l.loaded.0;
            apart = settled (keys_in split cells) new at l.parts l.below loaded (λ cell i. apart cell ((l.keeps cell).1 (inr i)));
            shallow = (subst (λ (n : ℕ). IsShallow n (key at l.parts l.below none)) e l.shallow).0;
          },
        )

-- ---- an image

module _ (bytes : List ℕ) (at minor : ℕ) (split : Bool) (is : split ≡ splits minor) (levels : ℕ) (path : List (List ℕ)) where
  pub image_judged : {X : Type 0} (result : Result X ImageError) → ((cells : Cells) → Shows bytes cells → MatchResult result (λ _. PartIsSound split cells levels at) (λ error. PartIsRefused split cells levels path at error)) →
      OnOk result ((cells : Cells) → Shows bytes cells → PartIsSound (splits minor) cells levels at)
  image_judged (Ok x) h = λ cells shows. subst (λ (b : Bool). PartIsSound b cells levels at) is (h cells shows)
  image_judged (Err error) h = tt

  pub image_refused : {X : Type 0} (result : Result X ImageError) → ((cells : Cells) → Shows bytes cells → MatchResult result (λ _. PartIsSound split cells levels at) (λ error. PartIsRefused split cells levels path at error)) →
      (cells : Cells) → Shows bytes cells → IfErr result (λ error. (cells : Cells) × Shows bytes cells × PartIsRefused (splits minor) cells levels path at error)
  image_refused (Ok x) h cells shows = tt
  image_refused (Err error) h cells shows = (cells, shows, subst (λ (b : Bool). PartIsRefused b cells levels path at error) is (h cells shows))

-- what refuses an image as a part, to which no name leads, refuses it
pub whole_refused : (bytes : List ℕ) (root minor : ℕ) (error : ImageError) → (cells : Cells) × Shows bytes cells × PartIsRefused (splits minor) cells MOST_PATH_NAMES [] root error → ImageRefused bytes root minor error
whole_refused bytes root minor image_error.NoMemory h = tt
whole_refused bytes root minor (image_error.Fault fault) h = (h.0, h.1, h.2.0, subst (λ (names : List (List ℕ)). NamesLeadTo (keys_in (splits minor) h.0) root names fault.at) (sym h.2.2) h.2.3, h.2.4)

-- what refuses a part as one on so many levels as its path has names left refuses it
pub part_refused : (bytes : List ℕ) (at minor levels : ℕ) (path : List (List ℕ)) (error : ImageError) → levels ≡ MOST_PATH_NAMES - length path → (cells : Cells) × Shows bytes cells × PartIsRefused (splits minor) cells levels path at error → PartRefused bytes at minor path error
part_refused bytes at minor levels path image_error.NoMemory e h = tt
part_refused bytes at minor levels path (image_error.Fault fault) e h = (h.0, h.1, subst (λ (n : ℕ). StandsWithin n (splits minor) h.0 at fault.refusal) e h.2.0, h.2.1, h.2.2, h.2.3, h.2.4)
