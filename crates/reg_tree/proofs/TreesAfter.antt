-- The tree after an operation has the rows that the operation says, at every path.
use Rattle.std.proofs.Common.{◌≡◌, ℕ, ◌-◌, Bool, true, false, ◌&&◌, ◌||◌, ◌⊎◌, inl, inr, cond, List, [], ◌∷◌, ◌++◌, length, take, map, Option, Some, None, IsSome, is_some, refl, sym, ◌∙◌, ap, subst, arith}
use Rattle.std.specs.Prelude.{nat_lt, slice_index_or}
use Rattle.std.specs.List.{list_any, filter_map, cons_option}
use Rattle.std.proofs.lemmas.Bool.{and_parts}
use Rattle.std.proofs.lemmas.Bool.Decides.{nat_tests}
use Rattle.std.specs.Ordering.{eq_by_cmp}
use Rattle.std.specs.Option.{option_map}
use Rattle.std.specs.FinMap as finite
use Rattle.std.specs.FinMap.{get-from_entries, contains_key-keys, same_map}
use Rattle.std.specs.FinMap.Entries.{find}
use Rattle.std.proofs.lemmas.List.Folds.{list_any-append}
use mathlib.Core.Bool.{false≢true}
use Rattle.reg_names.specs.Names.{folded_path}
use Rattle.reg_tree_parts.specs.Orders.{name_order, path_order}
use Rattle.reg_tree_parts.specs.Rows.{Row}
use Rattle.reg_tree_parts.specs.NewRows.{new_row}
use Rattle.reg_tree_parts.specs.ValueEdits.{values_with, values_without}
use Rattle.reg_tree_parts.specs.Nodes.{Entries, begins_path, one_below, IsNode, row_at}
use Rattle.reg_tree_parts.proofs.Keys.{paths_total, paths_apart}
use Rattle.reg_tree.specs.Maps.{TreeMap, row, beginnings}
use Rattle.reg_tree.specs.Operations.{touched, depth_there, descriptor_of, row_created, row_deleted, row_edited, row_after, tree_of, tree_after}
use Rattle.reg_tree.specs.declared.op.Op.{Op}
use Rattle.reg_tree.specs.declared.op.Op.TheVariants.{CreateKey, DeleteKey, SetValue, DeleteValue}
use Rattle.reg_tree.proofs.Paths.{same_front, told, eq_is, eq_self, same_name}
use Rattle.reg_tree.proofs.Rows.{row_is}

-- nothing, whichever is chosen
either : (c : Bool) (o : Option Row) → o ≡ None → cond c o None ≡ None
either true o e = e
either false o e = refl

-- one more path, with the row that it has, if any
step : (q p : List (List ℕ)) (b : Bool) → eq_by_cmp path_order q p ≡ b → (o : Option Row) (es : Entries) (target : Option Row) (c : Bool) → (b ≡ true → target ≡ o) → find path_order q es ≡ cond c target None
    → find path_order q (cons_option (option_map (λ key. (p, key)) o) es) ≡ cond (b || c) target None
step q p true e None es target c is rest = rest ∙ either c target (is refl) ∙ sym (is refl)
step q p false e None es target c is rest = rest
step q p true e (Some key) es target c is rest = ap (λ b. cond b (Some key) (find path_order q es)) e ∙ sym (is refl)
step q p false e (Some key) es target c is rest = ap (λ b. cond b (Some key) (find path_order q es)) e ∙ rest

-- what is found among rows listed at paths is the row at the path, if the path is listed
found_listed : (rows : List (List ℕ) → Option Row) (q : List (List ℕ)) (paths : List (List (List ℕ))) → find path_order q (filter_map (λ path. option_map (λ key. (path, key)) (rows path)) paths) ≡ cond (list_any (eq_by_cmp path_order q) paths) (rows q) None
found_listed rows q [] = refl
found_listed rows q (p ∷ paths) =
    step q p (eq_by_cmp path_order q p) refl (rows p) _ (rows q) (list_any (eq_by_cmp path_order q) paths) (λ e. ap rows (eq_is q p e)) (found_listed rows q paths)

-- a tree of rows has them all, if each row's path is listed
pub row-tree_of : (rows : List (List ℕ) → Option Row) (paths : List (List (List ℕ))) (q : List (List ℕ)) → (IsSome (rows q) → list_any (eq_by_cmp path_order q) paths ≡ true) → row (tree_of rows paths) q ≡ rows q
row-tree_of rows paths q listed =
    get-from_entries paths_total _ q ∙ found_listed rows q paths ∙ by_case (rows q) refl
  where
    by_case : (o : Option Row) → rows q ≡ o → cond (list_any (eq_by_cmp path_order q) paths) (rows q) None ≡ rows q
    by_case None e = either (list_any (eq_by_cmp path_order q) paths) (rows q) e ∙ sym e
    by_case (Some key) e = ap (λ b. cond b (rows q) None) (listed (ap is_some e))

-- a path that begins another, and has a name, is among its beginnings
among_beginnings : (m : List ℕ) (q p : List (List ℕ)) → begins_path (m ∷ q) p ≡ true → list_any (eq_by_cmp path_order (m ∷ q)) (beginnings p) ≡ true
among_beginnings m q [] on = absurd (false≢true on)
among_beginnings m [] (n ∷ p) on =
    let parts = and_parts (eq_by_cmp name_order n m) true on in
    ap (λ x. eq_by_cmp path_order (x ∷ []) (n ∷ []) || list_any (eq_by_cmp path_order (m ∷ [])) (map (λ rest. n ∷ rest) (beginnings p))) (sym (same_name n m parts.0))
    ∙ ap (λ b. b || list_any (eq_by_cmp path_order (m ∷ [])) (map (λ rest. n ∷ rest) (beginnings p))) (eq_self (n ∷ []))
among_beginnings m (k ∷ q) (n ∷ p) on =
    let parts = and_parts (eq_by_cmp name_order n m) (begins_path (k ∷ q) p) on in
    ap (λ b. eq_by_cmp path_order (m ∷ k ∷ q) (n ∷ []) || b) (any_map (same_name n m parts.0) (beginnings p) ∙ among_beginnings k q p parts.1) ∙ or_true (eq_by_cmp path_order (m ∷ k ∷ q) (n ∷ []))
  where
    or_true : (b : Bool) → (b || true) ≡ true
    or_true true = refl
    or_true false = refl

    any_map : n ≡ m → (xs : List (List (List ℕ))) → list_any (eq_by_cmp path_order (m ∷ k ∷ q)) (map (λ rest. n ∷ rest) xs) ≡ list_any (eq_by_cmp path_order (k ∷ q)) xs
    any_map same [] = refl
    any_map same (x ∷ xs) = ap (λ b. b || list_any (eq_by_cmp path_order (m ∷ k ∷ q)) (map (λ rest. n ∷ rest) xs)) (ap (λ y. eq_by_cmp path_order (m ∷ k ∷ q) (y ∷ x)) same ∙ same_front (m ∷ []) (k ∷ q) x) ∙ ap (λ b. eq_by_cmp path_order (k ∷ q) x || b) (any_map same xs)

module _ (tree : TreeMap) where
  -- a path with a row is among the keys
  was_listed : (more : List (List (List ℕ))) (q : List (List ℕ)) → IsSome (row tree q) → list_any (eq_by_cmp path_order q) (finite.keys tree ++ more) ≡ true
  was_listed more q there = list_any-append (eq_by_cmp path_order q) (finite.keys tree) more ∙ ap (λ b. b || list_any (eq_by_cmp path_order q) more) (sym (contains_key-keys tree q) ∙ there)

  new_listed : (p q : List (List ℕ)) → list_any (eq_by_cmp path_order q) (beginnings p) ≡ true → list_any (eq_by_cmp path_order q) (finite.keys tree ++ beginnings p) ≡ true
  new_listed p q on = list_any-append (eq_by_cmp path_order q) (finite.keys tree) (beginnings p) ∙ ap (λ b. list_any (eq_by_cmp path_order q) (finite.keys tree) || b) on ∙ or_true (list_any (eq_by_cmp path_order q) (finite.keys tree))
    where
      or_true : (b : Bool) → (b || true) ≡ true
      or_true true = refl
      or_true false = refl

  some_map : {A B : Type 0} (f : A → B) (o : Option A) → IsSome (option_map f o) → IsSome o
  some_map f None there = there
  some_map f (Some x) there = refl

  edited_listed : (edit : Row → Row) (p : List (List ℕ)) (moment : ℕ) (q : List (List ℕ)) → IsSome (row_edited edit tree p moment q) → list_any (eq_by_cmp path_order q) (finite.keys tree ++ beginnings p) ≡ true
  edited_listed edit p moment q there = was_listed (beginnings p) q (by_case (eq_by_cmp path_order q p) there)
    where
      by_case : (b : Bool) → IsSome (cond b (option_map (λ key. touched moment (edit key)) (row tree q)) (row tree q)) → IsSome (row tree q)
      by_case true there = some_map _ (row tree q) there
      by_case false there = there

  deleted_listed : (p : List (List ℕ)) (moment : ℕ) (q : List (List ℕ)) → IsSome (row_deleted tree p moment q) → list_any (eq_by_cmp path_order q) (finite.keys tree ++ beginnings p) ≡ true
  deleted_listed p moment q there = was_listed (beginnings p) q (by_case (eq_by_cmp path_order q p) (one_below q p) there)
    where
      by_case : (a b : Bool) → IsSome (cond a None (cond b (option_map (touched moment) (row tree q)) (row tree q))) → IsSome (row tree q)
      by_case true b there = absurd (false≢true there)
      by_case false true there = some_map _ (row tree q) there
      by_case false false there = there

  created_listed : (spelled : List (List ℕ)) (moment : ℕ) (q : List (List ℕ)) → IsSome (row_created tree spelled moment q) → list_any (eq_by_cmp path_order q) (finite.keys tree ++ beginnings (folded_path spelled)) ≡ true
  created_listed spelled moment q there =
      by_case (eq_by_cmp path_order q (take (depth_there tree (folded_path spelled)) (folded_path spelled))) q (told (begins_path q (folded_path spelled))) (told (nat_lt (depth_there tree (folded_path spelled)) (length q))) there
    where
      by_case : (a : Bool) (q : List (List ℕ)) → (begins_path q (folded_path spelled) ≡ true) ⊎ (begins_path q (folded_path spelled) ≡ false) → (nat_lt (depth_there tree (folded_path spelled)) (length q) ≡ true) ⊎ (nat_lt (depth_there tree (folded_path spelled)) (length q) ≡ false)
          → IsSome (cond a (option_map (touched moment) (row tree q)) (cond (begins_path q (folded_path spelled) && nat_lt (depth_there tree (folded_path spelled)) (length q)) (Some (new_row (slice_index_or spelled (length q - 1) []) (descriptor_of (row tree (take (depth_there tree (folded_path spelled)) (folded_path spelled)))) moment)) (row tree q)))
          → list_any (eq_by_cmp path_order q) (finite.keys tree ++ beginnings (folded_path spelled)) ≡ true
      by_case true q on lt there = was_listed (beginnings (folded_path spelled)) q (some_map _ (row tree q) there)
      by_case false [] on (inl lt) there = absurd (grind (arith, nat_tests))
      by_case false (m ∷ q) (inl on) (inl lt) there = new_listed (folded_path spelled) (m ∷ q) (among_beginnings m q (folded_path spelled) on)
      by_case false q (inr off) lt there = was_listed (beginnings (folded_path spelled)) q (subst (λ b. IsSome (cond (b && nat_lt (depth_there tree (folded_path spelled)) (length q)) (Some (new_row (slice_index_or spelled (length q - 1) []) (descriptor_of (row tree (take (depth_there tree (folded_path spelled)) (folded_path spelled)))) moment)) (row tree q))) off there)
      by_case false q (inl on) (inr le) there = was_listed (beginnings (folded_path spelled)) q (subst (λ b. IsSome (cond b (Some (new_row (slice_index_or spelled (length q - 1) []) (descriptor_of (row tree (take (depth_there tree (folded_path spelled)) (folded_path spelled)))) moment)) (row tree q))) (ap (λ b. b && nat_lt (depth_there tree (folded_path spelled)) (length q)) on ∙ le) there)

  -- the tree after an operation has the rows that the operation says
  pub row-tree_after : (op : Op) (moment : ℕ) (q : List (List ℕ)) → row (tree_after tree op moment) q ≡ row_after tree op moment q
  row-tree_after (CreateKey hive spelled) moment q = row-tree_of _ _ q (created_listed spelled moment q)
  row-tree_after (DeleteKey hive spelled) moment q = row-tree_of _ _ q (deleted_listed (folded_path spelled) moment q)
  row-tree_after (SetValue hive spelled name kind bytes) moment q = row-tree_of _ _ q (edited_listed (λ key. record key { values = values_with key.values name kind bytes }) (folded_path spelled) moment q)
  row-tree_after (DeleteValue hive spelled name) moment q = row-tree_of _ _ q (edited_listed (λ key. record key { values = values_without key.values name }) (folded_path spelled) moment q)

  -- so entries with those rows model it
  pub made_is : (made : Entries) → IsNode made → (op : Op) (moment : ℕ) → ((q : List (List ℕ)) → row_at made q ≡ row_after tree op moment q) → finite.from_sorted {R = path_order} made ≡ tree_after tree op moment
  made_is made node op moment rows = same_map paths_total paths_apart _ _ (λ q. row_is made node q ∙ rows q ∙ sym (row-tree_after op moment q))
