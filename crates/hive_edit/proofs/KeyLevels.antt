-- A creation of several levels is creations of one level each, from the top down.
use Rattle.std.proofs.Common.{◌≡◌, ◌⊎◌, inl, inr, ℕ, ◌+◌, ◌-◌, ◌<◌, ◌≤◌, Bool, true, false, ◌&&◌, cond, List, [], ◌∷◌, ◌++◌, length, take, Option, Some, None, IsSome, is_some, refl, sym, ◌∙◌, ap, subst, append-nil, append_assoc, arith}
use Rattle.std.specs.Prelude.{nat_lt, slice_index_or}
use Rattle.std.specs.FinMap.{same_map}
use Rattle.std.specs.Ordering.{eq_by_cmp}
use Rattle.std.specs.Option.{option_map}
use Rattle.std.proofs.lemmas.Bool.Decides.{nat_tests}
use Rattle.std.proofs.lemmas.List.{length-append, length-map, map-append, get_or_append_left}
use Rattle.std.proofs.Math.Seq.{take-append_seam}
use mathlib.Core.Bool.{false≢true}
use Rattle.reg_names.specs.Names.{folded, folded_path}
use Rattle.reg_tree_parts.specs.Orders.{name_order, path_order}
use Rattle.reg_tree_parts.specs.Rows.{Row}
use Rattle.reg_tree_parts.specs.NewRows.{new_row}
use Rattle.reg_tree_parts.specs.Nodes.{begins_path}
use Rattle.reg_tree_parts.proofs.Keys.{paths_total, paths_apart}
use Rattle.reg_tree.specs.Maps.{TreeMap, row, missing, IsTree}
use Rattle.reg_tree.specs.Operations.{touched, depth_there, tree_after}
use Rattle.reg_tree.specs.declared.op.Op.TheVariants.{CreateKey}
use Rattle.reg_tree.proofs.Changes.{created_is, one_more, longer_path}
use Rattle.reg_tree.proofs.Depths.{levels_missing, beginning_there}
use Rattle.reg_tree.proofs.Paths.{told, eq_is, eq_self, begins-append, longer_apart}
use Rattle.reg_tree.proofs.TreesAfter.{row-tree_after}

-- rows at paths
abbrev Rows : Type 0
Rows = List (List ℕ) → Option Row

-- the row that a creation leaves at a path: the key at the start is written, and there are new keys from it to the end
-- of the whole path
abbrev pub made : Option Row → List (List ℕ) → List (List ℕ) → List (List ℕ) → List ℕ → ℕ → Rows
made old start whole spelled descriptor moment q =
    cond (eq_by_cmp path_order q start) (option_map (touched moment) old)
    (cond (begins_path q whole && nat_lt (length start) (length q)) (Some (new_row (slice_index_or spelled (length q - 1) []) descriptor moment)) old)

less_told : (m n : ℕ) → m < n → nat_lt m n ≡ true
less_told m n h = grind (arith, nat_tests, h)

and_false : (b : Bool) → (b && false) ≡ false
and_false true = refl
and_false false = refl

-- a path that is no longer than another begins it if it begins what the other begins
begins_within : (q p s : List (List ℕ)) → length q ≤ length p → begins_path q (p ++ s) ≡ begins_path q p
begins_within [] p s short = refl
begins_within (m ∷ q) [] s short = absurd (omega (arith, short))
begins_within (m ∷ q) (n ∷ p) s short = ap (λ b. eq_by_cmp name_order n m && b) (begins_within q p s (omega (arith, short)))

-- a longer path begins no shorter one
begins_longer : (q p : List (List ℕ)) → length p < length q → begins_path q p ≡ false
begins_longer [] p long = absurd (omega (arith, long))
begins_longer (m ∷ q) [] long = refl
begins_longer (m ∷ q) (n ∷ p) long = ap (λ b. eq_by_cmp name_order n m && b) (begins_longer q p (omega (arith, long))) ∙ and_false (eq_by_cmp name_order n m)

-- new keys along a path, and then one more below them, are new keys along the longer path
module _ (rows : Rows) (start below spelled : List (List ℕ)) (first last name descriptor : List ℕ) (moment : ℕ) (even : length (start ++ first ∷ below) ≡ length spelled) where
  abbrev whole : List (List ℕ)
  whole = start ++ first ∷ below

  abbrev mid : Rows
  mid q = made (rows q) start whole spelled descriptor moment q

  abbrev twice : Rows
  twice q = made (mid q) whole (whole ++ last ∷ []) (spelled ++ name ∷ []) descriptor moment q

  abbrev once : Rows
  once q = made (rows q) start (whole ++ last ∷ []) (spelled ++ name ∷ []) descriptor moment q

  longer : length start < length whole
  longer = let l : length whole ≡ length start + length (first ∷ below) = length-append start (first ∷ below) in omega (arith, l)

  kept_name : (i : ℕ) → i < length whole → slice_index_or (spelled ++ name ∷ []) i [] ≡ slice_index_or spelled i []
  kept_name i less = get_or_append_left spelled (name ∷ []) [] i (omega (arith, less, even))

  pub new_key : Row
  new_key = new_row (slice_index_or spelled (length whole - 1) []) descriptor moment

  pub mid_end : mid whole ≡ Some new_key
  unfolding new_key
  mid_end =
      ap (λ b. cond b (option_map (touched moment) (rows whole)) (cond (begins_path whole whole && nat_lt (length start) (length whole)) (Some new_key) (rows whole))) (longer_apart start first below)
      ∙ ap (λ b. cond (b && nat_lt (length start) (length whole)) (Some new_key) (rows whole)) (ap (begins_path whole) (sym (append-nil whole)) ∙ begins-append whole [])
      ∙ ap (λ b. cond b (Some new_key) (rows whole)) (less_told (length start) (length whole) longer)

  at_end : twice whole ≡ once whole
  unfolding new_key
  at_end =
      ap (λ b. cond b (option_map (touched moment) (mid whole)) (cond (begins_path whole (whole ++ last ∷ []) && nat_lt (length whole) (length whole)) (Some (new_row (slice_index_or (spelled ++ name ∷ []) (length whole - 1) []) descriptor moment)) (mid whole))) (eq_self whole)
      ∙ ap (option_map (touched moment)) mid_end
      ∙ sym (ap (λ b. cond b (option_map (touched moment) (rows whole)) (cond (begins_path whole (whole ++ last ∷ []) && nat_lt (length start) (length whole)) (Some (new_row (slice_index_or (spelled ++ name ∷ []) (length whole - 1) []) descriptor moment)) (rows whole))) (longer_apart start first below)
      ∙ ap (λ b. cond (b && nat_lt (length start) (length whole)) (Some (new_row (slice_index_or (spelled ++ name ∷ []) (length whole - 1) []) descriptor moment)) (rows whole)) (begins-append whole (last ∷ []))
      ∙ ap (λ b. cond b (Some (new_row (slice_index_or (spelled ++ name ∷ []) (length whole - 1) []) descriptor moment)) (rows whole)) (less_told (length start) (length whole) longer)
      ∙ ap (λ n. Some (new_row n descriptor moment)) (kept_name (length whole - 1) (omega (arith, longer))))

  -- the start is shorter than what is longer than the whole
  not_start : (q : List (List ℕ)) → length whole < length q → eq_by_cmp path_order q start ≡ false
  not_start q long = elim (told (eq_by_cmp path_order q start)) [
    | inl same ↦ let e : length q ≡ length start = ap length (eq_is q start same) in absurd (omega (arith, long, e, longer))
    | inr other ↦ other
  ]

  elsewhere : (q : List (List ℕ)) → (begins_path q (whole ++ last ∷ []) ≡ true) ⊎ (begins_path q (whole ++ last ∷ []) ≡ false) → (nat_lt (length whole) (length q) ≡ true) ⊎ (nat_lt (length whole) (length q) ≡ false)
      → cond (begins_path q (whole ++ last ∷ []) && nat_lt (length whole) (length q)) (Some (new_row (slice_index_or (spelled ++ name ∷ []) (length q - 1) []) descriptor moment)) (mid q) ≡ once q
  elsewhere q (inl on) (inl long) =
      let more : length whole < length q = grind (arith, nat_tests, long) in
      let key : Row = new_row (slice_index_or (spelled ++ name ∷ []) (length q - 1) []) descriptor moment in
      ap (λ b. cond (b && nat_lt (length whole) (length q)) (Some key) (mid q)) on ∙ ap (λ b. cond b (Some key) (mid q)) long
      ∙ sym (ap (λ b. cond b (option_map (touched moment) (rows q)) (cond (begins_path q (whole ++ last ∷ []) && nat_lt (length start) (length q)) (Some key) (rows q))) (not_start q more)
      ∙ ap (λ b. cond (b && nat_lt (length start) (length q)) (Some key) (rows q)) on
      ∙ ap (λ b. cond b (Some key) (rows q)) (less_told (length start) (length q) (omega (arith, longer, more))))
  elsewhere q (inr off) (inl long) =
      let more : length whole < length q = grind (arith, nat_tests, long) in
      let key : Row = new_row (slice_index_or (spelled ++ name ∷ []) (length q - 1) []) descriptor moment in
      let old : Row = new_row (slice_index_or spelled (length q - 1) []) descriptor moment in
      ap (λ b. cond (b && nat_lt (length whole) (length q)) (Some key) (mid q)) off
      ∙ ap (λ b. cond (eq_by_cmp path_order q start) (option_map (touched moment) (rows q)) (cond (b && nat_lt (length start) (length q)) (Some old) (rows q))) (begins_longer q whole more)
      ∙ sym (ap (λ b. cond (eq_by_cmp path_order q start) (option_map (touched moment) (rows q)) (cond (b && nat_lt (length start) (length q)) (Some key) (rows q))) off)
  elsewhere q on (inr short) =
      let less : length q ≤ length whole = grind (arith, nat_tests, short) in
      let key : Row = new_row (slice_index_or (spelled ++ name ∷ []) (length q - 1) []) descriptor moment in
      ap (λ b. cond (begins_path q (whole ++ last ∷ []) && b) (Some key) (mid q)) short
      ∙ ap (λ b. cond b (Some key) (mid q)) (and_false (begins_path q (whole ++ last ∷ [])))
      ∙ ap (cond (eq_by_cmp path_order q start) (option_map (touched moment) (rows q))) (by_length less (told (nat_lt (length start) (length q))))
    where
      by_length : length q ≤ length whole → (nat_lt (length start) (length q) ≡ true) ⊎ (nat_lt (length start) (length q) ≡ false)
          → cond (begins_path q whole && nat_lt (length start) (length q)) (Some (new_row (slice_index_or spelled (length q - 1) []) descriptor moment)) (rows q)
          ≡ cond (begins_path q (whole ++ last ∷ []) && nat_lt (length start) (length q)) (Some (new_row (slice_index_or (spelled ++ name ∷ []) (length q - 1) []) descriptor moment)) (rows q)
      by_length less (inl past) =
          let some : length start < length q = grind (arith, nat_tests, past) in
          ap (λ b. cond (b && nat_lt (length start) (length q)) (Some (new_row (slice_index_or spelled (length q - 1) []) descriptor moment)) (rows q)) (sym (begins_within q whole (last ∷ []) less))
          ∙ ap (λ n. cond (begins_path q (whole ++ last ∷ []) && nat_lt (length start) (length q)) (Some (new_row n descriptor moment)) (rows q)) (sym (kept_name (length q - 1) (omega (arith, less, some))))
      by_length less (inr not) =
          ap (λ b. cond (begins_path q whole && b) (Some (new_row (slice_index_or spelled (length q - 1) []) descriptor moment)) (rows q)) not
          ∙ ap (λ b. cond b (Some (new_row (slice_index_or spelled (length q - 1) []) descriptor moment)) (rows q)) (and_false (begins_path q whole))
          ∙ sym (ap (λ b. cond (begins_path q (whole ++ last ∷ []) && b) (Some (new_row (slice_index_or (spelled ++ name ∷ []) (length q - 1) []) descriptor moment)) (rows q)) not
          ∙ ap (λ b. cond b (Some (new_row (slice_index_or (spelled ++ name ∷ []) (length q - 1) []) descriptor moment)) (rows q)) (and_false (begins_path q (whole ++ last ∷ []))))

  pub made_twice : (q : List (List ℕ)) → twice q ≡ once q
  made_twice q = elim (told (eq_by_cmp path_order q whole)) [
    | inl same ↦ subst (λ (z : List (List ℕ)). twice z ≡ once z) (sym (eq_is q whole same)) at_end
    | inr other ↦
        ap (λ b. cond b (option_map (touched moment) (mid q)) (cond (begins_path q (whole ++ last ∷ []) && nat_lt (length whole) (length q)) (Some (new_row (slice_index_or (spelled ++ name ∷ []) (length q - 1) []) descriptor moment)) (mid q))) other
        ∙ elsewhere q (told (begins_path q (whole ++ last ∷ []))) (told (nat_lt (length whole) (length q)))
  ]

  -- past the whole path nothing comes
  pub mid_past : (further : List (List ℕ)) → rows (whole ++ last ∷ further) ≡ None → mid (whole ++ last ∷ further) ≡ None
  mid_past further none =
      let l : length (whole ++ last ∷ further) ≡ length whole + length (last ∷ further) = length-append whole (last ∷ further) in
      let long : length whole < length (whole ++ last ∷ further) = omega (arith, l) in
      let q : List (List ℕ) = whole ++ last ∷ further in
      ap (λ b. cond b (option_map (touched moment) (rows q)) (cond (begins_path q whole && nat_lt (length start) (length q)) (Some (new_row (slice_index_or spelled (length q - 1) []) descriptor moment)) (rows q))) (not_start q long)
      ∙ ap (λ b. cond (b && nat_lt (length start) (length q)) (Some (new_row (slice_index_or spelled (length q - 1) []) descriptor moment)) (rows q)) (begins_longer q whole long)
      ∙ none

none_some : (o : Option Row) (key : Row) → o ≡ None → o ≡ Some key → ⊥
none_some None key e f = false≢true (ap is_some f)
none_some (Some k) key e f = false≢true (sym (ap is_some e))

-- below a path without a key there is none
pub none_below : (tree : TreeMap) → IsTree tree → (p rest : List (List ℕ)) → row tree p ≡ None → row tree (p ++ rest) ≡ None
none_below tree is p rest none = by (row tree (p ++ rest)) refl
  where
    by : (o : Option Row) → row tree (p ++ rest) ≡ o → row tree (p ++ rest) ≡ None
    by None e = e
    by (Some key) e = absurd (false≢true (sym (ap is_some none) ∙ beginning_there tree is p rest (ap is_some e)))

-- the last key on the way of a path that is there, and the names that are missing
pub record Way (tree : TreeMap) (spelled : List (List ℕ)) : Type 0 where
  pub front : List (List ℕ)
  pub name : List ℕ
  pub further : List (List ℕ)
  pub is : spelled ≡ front ++ name ∷ further
  pub key : Row
  pub there : row tree (folded_path front) ≡ Some key
  pub absent : row tree (folded_path front ++ folded name ∷ []) ≡ None

way_from : (tree : TreeMap) (front rest : List (List ℕ)) (key : Row) → row tree (folded_path front) ≡ Some key → row tree (folded_path (front ++ rest)) ≡ None → Way tree (front ++ rest)
way_from tree front [] key there gone = absurd (none_some (row tree (folded_path front)) key (ap (λ p. row tree (folded_path p)) (sym (append-nil front)) ∙ gone) there)
way_from tree front (n ∷ rest) key there gone =
    by (λ next e. subst (Way tree) (append_assoc front (n ∷ []) rest)
    (way_from tree (front ++ n ∷ []) rest next (ap (row tree) (map-append folded front (n ∷ [])) ∙ e) (ap (λ p. row tree (folded_path p)) (append_assoc front (n ∷ []) rest) ∙ gone)))
    (row tree (folded_path front ++ folded n ∷ [])) refl
  where
    by : ((next : Row) → row tree (folded_path front ++ folded n ∷ []) ≡ Some next → Way tree (front ++ n ∷ rest)) → (o : Option Row) → row tree (folded_path front ++ folded n ∷ []) ≡ o → Way tree (front ++ n ∷ rest)
    by deeper None e = record { front = front; name = n; further = rest; is = refl; key = key; there = there; absent = e }
    by deeper (Some next) e = deeper next e

pub way : (tree : TreeMap) → IsTree tree → (spelled : List (List ℕ)) → row tree (folded_path spelled) ≡ None → Way tree spelled
way tree is spelled gone = by (row tree []) refl is.root
  where
    by : (o : Option Row) → row tree [] ≡ o → IsSome o → Way tree spelled
    by None e some = absurd (false≢true some)
    by (Some key) e some = way_from tree [] spelled key e gone

module _ (tree : TreeMap) (is : IsTree tree) (spelled : List (List ℕ)) (w : Way tree spelled) where
  pub gone : (rest : List (List ℕ)) → row tree (folded_path w.front ++ folded w.name ∷ rest) ≡ None
  gone rest = ap (row tree) (sym (append_assoc (folded_path w.front) (folded w.name ∷ []) rest)) ∙ none_below tree is (folded_path w.front ++ folded w.name ∷ []) rest w.absent

  -- as many names as the path of that key has are there
  pub depth_is : length w.front ≡ depth_there tree (folded_path spelled)
  depth_is = subst (λ (p : List (List ℕ)). length w.front ≡ depth_there tree (folded_path p)) (sym w.is) at
    where
      at : length w.front ≡ depth_there tree (folded_path (w.front ++ w.name ∷ w.further))
      at =
          let less : length w.front < length (folded_path (w.front ++ w.name ∷ w.further)) = longer_path w.front w.further w.name (length w.front) refl in
          let start : take (length w.front) (folded_path (w.front ++ w.name ∷ w.further)) ≡ folded_path w.front = (λ i. take (sym (length-map w.front folded) i) (map-append folded w.front (w.name ∷ w.further) i)) ∙ take-append_seam (folded_path w.front) (folded_path (w.name ∷ w.further)) in
          let missing_are : length (missing tree (folded_path (w.front ++ w.name ∷ w.further))) ≡ length (folded_path (w.front ++ w.name ∷ w.further)) - length w.front =
          levels_missing tree is (folded_path (w.front ++ w.name ∷ w.further)) (length w.front) (omega (arith, less))
          (ap is_some (ap (row tree) start ∙ w.there))
          (λ lt rest. ap (λ p. row tree (p ++ rest)) (one_more w.front w.further w.name (length w.front) refl) ∙ none_below tree is (folded_path w.front ++ folded w.name ∷ []) rest w.absent) in
          omega (arith, missing_are, less)

  rows_made : (hive moment : ℕ) (q : List (List ℕ)) → row (tree_after tree (CreateKey hive spelled) moment) q
      ≡ made (row tree q) (folded_path w.front) (folded_path w.front ++ folded w.name ∷ folded_path w.further) (w.front ++ w.name ∷ w.further) w.key.descriptor moment q
  rows_made hive moment q = row-tree_after tree (CreateKey hive spelled) moment q ∙ sym (created_is tree spelled w.front w.further w.name (length w.front) w.key moment w.is depth_is refl w.there q)

module _ (tree : TreeMap) (is : IsTree tree) (hive moment : ℕ) (front further : List (List ℕ)) (name : List ℕ) (key : Row) (there : row tree (folded_path front) ≡ Some key) (absent : row tree (folded_path front ++ folded name ∷ []) ≡ None) (next : List ℕ)
    (is_after : IsTree (tree_after tree (CreateKey hive (front ++ name ∷ further)) moment)) where
  abbrev path : List (List ℕ)
  path = front ++ name ∷ further

  abbrev its : List (List ℕ)
  its = folded_path front ++ folded name ∷ folded_path further

  its_is : folded_path path ≡ its
  its_is = map-append folded front (name ∷ further)

  abbrev first : Way tree path
  first = record { front = front; name = name; further = further; is = refl; key = key; there = there; absent = absent }

  abbrev tree_now : TreeMap
  tree_now = tree_after tree (CreateKey hive path) moment

  even : length its ≡ length path
  even = ap length (sym its_is) ∙ length-map path folded

  abbrev key_now : Row
  key_now = new_key (row tree) (folded_path front) (folded_path further) path (folded name) (folded next) next key.descriptor moment even

  there_now : row tree_now (folded_path path) ≡ Some key_now
  there_now = ap (row tree_now) its_is ∙ rows_made tree is path first hive moment its ∙ mid_end (row tree) (folded_path front) (folded_path further) path (folded name) (folded next) next key.descriptor moment even

  none_next : row tree (its ++ folded next ∷ []) ≡ None
  none_next = ap (row tree) (append_assoc (folded_path front) (folded name ∷ folded_path further) (folded next ∷ [])) ∙ gone tree is path first (folded_path further ++ folded next ∷ [])

  absent_now : row tree_now (folded_path path ++ folded next ∷ []) ≡ None
  absent_now = ap (λ p. row tree_now (p ++ folded next ∷ [])) its_is ∙ rows_made tree is path first hive moment (its ++ folded next ∷ []) ∙ mid_past (row tree) (folded_path front) (folded_path further) path (folded name) (folded next) next key.descriptor moment even [] none_next

  abbrev second : Way tree_now (path ++ next ∷ [])
  second = record { front = path; name = next; further = []; is = refl; key = key_now; there = there_now; absent = absent_now }

  abbrev both : Way tree (path ++ next ∷ [])
  both = record { front = front; name = name; further = further ++ next ∷ []; is = append_assoc front (name ∷ further) (next ∷ []); key = key; there = there; absent = absent }

  longer_is : folded_path front ++ folded name ∷ folded_path (further ++ next ∷ []) ≡ its ++ folded next ∷ []
  longer_is = ap (λ (p : List (List ℕ)). folded_path front ++ folded name ∷ p) (map-append folded further (next ∷ [])) ∙ sym (append_assoc (folded_path front) (folded name ∷ folded_path further) (folded next ∷ []))

  rows_same : (q : List (List ℕ)) → row (tree_after tree_now (CreateKey hive (path ++ next ∷ [])) moment) q ≡ row (tree_after tree (CreateKey hive (path ++ next ∷ [])) moment) q
  unfolding new_key
  rows_same q =
      rows_made tree_now is_after (path ++ next ∷ []) second hive moment q
      ∙ (λ i. made (rows_made tree is path first hive moment q i) (its_is i) (its_is i ++ folded next ∷ []) (path ++ next ∷ []) key.descriptor moment q)
      ∙ made_twice (row tree) (folded_path front) (folded_path further) path (folded name) (folded next) next key.descriptor moment even q
      ∙ (λ i. made (row tree q) (folded_path front) (sym longer_is i) (append_assoc front (name ∷ further) (next ∷ []) i) key.descriptor moment q)
      ∙ sym (rows_made tree is (path ++ next ∷ []) both hive moment q)

  one_level : tree_after tree_now (CreateKey hive (path ++ next ∷ [])) moment ≡ tree_after tree (CreateKey hive (path ++ next ∷ [])) moment
  one_level = same_map paths_total paths_apart _ _ rows_same

  level_absent : (row tree_now (folded_path path ++ folded next ∷ []) ≡ None) × (tree_after tree_now (CreateKey hive (path ++ next ∷ [])) moment ≡ tree_after tree (CreateKey hive (path ++ next ∷ [])) moment)
  level_absent = (absent_now, one_level)

-- After a path's keys were created, no key of a further name is below them. Creating it then makes what creating all at
-- once makes.
abbrev pub IsNextLevel : TreeMap → ℕ → ℕ → List ℕ → List (List ℕ) → Type 0
IsNextLevel tree hive moment name front = (row (tree_after tree (CreateKey hive front) moment) (folded_path front ++ folded name ∷ []) ≡ None)
    × (tree_after (tree_after tree (CreateKey hive front) moment) (CreateKey hive (front ++ name ∷ [])) moment ≡ tree_after tree (CreateKey hive (front ++ name ∷ [])) moment)

pub next_level : (tree : TreeMap) → IsTree tree → (hive moment : ℕ) (front : List (List ℕ)) (name : List ℕ) → row tree (folded_path front) ≡ None → IsTree (tree_after tree (CreateKey hive front) moment) → IsNextLevel tree hive moment name front
next_level tree is hive moment front name gone after = by (way tree is front gone)
  where
    by : Way tree front → IsNextLevel tree hive moment name front
    by w = subst (IsNextLevel tree hive moment name) (sym w.is) (level_absent tree is hive moment w.front w.further w.name w.key w.there w.absent name (subst (λ (p : List (List ℕ)). IsTree (tree_after tree (CreateKey hive p) moment)) w.is after))
