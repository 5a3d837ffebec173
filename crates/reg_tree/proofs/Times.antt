-- Moments set times alone: trees that operations make at two moments are the same but for the times of their rows, and
-- no answer but the times differs.
use Rattle.std.proofs.Common.{◌≡◌, ℕ, ◌+◌, Bool, true, false, not, ◌&&◌, ◌||◌, cond, T, List, [], ◌∷◌, map, filter, length, take, Option, Some, None, is_some, Result, Ok, Err, refl, sym, ◌∙◌, ap, subst}
use Rattle.std.specs.Prelude.{nat_lt, is_none, slice_get, slice_set, slice_index_or, ◌-◌}
use Rattle.std.specs.Option.{option_map, option_and_then}
use Rattle.std.specs.Result.{is_err}
use Rattle.std.specs.Ordering.{eq_by_cmp, is_lt}
use Rattle.std.specs.FinMap as finite
use Rattle.std.specs.FinMap.{entries_sorted, get-entries}
use Rattle.std.specs.FinMap.Entries.{find, is_sorted, below_all, same_entries}
use Rattle.std.proofs.lemmas.List.{map-set}
use Rattle.std.proofs.lemmas.List.Sums.{sum_by-cons}
use Rattle.std.proofs.lemmas.Option.{slice_get-map}
use Rattle.reg_names.specs.Names.{folded, folded_path}
use Rattle.refusals.specs.declared.refusal.Refusal.{Refusal}
use Rattle.refusals.specs.declared.refusal.Refusal.TheVariants.{NotFound, TooDeep, TooLarge}
use Rattle.refusals.specs.declared.limits.TheConstants.{MOST_NEW_LEVELS, MOST_VALUE_BYTES}
use Rattle.reg_tree_parts.specs.Orders.{path_order}
use Rattle.reg_tree_parts.specs.Rows.{Row, row_weight}
use Rattle.reg_tree_parts.specs.NewRows.{new_row}
use Rattle.reg_tree_parts.specs.ValueEdits.{values_with, values_without}
use Rattle.reg_tree_parts.specs.Nodes.{Entries, row_at, begins_path, one_below, names_below, entries_weight}
use Rattle.reg_tree_parts.proofs.Keys.{paths_total, paths_apart}
use Rattle.reg_tree.specs.Maps.{TreeMap, row, is_there, subkeys, beginnings, missing, weight}
use Rattle.reg_tree.specs.Operations.{hive_of, touched, depth_there, descriptor_of, row_after, tree_after}
use Rattle.reg_tree.specs.Judgement.{judged_there, judged_delete, judged, changed, changed_if, legal_after, legal_if, legal, applied, applied_if, applied_one, outweighs, outweighs_if, any_outweighs}
use Rattle.reg_tree.specs.Times.{timeless, timeless_entry, untimed, SameButTimes}
use Rattle.reg_tree.specs.TreeLists.{value_in, value_names_in, value_index_in, subkeys_in, subkey_index_in, levels_in}
use Rattle.reg_tree.specs.declared.op.Op.{Op}
use Rattle.reg_tree.specs.declared.op.Op.TheVariants.{CreateKey, DeleteKey, SetValue, DeleteValue}
use Rattle.reg_tree.specs.declared.op.Legality.{Legality}
use Rattle.reg_tree.specs.declared.op.Legality.TheVariants.{Legal, Opened}
use Rattle.reg_tree.proofs.TreesAfter.{row-tree_after}

-- Trees without times

find-timeless : (q : List (List ℕ)) (es : Entries) → find path_order q (map timeless_entry es) ≡ option_map timeless (find path_order q es)
find-timeless q [] = refl
find-timeless q (e ∷ es) = by_case (find-timeless q es) (eq_by_cmp path_order q e.0)
  where
    by_case : find path_order q (map timeless_entry es) ≡ option_map timeless (find path_order q es) → (b : Bool) → cond b (Some (timeless e.1)) (find path_order q (map timeless_entry es)) ≡ option_map timeless (cond b (Some e.1) (find path_order q es))
    by_case rest true = refl
    by_case rest false = rest

-- they have the tree's rows, without times
row-untimed : (tree : TreeMap) (q : List (List ℕ)) → row_at (untimed tree) q ≡ option_map timeless (row tree q)
row-untimed tree q = find-timeless q (finite.entries tree) ∙ ap (option_map timeless) (sym (get-entries tree q))

below_all-timeless : (p : List (List ℕ)) (es : Entries) → below_all path_order p (map timeless_entry es) ≡ below_all path_order p es
below_all-timeless p [] = refl
below_all-timeless p (e ∷ es) = ap (λ b. is_lt (path_order p e.0) && b) (below_all-timeless p es)

is_sorted-timeless : (es : Entries) → is_sorted path_order (map timeless_entry es) ≡ is_sorted path_order es
is_sorted-timeless [] = refl
is_sorted-timeless (e ∷ es) = λ i. below_all-timeless e.0 es i && is_sorted-timeless es i

untimed_sorted : (tree : TreeMap) → T (is_sorted path_order (untimed tree))
untimed_sorted tree = subst T (sym (is_sorted-timeless (finite.entries tree))) (entries_sorted tree)

-- so trees that have the same rows but for times are the same without times
pub same_untimed : (a b : TreeMap) → ((q : List (List ℕ)) → option_map timeless (row a q) ≡ option_map timeless (row b q)) → untimed a ≡ untimed b
same_untimed a b rows = same_entries path_order paths_total paths_apart (untimed a) (untimed b) (untimed_sorted a) (untimed_sorted b) (λ q. row-untimed a q ∙ rows q ∙ sym (row-untimed b q))

names_below-timeless : (path : List (List ℕ)) (es : Entries) → names_below path (map timeless_entry es) ≡ names_below path es
names_below-timeless path [] = refl
names_below-timeless path (e ∷ es) = by_case (names_below-timeless path es) (one_below path e.0)
  where
    by_case : names_below path (map timeless_entry es) ≡ names_below path es → (b : Bool)
        → map (λ e. let key : Row = e.1 in key.name) (cond b (timeless_entry e ∷ filter (λ e. one_below path e.0) (map timeless_entry es)) (filter (λ e. one_below path e.0) (map timeless_entry es)))
        ≡ map (λ e. let key : Row = e.1 in key.name) (cond b (e ∷ filter (λ e. one_below path e.0) es) (filter (λ e. one_below path e.0) es))
    by_case rest true = let key : Row = e.1 in ap (λ names. key.name ∷ names) rest
    by_case rest false = rest

weight-timeless : (es : Entries) → entries_weight (map timeless_entry es) ≡ entries_weight es
weight-timeless [] = refl
weight-timeless (e ∷ es) =
    sum_by-cons (λ e. row_weight e.1) (timeless_entry e) (map timeless_entry es) ∙ ap (λ w. row_weight e.1 + w) (weight-timeless es) ∙ sym (sum_by-cons (λ e. row_weight e.1) e es)

-- What a row without its time still says

is_some-timeless : (o : Option Row) → is_some (option_map timeless o) ≡ is_some o
is_some-timeless None = refl
is_some-timeless (Some key) = refl

descriptor_of-timeless : (o : Option Row) → descriptor_of (option_map timeless o) ≡ descriptor_of o
descriptor_of-timeless None = refl
descriptor_of-timeless (Some key) = refl

judged_there-timeless : (judge : Row → Result Legality Refusal) → ((key : Row) → judge (timeless key) ≡ judge key) → (o : Option Row) → judged_there (option_map timeless o) judge ≡ judged_there o judge
judged_there-timeless judge blind None = refl
judged_there-timeless judge blind (Some key) = blind key

option_map-timeless : {A : Type 0} (f : Row → A) → ((key : Row) → f (timeless key) ≡ f key) → (o : Option Row) → option_map f (option_map timeless o) ≡ option_map f o
option_map-timeless f blind None = refl
option_map-timeless f blind (Some key) = ap Some (blind key)

option_and_then-timeless : {A : Type 0} (f : Row → Option A) → ((key : Row) → f (timeless key) ≡ f key) → (o : Option Row) → option_and_then f (option_map timeless o) ≡ option_and_then f o
option_and_then-timeless f blind None = refl
option_and_then-timeless f blind (Some key) = blind key

-- the names of a row's values
abbrev names_of : Row → List (List ℕ)
names_of key = map (λ value. value.name) (finite.values key.values)

-- What an operation makes of a row, without times

timeless_edited : (edit : Row → Row) → ((key : Row) → timeless (edit key) ≡ timeless (edit (timeless key))) → (m : ℕ) (b : Bool) (o : Option Row)
    → option_map timeless (cond b (option_map (λ key. touched m (edit key)) o) o) ≡ cond b (option_map (λ key. timeless (edit key)) (option_map timeless o)) (option_map timeless o)
timeless_edited edit blind m true None = refl
timeless_edited edit blind m true (Some key) = ap Some (blind key)
timeless_edited edit blind m false o = refl

timeless_touched : (m : ℕ) (o : Option Row) → option_map timeless (option_map (touched m) o) ≡ option_map timeless o
timeless_touched m None = refl
timeless_touched m (Some key) = refl

timeless_deleted : (m : ℕ) (a b : Bool) (o : Option Row) → option_map timeless (cond a None (cond b (option_map (touched m) o) o)) ≡ cond a None (option_map timeless o)
timeless_deleted m true b o = refl
timeless_deleted m false true o = timeless_touched m o
timeless_deleted m false false o = refl

timeless_created : (name descriptor : List ℕ) (m : ℕ) (a b : Bool) (o : Option Row)
    → option_map timeless (cond a (option_map (touched m) o) (cond b (Some (new_row name descriptor m)) o)) ≡ cond a (option_map timeless o) (cond b (Some (new_row name descriptor 0)) (option_map timeless o))
timeless_created name descriptor m true b o = timeless_touched m o
timeless_created name descriptor m false true o = refl
timeless_created name descriptor m false false o = refl

-- Two trees that are the same but for times
module _ (a b : TreeMap) (same : untimed a ≡ untimed b) where
  rows : (q : List (List ℕ)) → option_map timeless (row a q) ≡ option_map timeless (row b q)
  rows q = sym (row-untimed a q) ∙ ap (λ es. row_at es q) same ∙ row-untimed b q

  pub there_same : (q : List (List ℕ)) → is_there a q ≡ is_there b q
  there_same q = sym (is_some-timeless (row a q)) ∙ ap is_some (rows q) ∙ is_some-timeless (row b q)

  pub missing_same : (path : List (List ℕ)) → missing a path ≡ missing b path
  missing_same path = λ i. filter (λ start. not (there_same start i)) (beginnings path)

  pub subkeys_same : (path : List (List ℕ)) → subkeys a path ≡ subkeys b path
  subkeys_same path = sym (names_below-timeless path (finite.entries a)) ∙ ap (names_below path) same ∙ names_below-timeless path (finite.entries b)

  pub weight_same : weight a ≡ weight b
  weight_same = sym (weight-timeless (finite.entries a)) ∙ ap entries_weight same ∙ weight-timeless (finite.entries b)

  judged_there_same : (judge : Row → Result Legality Refusal) → ((key : Row) → judge (timeless key) ≡ judge key) → (q : List (List ℕ)) → judged_there (row a q) judge ≡ judged_there (row b q) judge
  judged_there_same judge blind q = sym (judged_there-timeless judge blind (row a q)) ∙ ap (λ o. judged_there o judge) (rows q) ∙ judged_there-timeless judge blind (row b q)

  pub judged_same : (op : Op) → judged a op ≡ judged b op
  judged_same (CreateKey hive path) = λ i. cond (there_same (folded_path path) i) (Ok Opened) (cond (nat_lt MOST_NEW_LEVELS (length (missing_same (folded_path path) i))) (Err TooDeep) (Ok Legal))
  judged_same (DeleteKey hive []) = refl
  judged_same (DeleteKey hive (name ∷ path)) =
      judged_there_same (λ key. judged_delete key.flags (subkeys a (folded_path (name ∷ path)))) (λ key. refl) (folded_path (name ∷ path))
      ∙ ap (λ names. judged_there (row b (folded_path (name ∷ path))) (λ key. judged_delete key.flags names)) (subkeys_same (folded_path (name ∷ path)))
  judged_same (SetValue hive path name kind bytes) = judged_there_same (λ key. cond (nat_lt MOST_VALUE_BYTES (length bytes)) (Err TooLarge) (Ok Legal)) (λ key. refl) (folded_path path)
  judged_same (DeleteValue hive path name) = judged_there_same (λ key. cond (is_none (finite.get key.values (folded name))) (Err NotFound) (Ok Legal)) (λ key. refl) (folded_path path)

  -- what is read of a row, and not of its time, is read alike
  pub mapped_same : {A : Type 0} (f : Row → A) → ((key : Row) → f (timeless key) ≡ f key) → (q : List (List ℕ)) → option_map f (row a q) ≡ option_map f (row b q)
  mapped_same f blind q = sym (option_map-timeless f blind (row a q)) ∙ ap (option_map f) (rows q) ∙ option_map-timeless f blind (row b q)

  pub found_same : {A : Type 0} (f : Row → Option A) → ((key : Row) → f (timeless key) ≡ f key) → (q : List (List ℕ)) → option_and_then f (row a q) ≡ option_and_then f (row b q)
  found_same f blind q = sym (option_and_then-timeless f blind (row a q)) ∙ ap (option_and_then f) (rows q) ∙ option_and_then-timeless f blind (row b q)

  edited_same : (edit : Row → Row) → ((key : Row) → timeless (edit key) ≡ timeless (edit (timeless key))) → (m n : ℕ) (t : Bool) (q : List (List ℕ))
      → option_map timeless (cond t (option_map (λ key. touched m (edit key)) (row a q)) (row a q)) ≡ option_map timeless (cond t (option_map (λ key. touched n (edit key)) (row b q)) (row b q))
  edited_same edit blind m n t q =
      timeless_edited edit blind m t (row a q) ∙ ap (λ o. cond t (option_map (λ key. timeless (edit key)) o) o) (rows q) ∙ sym (timeless_edited edit blind n t (row b q))

  depth_same : (path : List (List ℕ)) → depth_there a path ≡ depth_there b path
  depth_same path = ap (λ gone. length path - length gone) (missing_same path)

  descriptor_same : (path : List (List ℕ)) → descriptor_of (row a (take (depth_there a path) path)) ≡ descriptor_of (row b (take (depth_there b path) path))
  descriptor_same path =
      sym (descriptor_of-timeless (row a (take (depth_there a path) path)))
      ∙ (λ i. descriptor_of (rows (take (depth_same path i) path) i))
      ∙ descriptor_of-timeless (row b (take (depth_there b path) path))

  row_after_same : (op : Op) (m n : ℕ) (q : List (List ℕ)) → option_map timeless (row_after a op m q) ≡ option_map timeless (row_after b op n q)
  row_after_same (CreateKey hive spelled) m n q =
      let path = folded_path spelled in
      let name = slice_index_or spelled (length q - 1) [] in
      timeless_created name (descriptor_of (row a (take (depth_there a path) path))) m (eq_by_cmp path_order q (take (depth_there a path) path)) (begins_path q path && nat_lt (depth_there a path) (length q)) (row a q)
      ∙ (λ i. cond (eq_by_cmp path_order q (take (depth_same path i) path)) (rows q i) (cond (begins_path q path && nat_lt (depth_same path i) (length q)) (Some (new_row name (descriptor_same path i) 0)) (rows q i)))
      ∙ sym (timeless_created name (descriptor_of (row b (take (depth_there b path) path))) n (eq_by_cmp path_order q (take (depth_there b path) path)) (begins_path q path && nat_lt (depth_there b path) (length q)) (row b q))
  row_after_same (DeleteKey hive spelled) m n q =
      let here = eq_by_cmp path_order q (folded_path spelled) in
      let parent = one_below q (folded_path spelled) in
      timeless_deleted m here parent (row a q) ∙ ap (λ o. cond here None o) (rows q) ∙ sym (timeless_deleted n here parent (row b q))
  row_after_same (SetValue hive spelled name kind bytes) m n q = edited_same (λ key. record key { values = values_with key.values name kind bytes }) (λ key. refl) m n (eq_by_cmp path_order q (folded_path spelled)) q
  row_after_same (DeleteValue hive spelled name) m n q = edited_same (λ key. record key { values = values_without key.values name }) (λ key. refl) m n (eq_by_cmp path_order q (folded_path spelled)) q

  -- an operation leaves them the same but for times, at whatever moments
  pub tree_after_same : (op : Op) (m n : ℕ) → untimed (tree_after a op m) ≡ untimed (tree_after b op n)
  tree_after_same op m n = same_untimed (tree_after a op m) (tree_after b op n) (λ q. ap (option_map timeless) (row-tree_after a op m q) ∙ row_after_same op m n q ∙ sym (ap (option_map timeless) (row-tree_after b op n q)))

  pub changed_same : (op : Op) (m n : ℕ) → untimed (changed a op m) ≡ untimed (changed b op n)
  changed_same op m n = by_case (judged a op) ∙ ap (λ j. untimed (changed_if j (tree_after b op n) b)) (judged_same op)
    where
      by_case : (j : Result Legality Refusal) → untimed (changed_if j (tree_after a op m) a) ≡ untimed (changed_if j (tree_after b op n) b)
      by_case (Ok Legal) = tree_after_same op m n
      by_case (Ok Opened) = same
      by_case (Err refusal) = same

-- so a tree weighs the same whatever the moment of an operation is
pub weight_any_moment : (tree : TreeMap) (op : Op) (m n : ℕ) → weight (changed tree op m) ≡ weight (changed tree op n)
weight_any_moment tree op m n = weight_same (changed tree op m) (changed tree op n) (changed_same tree tree refl op m n)

-- Trees of all hives

-- what is read alike of trees that are the same but for times is read alike of a hive
of_hives : {A : Type 0} (tell : Option TreeMap → A) → ((a b : TreeMap) → untimed a ≡ untimed b → tell (Some a) ≡ tell (Some b)) → (o p : Option TreeMap) → option_map untimed o ≡ option_map untimed p → tell o ≡ tell p
of_hives tell alike None None e = refl
of_hives tell alike None (Some b) e = cc
of_hives tell alike (Some a) None e = cc
of_hives tell alike (Some a) (Some b) e = let same : untimed a ≡ untimed b = cc in alike a b same

hive_same : (xs ys : List TreeMap) → SameButTimes xs ys → (hive : ℕ) → option_map untimed (slice_get xs hive) ≡ option_map untimed (slice_get ys hive)
hive_same xs ys same hive = sym (slice_get-map untimed xs hive) ∙ ap (λ zs. slice_get zs hive) same ∙ slice_get-map untimed ys hive

applied_one_same : (xs ys : List TreeMap) → SameButTimes xs ys → (op : Op) (m n : ℕ) → SameButTimes (applied_one xs op m) (applied_one ys op n)
applied_one_same xs ys same op m n = by_case (slice_get xs (hive_of op)) (slice_get ys (hive_of op)) (hive_same xs ys same (hive_of op))
  where
    by_case : (o p : Option TreeMap) → option_map untimed o ≡ option_map untimed p → SameButTimes (applied_if xs o op m) (applied_if ys p op n)
    by_case None None e = same
    by_case None (Some b) e = cc
    by_case (Some a) None e = cc
    by_case (Some a) (Some b) e =
        let alike : untimed a ≡ untimed b = cc in
        map-set untimed xs (hive_of op) (changed a op m) ∙ (λ i. slice_set (same i) (hive_of op) (changed_same a b alike op m n i)) ∙ sym (map-set untimed ys (hive_of op) (changed b op n))

pub applied_same : (xs ys : List TreeMap) → SameButTimes xs ys → (ops : List Op) (m n : ℕ) → SameButTimes (applied xs ops m) (applied ys ops n)
applied_same xs ys same [] m n = same
applied_same xs ys same (op ∷ ops) m n = applied_same (applied_one xs op m) (applied_one ys op n) (applied_one_same xs ys same op m n) ops m n

-- What is read of them
module _ (xs ys : List TreeMap) (same : SameButTimes xs ys) where
  told_alike : {A : Type 0} (tell : Option TreeMap → A) → ((a b : TreeMap) → untimed a ≡ untimed b → tell (Some a) ≡ tell (Some b)) → (hive : ℕ) → tell (slice_get xs hive) ≡ tell (slice_get ys hive)
  told_alike tell alike hive = of_hives tell alike (slice_get xs hive) (slice_get ys hive) (hive_same xs ys same hive)

  pub legal_alike : (op : Op) → legal xs op ≡ legal ys op
  legal_alike op = told_alike (λ o. legal_if o op) (λ a b e. λ i. legal_after op (judged_same a b e op i) (weight_same (changed a op 0) (changed b op 0) (changed_same a b e op 0 0) i)) (hive_of op)

  pub levels_alike : (hive : ℕ) (path : List (List ℕ)) → levels_in xs hive path ≡ levels_in ys hive path
  levels_alike hive path = told_alike (λ o. option_map (λ tree. length (missing tree path)) o) (λ a b e. ap (λ gone. Some (length gone)) (missing_same a b e path)) hive

  pub value_alike : (hive : ℕ) (path : List (List ℕ)) (name : List ℕ) → value_in xs hive path name ≡ value_in ys hive path name
  value_alike hive path name = told_alike (λ o. option_and_then (λ tree. option_and_then (λ key. finite.get key.values (folded name)) (row tree path)) o) (λ a b e. found_same a b e (λ key. finite.get key.values (folded name)) (λ key. refl) path) hive

  pub value_names_alike : (hive : ℕ) (path : List (List ℕ)) → value_names_in xs hive path ≡ value_names_in ys hive path
  value_names_alike hive path = told_alike (λ o. option_and_then (λ tree. option_map names_of (row tree path)) o) (λ a b e. mapped_same a b e names_of (λ key. refl) path) hive

  pub subkeys_alike : (hive : ℕ) (path : List (List ℕ)) → subkeys_in xs hive path ≡ subkeys_in ys hive path
  subkeys_alike hive path = told_alike (λ o. option_and_then (λ tree. option_map (λ key. subkeys tree path) (row tree path)) o) alike hive
    where
      alike : (a b : TreeMap) → untimed a ≡ untimed b → option_map (λ key. subkeys a path) (row a path) ≡ option_map (λ key. subkeys b path) (row b path)
      alike a b e = mapped_same a b e (λ key. subkeys a path) (λ key. refl) path ∙ ap (λ names. option_map (λ key. names) (row b path)) (subkeys_same a b e path)

  pub value_index_alike : (hive : ℕ) (path : List (List ℕ)) (index : ℕ) → value_index_in xs hive path index ≡ value_index_in ys hive path index
  value_index_alike hive path index =
      told_alike (λ o. option_and_then (λ tree. option_and_then (λ key. slice_get (finite.values key.values) index) (row tree path)) o) (λ a b e. found_same a b e (λ key. slice_get (finite.values key.values) index) (λ key. refl) path) hive

  pub subkey_index_alike : (hive : ℕ) (path : List (List ℕ)) (index : ℕ) → subkey_index_in xs hive path index ≡ subkey_index_in ys hive path index
  subkey_index_alike hive path index = told_alike (λ o. option_and_then (λ tree. option_and_then (λ key. slice_get (subkeys tree path) index) (row tree path)) o) alike hive
    where
      alike : (a b : TreeMap) → untimed a ≡ untimed b → option_and_then (λ key. slice_get (subkeys a path) index) (row a path) ≡ option_and_then (λ key. slice_get (subkeys b path) index) (row b path)
      alike a b e = found_same a b e (λ key. slice_get (subkeys a path) index) (λ key. refl) path ∙ ap (λ names. option_and_then (λ key. slice_get names index) (row b path)) (subkeys_same a b e path)

  pub outweighs_alike : (op : Op) (m n : ℕ) → outweighs xs op m ≡ outweighs ys op n
  outweighs_alike op m n = of_both (slice_get xs (hive_of op)) (slice_get ys (hive_of op)) (hive_same xs ys same (hive_of op))
    where
      of_both : (o p : Option TreeMap) → option_map untimed o ≡ option_map untimed p → outweighs_if o op m ≡ outweighs_if p op n
      of_both None None e = refl
      of_both None (Some b) e = cc
      of_both (Some a) None e = cc
      of_both (Some a) (Some b) e =
          let alike : untimed a ≡ untimed b = cc in
          ap (λ total. is_err (legal_after op (Ok Legal) total)) (weight_same (changed a op m) (changed b op n) (changed_same a b alike op m n))

pub any_outweighs_alike : (xs ys : List TreeMap) → SameButTimes xs ys → (ops : List Op) (m n : ℕ) → any_outweighs xs ops m ≡ any_outweighs ys ops n
any_outweighs_alike xs ys same [] m n = refl
any_outweighs_alike xs ys same (op ∷ ops) m n =
    λ i. outweighs_alike xs ys same op m n i || any_outweighs_alike (applied_one xs op m) (applied_one ys op n) (applied_one_same xs ys same op m n) ops m n i

-- so it is with trees that the same operations left at two moments
pub moments_alike : (trees : List TreeMap) (ops : List Op) (m n : ℕ) → SameButTimes (applied trees ops m) (applied trees ops n)
moments_alike trees = applied_same trees trees refl
