-- The keys of a tree, made one after another in a new one.
use Rattle.std.proofs.Common.{◌≡◌, ℕ, ◌≤◌, Bool, true, false, cond, T, List, [], ◌∷◌, ◌++◌, map, length, Option, Some, None, Ok, IsSome, is_some, refl, sym, ◌∙◌, ap, ap₂, subst, inl, inr, arith}
use Rattle.std.specs.Prelude.{◌⊎◌}
use Rattle.std.specs.List.{AllByRecursion, flat_map}
use Rattle.std.specs.Option.{option_map}
use Rattle.std.specs.Ordering.{is_eq, eq_by_cmp}
use Rattle.std.specs.FinMap as finite
use Rattle.std.specs.FinMap.{entries_sorted, get-empty}
use Rattle.std.specs.FinMap.Entries.{find, is_sorted, below_all}
use Rattle.refusals.specs.declared.limits.TheConstants.{MOST_VALUE_BYTES, MOST_WEIGHT}
use Rattle.reg_names.specs.Names.{folded, folded_path}
use Rattle.reg_tree_parts.specs.declared.value.Value.{Value}
use Rattle.reg_tree_parts.specs.Orders.{name_order, path_order}
use Rattle.reg_tree_parts.specs.Rows.{Row, ValueMap}
use Rattle.reg_tree_parts.specs.Weights.{value_weight}
use Rattle.reg_tree_parts.specs.ValueEdits.{values_with}
use Rattle.reg_tree_parts.proofs.Keys.{paths_total, names_total}
use Rattle.reg_tree_parts.proofs.SortedLists.{front_of, back_of}
use Rattle.reg_tree.specs.Maps.{TreeMap, row, weight, IsTree}
use Rattle.reg_tree.specs.Fresh.{fresh_tree}
use Rattle.reg_tree.specs.Judgement.{changed, legal_in, legal_after}
use Rattle.reg_tree.specs.declared.op.Op.{Op}
use Rattle.reg_tree.specs.declared.op.Op.TheVariants.{CreateKey}
use Rattle.reg_tree.specs.declared.op.Legality.TheVariants.{Legal}
use Rattle.reg_tree.proofs.Paths.{eq_self, eq_is}
use Rattle.reg_tree.proofs.Sums.{of_option}
use Rattle.key_walk.specs.KeyRows.{spelled_names}
use Rattle.reg_round_trip.specs.Contents.{HasSameKey, SameContent}
use Rattle.reg_round_trip.specs.Operations.{creation, value_op, key_ops, tree_ops}
use Rattle.reg_round_trip.specs.NewTrees.{made_tree_weight, IsCallKey, IsCallTree}
use Rattle.reg_round_trip.proofs.Units.{all_then, none_some}
use Rattle.reg_round_trip.proofs.SortedKeys.{none_at, none_before, each_got, parent_less}
use Rattle.reg_round_trip.proofs.Spelled.{root_or_below, spelled_more, folded_spelled}
use Rattle.reg_round_trip.proofs.MadeTrees.{Wanted, IsMade, IsBuilt, content, by_rest, wanted, fresh_built}
use Rattle.reg_round_trip.proofs.MadeWeights.{values_weight, fewer_values, IsPart, IsBounded, built_weight}
use Rattle.reg_round_trip.proofs.KeySteps.{updated, create_judged, create_built}
use Rattle.reg_round_trip.proofs.ValueSteps.{LegalSteps, steps_both, light_is_legal, set_built, set_legal, set_new, HasOthers, has_none, has_all, no_more, was_none, written_has}

-- the same is wanted
pub same_want : (tree : TreeMap) (want other : Wanted) → ((path : List (List ℕ)) → want path ≡ other path) → IsBuilt tree want → IsBuilt tree other
same_want tree want other same b = record { is_tree = b.is_tree; made = λ path. subst (IsMade path (row tree path)) (same path) (b.made path) }

updated_here : (want : Wanted) (path : List (List ℕ)) (its : List ℕ × ValueMap) → updated want path its path ≡ Some its
updated_here want path its = ap (λ t. cond t (Some its) (want path)) (eq_self path)

updated_twice : (want : Wanted) (path : List (List ℕ)) (one two : List ℕ × ValueMap) (at : List (List ℕ)) → updated (updated want path one) path two at ≡ updated want path two at
updated_twice want path one two at = by_path (eq_by_cmp path_order at path)
  where
    by_path : (t : Bool) → cond t (Some two) (cond t (Some one) (want at)) ≡ cond t (Some two) (want at)
    by_path true = refl
    by_path false = refl

-- what is wanted stays bounded
pub bounded_updated : (tree : TreeMap) (want : Wanted) (path : List (List ℕ)) (key : Row) (some : ValueMap) → IsBounded tree want → row tree path ≡ Some key → values_weight some ≤ values_weight key.values → IsBounded tree (updated want path (key.name, some))
bounded_updated tree want path key some bounded there less at its e = by_path (eq_by_cmp path_order at path) refl e
  where
    same_of : Some (key.name, some) ≡ Some its → (key.name, some) ≡ its
    same_of p = cc

    by_path : (t : Bool) → eq_by_cmp path_order at path ≡ t → cond t (Some (key.name, some)) (want at) ≡ Some its → IsPart tree at its
    by_path true t p = subst (IsPart tree at) (same_of p) (record { key = key; there = ap (row tree) (eq_is at path t) ∙ there; name = omega arith; light = less })
    by_path false t p = bounded at its p

-- a value that is still to be written
pub record IsToWrite (whole : ValueMap) (entry : List ℕ × Value) : Type 0 where
  pub its : finite.get whole entry.0 ≡ Some entry.1
  pub filed : let value : Value = entry.1 in folded value.name ≡ entry.0
  pub few : let value : Value = entry.1 in length value.«data» ≤ MOST_VALUE_BYTES

-- what operations make
abbrev pub Makes : ℕ → TreeMap → List Op → Wanted → Type 0
Makes moment tree ops want = (new : TreeMap) × LegalSteps moment tree ops new × IsBuilt new want

module _ (whole : TreeMap) (light : made_tree_weight whole ≤ MOST_WEIGHT) (hive moment : ℕ) where
  module _ (spelled path : List (List ℕ)) (is_path : folded_path spelled ≡ path) (key : Row) (there : row whole path ≡ Some key) (want : Wanted) (bounded : IsBounded whole want) where
    values_written : (rest : List (List ℕ × Value)) → T (is_sorted name_order rest) → AllByRecursion (IsToWrite key.values) rest → (tree : TreeMap) (some : ValueMap) → IsBuilt tree (updated want path (key.name, some)) → HasOthers key.values rest some
        → Makes moment tree (map (value_op hive spelled) (map (λ e. e.1) rest)) (updated want path (key.name, key.values))
    values_written [] sorted all tree some b h = (tree, refl, subst (λ v. IsBuilt tree (updated want path (key.name, v))) (has_all key.values some h) b)
    values_written (entry ∷ rest) sorted all tree some b h =
        let value : Value = entry.1 in
        let facts = all.0 in
        let written = values_with some value.name value.kind value.«data» in
        let apart = front_of (below_all name_order entry.0 rest) (is_sorted name_order rest) sorted in
        let later = back_of (below_all name_order entry.0 rest) (is_sorted name_order rest) sorted in
        let further = written_has key.values some entry.0 value rest h facts.its facts.filed apart in
        let here = updated_here want path (key.name, some) in
        let next = changed tree (value_op hive spelled value) moment in
        let twice = updated_twice want path (key.name, some) (key.name, written) in
        let made = set_built tree (updated want path (key.name, some)) b hive spelled path is_path key.name some here value.name value.kind value.«data» facts.few moment in
        let next_built : IsBuilt next (updated want path (key.name, written)) = same_want next (updated (updated want path (key.name, some)) path (key.name, written)) (updated want path (key.name, written)) twice made in
        let still = bounded_updated whole (updated want path (key.name, some)) path key written (bounded_updated whole want path key some bounded there (no_more key.values some (entry ∷ rest) h)) there (no_more key.values written rest further) in
        let legal = set_legal tree (updated want path (key.name, some)) b hive spelled path is_path key.name some here value.name value.kind value.«data» facts.few whole still light in
        let none = ap (finite.get some) facts.filed ∙ was_none key.values some entry.0 value rest h facts.its facts.filed apart in
        let new = set_new tree (updated want path (key.name, some)) b hive spelled path is_path key.name some here value.name value.kind value.«data» facts.few none in
        let others = values_written rest later all.1 next written next_built further in
        (others.0, ((legal, new), others.1), others.2)

    pub key_written : (tree : TreeMap) → IsBuilt tree (updated want path (key.name, finite.empty)) → AllByRecursion (IsToWrite key.values) (finite.entries key.values) → Makes moment tree (map (value_op hive spelled) (finite.values key.values)) (updated want path (key.name, key.values))
    key_written tree b all = values_written (finite.entries key.values) (entries_sorted key.values) all tree finite.empty b (has_none key.values)

  -- keys that are still to come are keys of the tree
  abbrev pub AreRows : List (List (List ℕ) × Row) → Type 0
  AreRows rest = AllByRecursion (λ e. row whole e.0 ≡ Some e.1) rest

  found_row : (rest : List (List (List ℕ) × Row)) → AreRows rest → (at : List (List ℕ)) (key : Row) → find path_order at rest ≡ Some key → row whole at ≡ Some key
  found_row [] all at key e = cc
  found_row (entry ∷ rest) all at key e = by_path (found_row rest all.1 at key) (eq_by_cmp path_order at entry.0) refl e
    where
      same_of : Some entry.1 ≡ Some key → entry.1 ≡ key
      same_of p = cc

      by_path : (find path_order at rest ≡ Some key → row whole at ≡ Some key) → (t : Bool) → eq_by_cmp path_order at entry.0 ≡ t → cond t (Some entry.1) (find path_order at rest) ≡ Some key → row whole at ≡ Some key
      by_path later true t p = ap (row whole) (eq_is at entry.0 t) ∙ all.0 ∙ ap Some (same_of p)
      by_path later false t p = later p

  pub empty_light : (values : ValueMap) → values_weight finite.empty ≤ values_weight values
  empty_light values = fewer_values finite.empty values (λ name. let none = ap (of_option value_weight) (get-empty name_order name) in omega (arith, none))

  pub bounded_wanted : (rest : List (List (List ℕ) × Row)) → AreRows rest → IsBounded whole (wanted whole rest)
  bounded_wanted rest all at its e = by_found at (row whole at) refl (find path_order at rest) refl e
    where
      of_content : (key : Row) (w : List ℕ × ValueMap) → Some (content key) ≡ Some w → content key ≡ w
      of_content key w p = cc

      of_root : (key : Row) (w : List ℕ × ValueMap) → Some (key.name, finite.empty) ≡ Some w → (key.name, finite.empty) ≡ w
      of_root key w p = cc

      by_found : (at : List (List ℕ)) (o : Option Row) → row whole at ≡ o → (found : Option Row) → find path_order at rest ≡ found → by_rest at o found ≡ Some its → IsPart whole at its
      by_found at None r None f p = cc
      by_found at (Some key) r None f p = subst (IsPart whole at) (of_content key its p) (record { key = key; there = r; name = omega arith; light = omega arith })
      by_found [] o r (Some key) f p = subst (IsPart whole []) (of_root key its p) (record { key = key; there = found_row rest all [] key f; name = omega arith; light = empty_light key.values })
      by_found (n ∷ at) o r (Some key) f p = cc

  -- behind a key the others are to come
  pub wanted_behind : (path : List (List ℕ)) (key : Row) (rest : List (List (List ℕ) × Row)) → row whole path ≡ Some key → T (below_all path_order path rest) → (at : List (List ℕ)) → updated (wanted whole ((path, key) ∷ rest)) path (key.name, key.values) at ≡ wanted whole rest at
  wanted_behind path key rest there apart at = by_path (eq_by_cmp path_order at path) refl
    where
      by_path : (t : Bool) → eq_by_cmp path_order at path ≡ t → cond t (Some (key.name, key.values)) (by_rest at (row whole at) (cond t (Some key) (find path_order at rest))) ≡ wanted whole rest at
      by_path true t =
          let same = eq_is at path t in
          sym (ap (wanted whole rest) same ∙ ap (by_rest path (row whole path)) (none_at paths_total path rest apart) ∙ ap (option_map content) there)
      by_path false t = refl

  -- one key
  module _ (is_tree : IsTree whole) (values_are : (path : List (List ℕ)) (key : Row) → row whole path ≡ Some key → AllByRecursion (IsToWrite key.values) (finite.entries key.values)) where
    abbrev pub named : List (List ℕ) × Row → List (List ℕ) × Row
    named entry = (spelled_names whole entry.0, entry.1)

    root_made : (key : Row) (rest : List (List (List ℕ) × Row)) (tree : TreeMap) → row whole [] ≡ Some key → AreRows rest → T (below_all path_order [] rest) → IsBuilt tree (wanted whole (([], key) ∷ rest)) → Makes moment tree (key_ops hive (spelled_names whole [], key)) (wanted whole rest)
    root_made key rest tree there all apart b =
        let want = wanted whole (([], key) ∷ rest) in
        let bounded = bounded_wanted (([], key) ∷ rest) (there, all) in
        let begun : IsBuilt tree (updated want [] (key.name, finite.empty)) = same_want tree want (updated want [] (key.name, finite.empty)) same b in
        let made = key_written [] [] refl key there want bounded tree begun (values_are [] key there) in
        (made.0, made.1, same_want made.0 (updated want [] (key.name, key.values)) (wanted whole rest) (wanted_behind [] key rest there apart) made.2)
      where
        same : (at : List (List ℕ)) → wanted whole (([], key) ∷ rest) at ≡ updated (wanted whole (([], key) ∷ rest)) [] (key.name, finite.empty) at
        same [] = refl
        same (n ∷ at) = refl

    creation_is : (front : List (List ℕ)) (name : List ℕ) → creation hive (front ++ name ∷ []) ≡ CreateKey hive (front ++ name ∷ []) ∷ []
    creation_is [] name = refl
    creation_is (m ∷ front) name = refl

    no_rest : (front : List (List ℕ)) (name : List ℕ) (o : Option Row) (key : Row) → by_rest (front ++ name ∷ []) o (Some key) ≡ None
    no_rest [] name o key = refl
    no_rest (m ∷ front) name o key = refl

    below_made : (front : List (List ℕ)) (name : List ℕ) (key : Row) (rest : List (List (List ℕ) × Row)) (tree : TreeMap) → row whole (front ++ name ∷ []) ≡ Some key → AreRows rest → T (below_all path_order (front ++ name ∷ []) rest)
        → IsBuilt tree (wanted whole ((front ++ name ∷ [], key) ∷ rest)) → Makes moment tree (key_ops hive (spelled_names whole (front ++ name ∷ []), key)) (wanted whole rest)
    below_made front name key rest tree there all apart b =
        let path = front ++ name ∷ [] in
        let want = wanted whole ((path, key) ∷ rest) in
        let bounded = bounded_wanted ((path, key) ∷ rest) (there, all) in
        let sp = spelled_names whole front in
        let spelled = sp ++ key.name ∷ [] in
        let names : spelled_names whole path ≡ spelled = spelled_more whole front name key there in
        let parent_there : IsSome (row whole front) = is_tree.parents front name (ap is_some there) in
        let front_is : folded_path sp ≡ front = folded_spelled whole is_tree front parent_there in
        let name_is : folded key.name ≡ name = is_tree.named front name key there in
        let path_is : folded_path sp ++ folded key.name ∷ [] ≡ path = ap₂ (λ f n. f ++ n ∷ []) front_is name_is in
        let whole_is : folded_path spelled ≡ path = sym (ap folded_path names) ∙ folded_spelled whole is_tree path (ap is_some there) in
        let above = parent_row parent_there in
        let free : row tree path ≡ None = no_key (row tree path) (subst (IsMade path (row tree path)) (want_none (eq_self path)) (b.made path)) in
        let its_above : row tree (folded_path sp) ≡ Some above.0 = ap (row tree) front_is ∙ above.1 in
        let its_free : row tree (folded_path sp ++ folded key.name ∷ []) ≡ None = ap (row tree) path_is ∙ free in
        let op = CreateKey hive spelled in
        let judged_is = create_judged tree want b hive sp key.name above.0 its_above its_free in
        let next_built = λ (m : ℕ). subst (λ p. IsBuilt (changed tree op m) (updated want p (key.name, finite.empty))) path_is (create_built tree want b hive sp key.name above.0 its_above its_free m) in
        let still = bounded_updated whole want path key finite.empty bounded there (empty_light key.values) in
        let less = built_weight (changed tree op 0) whole (updated want path (key.name, finite.empty)) (next_built 0) still in
        let legal : legal_in tree op ≡ Ok Legal = ap (λ j. legal_after op j (weight (changed tree op 0))) judged_is ∙ light_is_legal (weight (changed tree op 0)) (omega (arith, less, light)) in
        let made = key_written spelled path whole_is key there want bounded (changed tree op moment) (next_built moment) (values_are path key there) in
        let first : LegalSteps moment tree (creation hive spelled) (changed tree op moment) = subst (λ ops. LegalSteps moment tree ops (changed tree op moment)) (sym (creation_is sp key.name)) ((legal, tt), refl) in
        let steps = steps_both moment tree (changed tree op moment) made.0 (creation hive spelled) (map (value_op hive spelled) (finite.values key.values)) first made.1 in (
          made.0,
          subst (λ ns. LegalSteps moment tree (creation hive ns ++ map (value_op hive ns) (finite.values key.values)) made.0) (sym names) steps,
          same_want made.0 (updated want path (key.name, key.values)) (wanted whole rest) (wanted_behind path key rest there apart) made.2,
        )
      where
        no_key : (o : Option Row) → IsMade (front ++ name ∷ []) o None → o ≡ None
        no_key None m = refl
        no_key (Some k) m = absurd m

        want_none : eq_by_cmp path_order (front ++ name ∷ []) (front ++ name ∷ []) ≡ true → wanted whole ((front ++ name ∷ [], key) ∷ rest) (front ++ name ∷ []) ≡ None
        want_none self = ap (λ t. by_rest (front ++ name ∷ []) (row whole (front ++ name ∷ [])) (cond t (Some key) (find path_order (front ++ name ∷ []) rest))) self ∙ no_rest front name (row whole (front ++ name ∷ [])) key

        before : find path_order front ((front ++ name ∷ [], key) ∷ rest) ≡ None
        before =
            let less = parent_less front name in
            ap (λ o. cond (is_eq o) (Some key) (find path_order front rest)) less ∙ none_before paths_total front (front ++ name ∷ []) rest less apart

        parent_row : IsSome (row whole front) → (above : Row) × (row tree front ≡ Some above)
        parent_row s = by_made (row whole front) s (row tree front) refl (subst (IsMade front (row tree front)) (ap (by_rest front (row whole front)) before) (b.made front))
          where
            by_made : (o : Option Row) → IsSome o → (made : Option Row) → row tree front ≡ made → IsMade front made (option_map content o) → (above : Row) × (row tree front ≡ Some above)
            by_made None t made e m = absurd (none_some {A = Row} None refl t)
            by_made (Some k) t None e m = absurd m
            by_made (Some k) t (Some above) e m = (above, e)

    -- all keys
    pub keys_made : (rest : List (List (List ℕ) × Row)) → T (is_sorted path_order rest) → AreRows rest → (tree : TreeMap) → IsBuilt tree (wanted whole rest) → Makes moment tree (flat_map (key_ops hive) (map named rest)) (wanted whole [])
    keys_made [] sorted all tree b = (tree, refl, b)
    keys_made (entry ∷ rest) sorted all tree b =
        let apart = front_of (below_all path_order entry.0 rest) (is_sorted path_order rest) sorted in
        let later = back_of (below_all path_order entry.0 rest) (is_sorted path_order rest) sorted in
        let one = by_path entry.0 (root_or_below entry.0) entry.1 all.0 apart b in
        let others = keys_made rest later all.1 one.0 one.2 in
        (others.0, steps_both moment tree one.0 others.0 (key_ops hive (named entry)) (flat_map (key_ops hive) (map named rest)) one.1 others.1, others.2)
      where
        by_path : (path : List (List ℕ)) → (path ≡ []) ⊎ ((front : List (List ℕ)) × (name : List ℕ) × (path ≡ front ++ name ∷ [])) → (key : Row) → row whole path ≡ Some key → T (below_all path_order path rest) → IsBuilt tree (wanted whole ((path, key) ∷ rest))
            → Makes moment tree (key_ops hive (spelled_names whole path, key)) (wanted whole rest)
        by_path path (inl e) key there apart made =
            let At : List (List ℕ) → Type 0 = λ p. row whole p ≡ Some key → T (below_all path_order p rest) → IsBuilt tree (wanted whole ((p, key) ∷ rest)) → Makes moment tree (key_ops hive (spelled_names whole p, key)) (wanted whole rest) in
            subst At (sym e) (λ t a m. root_made key rest tree t all.1 a m) there apart made
        by_path path (inr below) key there apart made =
            let At : List (List ℕ) → Type 0 = λ p. row whole p ≡ Some key → T (below_all path_order p rest) → IsBuilt tree (wanted whole ((p, key) ∷ rest)) → Makes moment tree (key_ops hive (spelled_names whole p, key)) (wanted whole rest) in
            subst At (sym below.2) (λ t a m. below_made below.0 below.1 key rest tree t all.1 a m) there apart made

-- what a call tree has is to be written
pub call_values : (path : List (List ℕ)) (key : Row) → IsCallKey path key → AllByRecursion (IsToWrite key.values) (finite.entries key.values)
call_values path key call = all_then (λ e. finite.get key.values e.0 ≡ Some e.1) (IsToWrite key.values) (λ e its. let facts = call.values e.0 e.1 its in record { its = its; filed = facts.filed; few = facts.few }) (finite.entries key.values) (each_got names_total key.values)

pub record Rebuilt (tree : TreeMap) (hive moment : ℕ) : Type 0 where
  pub new : TreeMap
  pub steps : LegalSteps moment fresh_tree (tree_ops hive tree) new
  pub same : SameContent tree new

-- what is built has the content
pub built_same : (tree new : TreeMap) → IsBuilt new (wanted tree []) → SameContent tree new
built_same tree new built path = by_row (row tree path) (row new path) (built.made path)
  where
    by_row : (o n : Option Row) → IsMade path n (option_map content o) → HasSameKey path o n
    by_row None None m = tt
    by_row None (Some key) m = absurd m
    by_row (Some key) None m = absurd m
    by_row (Some key) (Some other) m = ((λ deep. sym (m.named deep)), sym m.values)

pub tree_rebuilt : (tree : TreeMap) (hive moment : ℕ) → IsCallTree tree → Rebuilt tree hive moment
tree_rebuilt tree hive moment call =
    let made = keys_made tree call.light hive moment call.is_tree (λ path key there. call_values path key (call.keys path key there)) (finite.entries tree) (entries_sorted tree) (each_got paths_total tree) fresh_tree (fresh_built tree call.is_tree) in
    record { new = made.0; steps = made.1; same = built_same tree made.0 made.2 }
