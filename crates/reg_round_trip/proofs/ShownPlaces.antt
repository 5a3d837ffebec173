-- The path of a key behind the prefix of its hive leads to that key.
use Rattle.std.proofs.Common.{◌≡◌, ℕ, suc, ◌+◌, ◌<◌, ◌≤◌, Bool, true, false, cond, ◌&&◌, List, [], ◌∷◌, ◌++◌, length, drop, Option, Some, None, Ok, refl, sym, ◌∙◌, ap, ap₂, subst, arith, append-nil}
use Rattle.std.specs.Prelude.{◌==◌, All, nat_le, slice_index_or, not}
use Rattle.std.specs.List.{AllByRecursion, flat_map, list_all, slice_split}
use Rattle.std.proofs.lemmas.Bool.Decides.{Decides-eqb, nat_tests}
use Rattle.std.proofs.lemmas.List.Splits.{slice_split_none, slice_split_at}
use Rattle.refusals.specs.declared.limits.TheConstants.{MOST_PATH_NAMES}
use Rattle.reg_names.specs.Names.{fold_unit, is_name_unit, is_key_unit, is_key_name, path_names, path_if, path_of}
use Rattle.reg_names.proofs.Parts.{names_are_parts, no_names}
use Rattle.reg_prefixes.specs.declared.prefix.Prefix.{Prefix}
use Rattle.std.specs.Option.{option_map}
use Rattle.reg_prefixes.specs.Places.{begins, longer, longest_in, joined_path, led_by, place_in, leads_to_root, shown_in}
use Rattle.reg_export.specs.RegTexts.{reg_path}
use Rattle.reg_round_trip.specs.Shown.{PrefixesAreApart}
use Rattle.reg_round_trip.proofs.Units.{all_then, both_true, not_both, not_true, not_false}
use Rattle.std.proofs.lemmas.List.{length-append}
use Rattle.reg_round_trip.proofs.TextLines.{by_index}
use Rattle.reg_round_trip.proofs.CallNames.{key_units, key_length}

-- the names behind a prefix, and the same without the first backslash
abbrev behind : List (List ℕ) → List ℕ
behind names = flat_map (λ name. 92 ∷ name) names

abbrev pub joined : List (List ℕ) → List ℕ
joined [] = []
joined (name ∷ names) = name ++ behind names

-- a prefix begins its own paths
self_test : (u : ℕ) → (u == u) ≡ true
self_test u = (Decides-eqb u u).1 refl

begins_own : (prefix : List ℕ) (names : List (List ℕ)) → begins prefix (prefix ++ behind names) ≡ true
begins_own [] [] = refl
begins_own [] (name ∷ names) = refl
begins_own (u ∷ prefix) names = ap (λ t. t && begins prefix (prefix ++ behind names)) (self_test (fold_unit u)) ∙ begins_own prefix names

-- and no path of another one, if neither begins the other
folded_backslash : (u : ℕ) → (u == 92) ≡ false → (fold_unit u == 92) ≡ false
folded_backslash u h = by_test (fold_unit u == 92) refl
  where
    by_test : (t : Bool) → (fold_unit u == 92) ≡ t → t ≡ false
    by_test false e = refl
    by_test true e = let folds : fold_unit u ≡ 92 = (Decides-eqb (fold_unit u) 92).0 e in absurd (not_both (u == 92) ((Decides-eqb u 92).1 (is_backslash folds)) h)
      where
        is_backslash : fold_unit u ≡ 92 → u ≡ 92
        is_backslash f = grind (arith, nat_tests, f)

begins_no_other : (other prefix : List ℕ) (names : List (List ℕ)) → begins other prefix ≡ false → begins prefix other ≡ false → begins other (prefix ++ behind names) ≡ false
begins_no_other [] [] names one two = absurd (not_false one)
begins_no_other [] (u ∷ prefix) names one two = one
begins_no_other (u ∷ other) [] [] one two = refl
begins_no_other (u ∷ other) [] (name ∷ names) one two = ap (λ t. t && begins other (name ++ behind names)) (folded_backslash u two)
begins_no_other (u ∷ other) (v ∷ prefix) names one two = by_test (begins_no_other other prefix names) (fold_unit u == fold_unit v) refl
  where
    by_test : (begins other prefix ≡ false → begins prefix other ≡ false → begins other (prefix ++ behind names) ≡ false) → (t : Bool) → (fold_unit u == fold_unit v) ≡ t → (fold_unit u == fold_unit v && begins other (prefix ++ behind names)) ≡ false
    by_test later false e = ap (λ t. t && begins other (prefix ++ behind names)) e
    by_test later true e =
        let same : fold_unit u ≡ fold_unit v = (Decides-eqb (fold_unit u) (fold_unit v)).0 e in
        let back : (fold_unit v == fold_unit u) ≡ true = (Decides-eqb (fold_unit v) (fold_unit u)).1 (sym same) in
        let first : begins other prefix ≡ false = sym (ap (λ t. t && begins other prefix) e) ∙ one in
        let second : begins prefix other ≡ false = sym (ap (λ t. t && begins prefix other) back) ∙ two in
        ap (λ t. t && begins other (prefix ++ behind names)) e ∙ later first second

-- what is so of all prefixes is so of one that is shown
pub shown_all : (P : List ℕ → Type 0) (prefixes : List Prefix) → AllByRecursion (λ (prefix : Prefix). P prefix.text.items) prefixes → (hive : ℕ) (text : List ℕ) → shown_in prefixes hive ≡ Some text → P text
shown_all P [] all hive text e = cc
shown_all P (prefix ∷ prefixes) all hive text e = by_root (shown_all P prefixes all.1 hive text) (leads_to_root hive prefix) e
  where
    same_of : Some prefix.text.items ≡ Some text → prefix.text.items ≡ text
    same_of p = cc

    by_root : (shown_in prefixes hive ≡ Some text → P text) → (t : Bool) → cond t (Some prefix.text.items) (shown_in prefixes hive) ≡ Some text → P text
    by_root later true p = subst P (same_of p) all.0
    by_root later false p = later p

-- the others of a prefix, one by one
abbrev IsApart : Prefix → Prefix → Type 0
IsApart prefix other = (begins prefix.text.items other.text.items ≡ false) × (begins other.text.items prefix.text.items ≡ false)

all_at : {X : Type 0} (P : X → Type 0) (d : X) (xs : List X) → ((k : ℕ) → k < length xs → P (slice_index_or xs k d)) → AllByRecursion P xs
all_at P d [] h = tt
all_at P d (x ∷ xs) h = (h 0 (omega arith), all_at P d xs (λ k less. h (suc k) (omega (arith, less))))

apart_first : (prefix : Prefix) (prefixes : List Prefix) → PrefixesAreApart (prefix ∷ prefixes) → AllByRecursion (IsApart prefix) prefixes
apart_first prefix prefixes apart = all_at (IsApart prefix) prefix prefixes (λ k less. (apart 0 (omega arith) (suc k) prefix (omega (arith, less)) (λ e. absurd (omega (arith, e))), apart (suc k) (omega (arith, less)) 0 prefix (omega arith) (λ e. absurd (omega (arith, e)))))

apart_rest : (prefix : Prefix) (prefixes : List Prefix) → PrefixesAreApart (prefix ∷ prefixes) → PrefixesAreApart prefixes
apart_rest prefix prefixes apart at within other d inside differ = apart (suc at) (omega (arith, within)) (suc other) d (omega (arith, inside)) (λ e. differ (omega (arith, e)))

drop_prefix : (prefix : List ℕ) (names : List (List ℕ)) → drop (length prefix + 1) (prefix ++ behind names) ≡ joined names
drop_prefix prefix names = ap (λ n. drop n (prefix ++ behind names)) one ∙ dropped prefix names
  where
    one : length prefix + 1 ≡ suc (length prefix)
    one = omega arith

    dropped : (p : List ℕ) (ns : List (List ℕ)) → drop (suc (length p)) (p ++ behind ns) ≡ joined ns
    dropped [] [] = refl
    dropped [] (n ∷ ns) = refl
    dropped (u ∷ p) ns = dropped p ns

-- the prefix that is shown is the longest one that its paths begin with, since no other one fits
none_fits : (prefixes : List Prefix) (text : List ℕ) → AllByRecursion (λ (q : Prefix). begins q.text.items text ≡ false) prefixes → longest_in prefixes text ≡ None
none_fits [] text all = refl
none_fits (q ∷ prefixes) text all = ap (λ b. cond b (Some (longer q (longest_in prefixes text))) (longest_in prefixes text)) all.0 ∙ none_fits prefixes text all.1

pub record IsShownBy (prefixes : List Prefix) (hive : ℕ) (prefix : List ℕ) (names : List (List ℕ)) : Type 0 where
  pub its : Prefix
  pub longest : longest_in prefixes (reg_path prefix names) ≡ Some its
  pub text : its.text.items ≡ prefix
  pub number : its.hive ≡ hive
  pub root : (length its.key.items == 0) ≡ true

shown_longest : (prefixes : List Prefix) → PrefixesAreApart prefixes → (hive : ℕ) (prefix : List ℕ) → shown_in prefixes hive ≡ Some prefix → (names : List (List ℕ)) → IsShownBy prefixes hive prefix names
shown_longest [] apart hive prefix e names = absurd (bad e)
  where
    bad : ◌≡◌ {A = Option (List ℕ)} None (Some prefix) → ⊥
    bad h = cc
shown_longest (first ∷ prefixes) apart hive prefix e names = by_root (shown_longest prefixes (apart_rest first prefixes apart) hive prefix) (leads_to_root hive first) refl e
  where
    text : List ℕ
    text = reg_path prefix names

    same_of : Some first.text.items ≡ Some prefix → first.text.items ≡ prefix
    same_of p = cc

    no_other : first.text.items ≡ prefix → AllByRecursion (λ (q : Prefix). begins q.text.items text ≡ false) prefixes
    no_other same = all_then (IsApart first) (λ (q : Prefix). begins q.text.items text ≡ false)
        (λ q a. begins_no_other q.text.items prefix names (subst (λ p. begins q.text.items p ≡ false) same a.1) (subst (λ p. begins p q.text.items ≡ false) same a.0)) prefixes (apart_first first prefixes apart)

    by_root : (shown_in prefixes hive ≡ Some prefix → (ns : List (List ℕ)) → IsShownBy prefixes hive prefix ns) → (t : Bool) → leads_to_root hive first ≡ t → cond t (Some first.text.items) (shown_in prefixes hive) ≡ Some prefix → IsShownBy (first ∷ prefixes) hive prefix names
    by_root later true t p =
        let same = same_of p in
        let two = both_true (first.hive == hive) (length first.key.items == 0) t in
        let own : begins first.text.items text ≡ true = ap (λ q. begins q text) same ∙ begins_own prefix names in
        record {
          its = first;
          longest = ap (λ b. cond b (Some (longer first (longest_in prefixes text))) (longest_in prefixes text)) own ∙ ap (λ o. Some (longer first o)) (none_fits prefixes text (no_other same));
          text = same;
          number = (Decides-eqb first.hive hive).0 two.0;
          root = two.1;
        }
    by_root later false t p =
        let others = shown_all (λ q. (begins first.text.items q ≡ false) × (begins q first.text.items ≡ false)) prefixes (apart_first first prefixes apart) hive prefix p in
        let rest = later p names in
        record {
          its = rest.its;
          longest = ap (λ b. cond b (Some (longer first (longest_in prefixes text))) (longest_in prefixes text)) (begins_no_other first.text.items prefix names others.0 others.1) ∙ rest.longest;
          text = rest.text;
          number = rest.number;
          root = rest.root;
        }

pub place_shown : (prefixes : List Prefix) → PrefixesAreApart prefixes → (hive : ℕ) (prefix : List ℕ) → shown_in prefixes hive ≡ Some prefix → (names : List (List ℕ)) → place_in prefixes (reg_path prefix names) ≡ Some (hive, joined names)
place_shown prefixes apart hive prefix e names =
    let s = shown_longest prefixes apart hive prefix e names in
    let its = s.its in
    let text = reg_path prefix names in
    let rest = drop (length its.text.items + 1) text in
    let key = its.key.items in
    ap (option_map (led_by text)) s.longest ∙ ap (λ test. Some (its.hive, cond test rest (cond (length rest == 0) key (key ++ 92 ∷ rest)))) s.root
    ∙ ap₂ (λ h r. Some (h, r)) s.number (ap (λ q. drop (length q + 1) text) s.text ∙ drop_prefix prefix names)

-- the names of the path are read back
no_separator : (name : List ℕ) → is_key_name name ≡ true → All (λ u. (u == 92) ≡ false) name
no_separator name h = by_index (λ u. (u == 92) ≡ false) name (all_then (λ u. is_key_unit u ≡ true) (λ u. (u == 92) ≡ false) (λ u k. not_it (u == 92) (both_true (is_name_unit u) (not (u == 92)) k).1) name (key_units name h))
  where
    not_it : (t : Bool) → not t ≡ true → t ≡ false
    not_it false e = refl
    not_it true e = absurd (not_true e)

split_joined : (name : List ℕ) (names : List (List ℕ)) → AllByRecursion (λ n. is_key_name n ≡ true) (name ∷ names) → slice_split (λ v. v == 92) (name ++ behind names) ≡ name ∷ names
split_joined name [] all = ap (slice_split (λ v. v == 92)) (append-nil name) ∙ slice_split_none (λ v. v == 92) name (no_separator name all.0)
split_joined name (next ∷ names) all = slice_split_at (λ v. v == 92) name 92 (next ++ behind names) (no_separator name all.0) refl ∙ ap (λ ns. name ∷ ns) (split_joined next names all.1)

names_read : (names : List (List ℕ)) → AllByRecursion (λ n. is_key_name n ≡ true) names → path_names (joined names) ≡ names
names_read [] all = no_names [] refl
names_read (name ∷ names) all = names_are_parts (name ++ behind names) (some name (key_length name all.0).0) ∙ split_joined name names all
  where
    some : (n : List ℕ) → 1 ≤ length n → length (n ++ behind names) ≡ 0 → ⊥
    some n h e = let whole = length-append n (behind names) in omega (arith, h, e, whole)

all_names : (names : List (List ℕ)) → AllByRecursion (λ n. is_key_name n ≡ true) names → list_all is_key_name names ≡ true
all_names [] all = refl
all_names (name ∷ names) all = ap₂ (λ a b. a && b) all.0 (all_names names all.1)

pub path_read : (names : List (List ℕ)) → AllByRecursion (λ n. is_key_name n ≡ true) names → length names ≤ MOST_PATH_NAMES → path_of (joined names) ≡ Ok names
path_read names all short =
    let shallow : nat_le (length names) MOST_PATH_NAMES ≡ true = grind (arith, nat_tests, short) in
    ap (λ ns. path_if (list_all is_key_name ns) (nat_le (length ns) MOST_PATH_NAMES) ns) (names_read names all)
    ∙ ap (λ b. path_if b (nat_le (length names) MOST_PATH_NAMES) names) (all_names names all) ∙ ap (λ b. path_if true b names) shallow
