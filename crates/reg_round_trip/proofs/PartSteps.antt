-- A part of a tree, made in a new one.
use Rattle.std.proofs.Common.{◌≡◌, ℕ, Bool, true, false, cond, ◌&&◌, T, List, [], ◌∷◌, ◌++◌, map, length, filter, Option, Some, None, refl, sym, ◌∙◌, ap, ap₂, arith, append-nil}
use Rattle.std.specs.Prelude.{nat_lt}
use Rattle.std.specs.Option.{option_map}
use Rattle.std.specs.List.{AllByRecursion}
use Rattle.std.specs.declared.cmp.Ordering.TheVariants.{Less}
use Rattle.std.specs.Ordering.{eq_by_cmp, ordering_then}
use Rattle.std.specs.Cmp.{tied_itself}
use Rattle.std.specs.FinMap as finite
use Rattle.std.specs.FinMap.{get-entries}
use Rattle.std.specs.FinMap.Entries.{find, is_sorted, below_all, find-where_key}
use Rattle.std.proofs.lemmas.List.{length-append}
use Rattle.std.proofs.lemmas.Bool.Decides.{nat_tests}
use Rattle.reg_tree_parts.specs.Orders.{path_order}
use Rattle.reg_tree_parts.specs.Rows.{Row}
use Rattle.reg_tree_parts.specs.Nodes.{begins_path}
use Rattle.reg_tree_parts.proofs.Keys.{paths_total, paths_apart, names_total}
use Rattle.reg_tree_parts.proofs.SortedLists.{front_of}
use Rattle.reg_tree.specs.Maps.{TreeMap, row, beginnings, IsTree}
use Rattle.reg_tree.proofs.Paths.{eq_self, eq_is, begins-append, split_begins, longer_begins, name_self}
use Rattle.key_walk.specs.KeyRows.{NamedRow, name_of_row, spelled_names}
use Rattle.reg_round_trip.specs.Parts.{emptied}
use Rattle.reg_round_trip.proofs.Units.{not_both}
use Rattle.reg_round_trip.proofs.SortedKeys.{none_before}
use Rattle.reg_round_trip.proofs.PartTrees.{shorter_begins, part, row_inside, row_above}

-- a path comes before those that go on from it
path_less : (path : List (List ℕ)) (n : List ℕ) (rest : List (List ℕ)) → path_order path (path ++ n ∷ rest) ≡ Less
path_less [] n rest = refl
path_less (m ∷ path) n rest = ap (λ o. ordering_then o (path_order path (path ++ n ∷ rest))) (tied_itself names_total m) ∙ path_less path n rest

pub self_begins : (path : List (List ℕ)) → begins_path path path ≡ true
self_begins path = ap (begins_path path) (sym (append-nil path)) ∙ begins-append path []

pub begun_less : (top path : List (List ℕ)) → begins_path top path ≡ true → (path ≡ top → ⊥) → path_order top path ≡ Less
begun_less top path on differ = by_rest_of (split_begins top path on)
  where
    by_rest_of : ((r : List (List ℕ)) × (path ≡ top ++ r)) → path_order top path ≡ Less
    by_rest_of ([], e) = absurd (differ (e ∙ append-nil top))
    by_rest_of (n ∷ r, e) = ap (path_order top) e ∙ path_less top n r

-- two paths that begin each other are one
pub both_begin : (one two : List (List ℕ)) → begins_path one two ≡ true → begins_path two one ≡ true → one ≡ two
both_begin one two a b = by_lengths (split_begins one two a) (split_begins two one b)
  where
    by_lengths : ((r : List (List ℕ)) × (two ≡ one ++ r)) → ((s : List (List ℕ)) × (one ≡ two ++ s)) → one ≡ two
    by_lengths ([], e) s = sym (e ∙ append-nil one)
    by_lengths (n ∷ r, e) s = absurd (longer_not (ap length e) (ap length s.1))
      where
        longer_not : length two ≡ length (one ++ n ∷ r) → length one ≡ length (two ++ s.0) → ⊥
        longer_not x y = let p = length-append one (n ∷ r) in let q = length-append two s.0 in omega (arith, x, y, p, q)

-- what passes a test, and is so of all
pub filter_all : {X : Type 0} (f : X → Bool) (Q : X → Type 0) (xs : List X) → AllByRecursion Q xs → AllByRecursion (λ x. (f x ≡ true) × Q x) (filter f xs)
filter_all f Q [] all = tt
filter_all f Q (x ∷ xs) all = by_test (f x) refl (filter_all f Q xs all.1)
  where
    by_test : (t : Bool) → f x ≡ t → AllByRecursion (λ y. (f y ≡ true) × Q y) (filter f xs) → AllByRecursion (λ y. (f y ≡ true) × Q y) (cond t (x ∷ filter f xs) (filter f xs))
    by_test true e rest = ((e, all.0), rest)
    by_test false e rest = rest

pub all_left_of : {X : Type 0} (P Q : X → Type 0) (xs : List X) → AllByRecursion (λ x. P x × Q x) xs → AllByRecursion P xs
all_left_of P Q [] all = tt
all_left_of P Q (x ∷ xs) all = (all.0.0, all_left_of P Q xs all.1)

-- the keys at a path and below it begin with the one at the path
abbrev pub Entry : Type 0
Entry = List (List ℕ) × Row

abbrev pub inside : TreeMap → List (List ℕ) → List Entry
inside tree top = filter (λ entry. begins_path top entry.0) (finite.entries tree)

pub first_of : (top : List (List ℕ)) (key : Row) (es : List Entry) → T (is_sorted path_order es) → find path_order top es ≡ Some key → AllByRecursion (λ e. begins_path top e.0 ≡ true) es → (rest : List Entry) × (es ≡ (top, key) ∷ rest)
first_of top key [] sorted found all = cc
first_of top key (e ∷ rest) sorted found all = by_path (eq_by_cmp path_order top e.0) refl found
  where
    same_key : Some e.1 ≡ Some key → e.1 ≡ key
    same_key p = cc

    none_found : find path_order top rest ≡ None → find path_order top rest ≡ Some key → ⊥
    none_found a b = cc

    by_path : (t : Bool) → eq_by_cmp path_order top e.0 ≡ t → cond t (Some e.1) (find path_order top rest) ≡ Some key → (others : List Entry) × (e ∷ rest ≡ (top, key) ∷ others)
    by_path true t p =
        let path = sym (eq_is top e.0 t) in
        let its = same_key p in
        (rest, λ i. (path i, its i) ∷ rest)
    by_path false t p =
        let less = begun_less top e.0 all.0 (λ same. not_both (eq_by_cmp path_order top e.0) (ap (eq_by_cmp path_order top) same ∙ eq_self top) t) in
        absurd (none_found (none_before paths_total top e.0 rest less (front_of (below_all path_order e.0 rest) (is_sorted path_order rest) sorted)) p)

pub found_inside : (tree : TreeMap) (top path : List (List ℕ)) → find path_order path (inside tree top) ≡ cond (begins_path top path) (row tree path) None
found_inside tree top path =
    find-where_key path_order (begins_path top) path (λ x tied. ap (begins_path top) (sym (paths_apart path x tied))) (finite.entries tree) ∙ ap (λ o. cond (begins_path top path) o None) (sym (get-entries tree path))

-- the names along a path inside are the same in the part
map_beginnings : (f g : List (List ℕ) → List ℕ) (path : List (List ℕ)) → ((start : List (List ℕ)) → begins_path start path ≡ true → f start ≡ g start) → map f (beginnings path) ≡ map g (beginnings path)
map_beginnings f g [] h = refl
map_beginnings f g (n ∷ path) h = ap₂ (λ x xs. x ∷ xs) (h (n ∷ []) (ap (λ b. b && true) (name_self n)))
    (through f (beginnings path) ∙ map_beginnings (λ start. f (n ∷ start)) (λ start. g (n ∷ start)) path (λ start on. h (n ∷ start) (ap (λ b. b && begins_path start path) (name_self n) ∙ on)) ∙ sym (through g (beginnings path)))
  where
    through : (k : List (List ℕ) → List ℕ) (starts : List (List (List ℕ))) → map k (map (λ rest. n ∷ rest) starts) ≡ map (λ start. k (n ∷ start)) starts
    through k [] = refl
    through k (start ∷ starts) = ap (λ xs. k (n ∷ start) ∷ xs) (through k starts)

module _ (tree : TreeMap) (is_tree : IsTree tree) (top : List (List ℕ)) where
  same_name : (path start : List (List ℕ)) → begins_path top path ≡ true → begins_path start path ≡ true → name_of_row (row (part tree is_tree top) start) ≡ name_of_row (row tree start)
  same_name path start on begun = by_inside (begins_path top start) refl
    where
      above : begins_path top start ≡ false → begins_path start top ≡ true
      above off =
          let s = split_begins start path begun in
          let whole : begins_path top (start ++ s.0) ≡ true = ap (begins_path top) (sym s.1) ∙ on in
          by_length (nat_lt (length start) (length top)) refl whole
        where
          by_length : (t : Bool) → nat_lt (length start) (length top) ≡ t → begins_path top (start ++ (split_begins start path begun).0) ≡ true → begins_path start top ≡ true
          by_length true t whole = longer_begins start (split_begins start path begun).0 top whole t
          by_length false t whole = absurd (not_both (begins_path top start) (shorter_begins start (split_begins start path begun).0 top whole (grind (arith, nat_tests, t))) off)

      bare_name : (o : Option Row) → name_of_row (option_map emptied o) ≡ name_of_row o
      bare_name None = refl
      bare_name (Some key) = refl

      by_inside : (t : Bool) → begins_path top start ≡ t → name_of_row (row (part tree is_tree top) start) ≡ name_of_row (row tree start)
      by_inside true t = ap name_of_row (row_inside tree is_tree top start t)
      by_inside false t = ap name_of_row (row_above tree is_tree top start t (above t)) ∙ bare_name (row tree start)

  same_spelled : (path : List (List ℕ)) → begins_path top path ≡ true → spelled_names (part tree is_tree top) path ≡ spelled_names tree path
  same_spelled path on = map_beginnings (λ start. name_of_row (row (part tree is_tree top) start)) (λ start. name_of_row (row tree start)) path (λ start begun. same_name path start on begun)

  pub same_rows : (es : List Entry) → AllByRecursion (λ e. begins_path top e.0 ≡ true) es → ◌≡◌ {A = List NamedRow} (map (λ e. (spelled_names (part tree is_tree top) e.0, e.1)) es) (map (λ e. (spelled_names tree e.0, e.1)) es)
  same_rows [] all = refl
  same_rows (e ∷ es) all = ap₂ {C = List NamedRow} (λ names rows. (names, e.1) ∷ rows) (same_spelled e.0 all.0) (same_rows es all.1)
