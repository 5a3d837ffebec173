-- Trees of the same content are shown by the same registration file.
use Rattle.std.proofs.Common.{◌≡◌, ℕ, ◌+◌, List, [], ◌∷◌, ◌++◌, map, Option, Some, None, refl, sym, ◌∙◌, ap, ap₂, arith, codes}
use Rattle.std.specs.List.{AllZip, flat_map}
use Rattle.std.specs.Option.{option_map}
use Rattle.std.specs.FinMap as finite
use Rattle.std.specs.FinMap.{entries_sorted, get-entries, get-from_sorted, entries-from_sorted, same_map}
use Rattle.std.specs.FinMap.Entries.{find}
use Rattle.reg_tree_parts.specs.Orders.{path_order}
use Rattle.reg_tree_parts.specs.Rows.{Row, ValueMap}
use Rattle.reg_tree_parts.proofs.Keys.{paths_total, paths_apart}
use Rattle.reg_tree.specs.Maps.{TreeMap, row, beginnings}
use Rattle.key_walk.specs.KeyRows.{NamedRow, name_of_row, spelled_names, tree_rows}
use Rattle.reg_prefixes.specs.declared.prefix.Prefix.{Prefix}
use Rattle.reg_export.specs.Encodings.{encoded, mark}
use Rattle.reg_export.specs.RegTexts.{line, reg_header, reg_path, reg_value_line, reg_key_lines, reg_hive_lines}
use Rattle.reg_export.specs.declared.encoding.Encoding.{Encoding}
use Rattle.reg_export.specs.RegFiles.{reg_text}
use Rattle.reg_round_trip.specs.Contents.{HasSameKey, SameContent}
use Rattle.reg_round_trip.proofs.SortedKeys.{mapped, sorted_mapped, find_mapped}
use Rattle.store_export.specs.Exports.{all_rows, prefix_of, with_prefix}
use Rattle.reg_round_trip.specs.Shown.{exported}

-- what a file shows of a key: its names and values
abbrev Seen : Type 0
Seen = List (List ℕ) × ValueMap

abbrev seen : NamedRow → Seen
seen key = (key.0, let its = key.1 in its.values)

seen_lines : List ℕ → Seen → List ℕ
seen_lines prefix key = line (codes "[" ++ reg_path prefix key.0 ++ codes "]") ++ flat_map reg_value_line (finite.values key.1) ++ line []

by_seen : {X Y Z : Type 0} (f : X → List Z) (g : Y → List Z) (h : X → Y) → ((x : X) → f x ≡ g (h x)) → (xs : List X) → flat_map f xs ≡ flat_map g (map h xs)
by_seen f g h same [] = refl
by_seen f g h same (x ∷ xs) = ap₂ (λ a b. a ++ b) (same x) (by_seen f g h same xs)

lines_seen : (prefix : List ℕ) (key : NamedRow) → reg_key_lines prefix key ≡ seen_lines prefix (seen key)
unfolding seen_lines
lines_seen prefix key = refl

-- the values at paths
abbrev its_values : Row → ValueMap
its_values key = key.values

abbrev valued : List (List (List ℕ) × Row) → List (List (List ℕ) × ValueMap)
valued es = mapped path_order (λ path key. its_values key) es

-- with the names as a tree spells them
abbrev with_names : TreeMap → List (List ℕ) × ValueMap → Seen
with_names tree its = (spelled_names tree its.0, its.1)

module _ (tree other : TreeMap) (same : SameContent tree other) where
  same_values : (path : List (List ℕ)) (o n : Option Row) → HasSameKey path o n → option_map its_values o ≡ option_map its_values n
  same_values path None None h = refl
  same_values path None (Some key) h = absurd h
  same_values path (Some key) None h = absurd h
  same_values path (Some key) (Some its) h = ap Some h.1

  found_same : (q : List (List ℕ)) → find path_order q (valued (finite.entries tree)) ≡ find path_order q (valued (finite.entries other))
  found_same q =
      find_mapped path_order (λ path key. its_values key) paths_apart q (finite.entries tree) ∙ ap (option_map its_values) (sym (get-entries tree q)) ∙ same_values q (row tree q) (row other q) (same q)
      ∙ ap (option_map its_values) (get-entries other q) ∙ sym (find_mapped path_order (λ path key. its_values key) paths_apart q (finite.entries other))

  same_valued : valued (finite.entries tree) ≡ valued (finite.entries other)
  same_valued =
      let one = sorted_mapped path_order (λ path key. its_values key) (finite.entries tree) (entries_sorted tree) in
      let two = sorted_mapped path_order (λ path key. its_values key) (finite.entries other) (entries_sorted other) in
      let maps : finite.from_sorted {R = path_order} (valued (finite.entries tree)) ≡ finite.from_sorted {R = path_order} (valued (finite.entries other)) =
      same_map paths_total paths_apart _ _ (λ q. get-from_sorted path_order (valued (finite.entries tree)) q one ∙ found_same q ∙ sym (get-from_sorted path_order (valued (finite.entries other)) q two)) in
      sym (entries-from_sorted path_order (valued (finite.entries tree)) one) ∙ ap finite.entries maps ∙ entries-from_sorted path_order (valued (finite.entries other)) two

  -- the names along a path
  same_name : (n : List ℕ) (path : List (List ℕ)) → name_of_row (row tree (n ∷ path)) ≡ name_of_row (row other (n ∷ path))
  same_name n path = by_key (row tree (n ∷ path)) (row other (n ∷ path)) (same (n ∷ path))
    where
      by_key : (o p : Option Row) → HasSameKey (n ∷ path) o p → name_of_row o ≡ name_of_row p
      by_key None None h = refl
      by_key None (Some key) h = absurd h
      by_key (Some key) None h = absurd h
      by_key (Some key) (Some its) h = h.0 (omega arith)

  same_spelled : (path : List (List ℕ)) → spelled_names tree path ≡ spelled_names other path
  same_spelled [] = refl
  same_spelled (n ∷ path) = ap₂ (λ x xs. x ∷ xs) (same_name n []) (longer (beginnings path))
    where
      longer : (starts : List (List (List ℕ))) → map (λ start. name_of_row (row tree start)) (map (λ rest. n ∷ rest) starts) ≡ map (λ start. name_of_row (row other start)) (map (λ rest. n ∷ rest) starts)
      longer [] = refl
      longer (start ∷ starts) = ap₂ (λ x xs. x ∷ xs) (same_name n start) (longer starts)

  seen_of : (whole : TreeMap) (es : List (List (List ℕ) × Row)) → map seen (map (λ e. (spelled_names whole e.0, e.1)) es) ≡ map (with_names whole) (valued es)
  seen_of whole [] = refl
  seen_of whole (e ∷ es) = ap (λ xs. (spelled_names whole e.0, let its = e.1 in its.values) ∷ xs) (seen_of whole es)

  other_names : (vs : List (List (List ℕ) × ValueMap)) → map (with_names tree) vs ≡ map (with_names other) vs
  other_names [] = refl
  other_names (v ∷ vs) = ap₂ {C = List Seen} (λ names xs. (names, v.1) ∷ xs) (same_spelled v.0) (other_names vs)

  pub same_seen : map seen (tree_rows tree) ≡ map seen (tree_rows other)
  same_seen = seen_of tree (finite.entries tree) ∙ other_names (valued (finite.entries tree)) ∙ ap (map (with_names other)) same_valued ∙ sym (seen_of other (finite.entries other))

-- hives one by one
same_texts : (prefixes : List Prefix) (hive : ℕ) (trees others : List TreeMap) → AllZip SameContent trees others → flat_map reg_hive_lines (map (with_prefix prefixes) (all_rows hive trees)) ≡ flat_map reg_hive_lines (map (with_prefix prefixes) (all_rows hive others))
same_texts prefixes hive [] [] same = refl
same_texts prefixes hive [] (other ∷ others) same = absurd same
same_texts prefixes hive (tree ∷ trees) [] same = absurd same
same_texts prefixes hive (tree ∷ trees) (other ∷ others) same =
    let prefix = prefix_of prefixes hive in
    let seen_same = same_seen tree other same.0 in
    let lines : reg_hive_lines (prefix, tree_rows tree) ≡ reg_hive_lines (prefix, tree_rows other) =
    by_seen (reg_key_lines prefix) (seen_lines prefix) seen (lines_seen prefix) (tree_rows tree) ∙ ap (flat_map (seen_lines prefix)) seen_same ∙ sym (by_seen (reg_key_lines prefix) (seen_lines prefix) seen (lines_seen prefix) (tree_rows other)) in
    ap₂ (λ a b. a ++ b) lines (same_texts prefixes (hive + 1) trees others same.1)

pub same_export : (encoding : Encoding) (prefixes : List Prefix) (trees others : List TreeMap) → AllZip SameContent trees others → reg_text encoding (exported prefixes trees) ≡ reg_text encoding (exported prefixes others)
same_export encoding prefixes trees others same = ap (λ lines. mark encoding ++ encoded encoding (reg_header ++ lines)) (same_texts prefixes 0 trees others same)
