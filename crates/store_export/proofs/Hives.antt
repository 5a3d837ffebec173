-- The keys of hives, one hive after another.
use Rattle.std.proofs.Common.{◌≡◌, ℕ, ◌+◌, List, [], ◌∷◌, ◌++◌, length, map, drop, Option, Some, refl, sym, ◌∙◌, ap, subst, append_assoc}
use Rattle.std.specs.Prelude.{slice_get, ◌≤◌}
use Rattle.std.specs.List.{flat_map}
use Rattle.std.specs.Io.KnownBytes.{Appends}
use Rattle.std.proofs.lemmas.List.{drop_more, drop_all, map-append}
use Rattle.std.proofs.lemmas.Option.{slice_get_within, get_or_from_slice_get}
use Rattle.reply_lines.proofs.Written.{appends_more, appends_nothing}
use Rattle.reg_tree.specs.Maps.{TreeMap}
use Rattle.key_walk.specs.KeyRows.{NamedRow, tree_rows}
use Rattle.reg_prefixes.specs.declared.prefix.Prefix.{Prefix}
use Rattle.reg_export.specs.declared.whole_file.HiveKeys.{HiveKeys}
use Rattle.reg_export.specs.Hives.{keys_of}
use Rattle.reg_export.specs.TsvTexts.{tsv_key_lines}
use Rattle.store_export.specs.Exports.{PrintsJson, PrintsLines, all_rows, prefix_of, tsv_text, with_prefix}

-- the trees from one on
rest_at : (trees : List TreeMap) (i : ℕ) (tree : TreeMap) → slice_get trees i ≡ Some tree → drop i trees ≡ tree ∷ drop (i + 1) trees
rest_at trees i tree there = drop_more trees i tree (slice_get_within trees i tree there) ∙ ap (λ first. first ∷ drop (i + 1) trees) (get_or_from_slice_get trees i tree tree there)

-- a hive's lines of JSON were written, and those of the later ones are
pub json_more : (trees : List TreeMap) (i : ℕ) (tree : TreeMap) (before mid after : Option (List ℕ)) → slice_get trees i ≡ Some tree → PrintsLines i (tree_rows tree) before mid
    → PrintsJson (all_rows (i + 1) (drop (i + 1) trees)) mid after → PrintsJson (all_rows i (drop i trees)) before after
json_more trees i tree before mid after there now later =
    subst (λ ts. PrintsJson (all_rows i ts) before after) (sym (rest_at trees i tree there)) (now.0 ++ later.0, (now.0, later.0, now.1, later.1, refl), appends_more before mid after now.0 later.0 now.2 later.2)

pub json_none : (trees : List TreeMap) (i : ℕ) (known : Option (List ℕ)) → length trees ≤ i → PrintsJson (all_rows i (drop i trees)) known known
json_none trees i known past = subst (λ ts. PrintsJson (all_rows i ts) known known) (sym (drop_all i trees past)) ([], refl, appends_nothing known)

-- the same of fields between tabs
pub tsv_more : (trees : List TreeMap) (i : ℕ) (tree : TreeMap) (before mid after : Option (List ℕ)) → slice_get trees i ≡ Some tree → Appends before mid (flat_map (tsv_key_lines i) (tree_rows tree))
    → Appends mid after (tsv_text (all_rows (i + 1) (drop (i + 1) trees))) → Appends before after (tsv_text (all_rows i (drop i trees)))
tsv_more trees i tree before mid after there now later =
    subst (λ ts. Appends before after (tsv_text (all_rows i ts))) (sym (rest_at trees i tree there)) (appends_more before mid after (flat_map (tsv_key_lines i) (tree_rows tree)) (tsv_text (all_rows (i + 1) (drop (i + 1) trees))) now later)

pub tsv_none : (trees : List TreeMap) (i : ℕ) (known : Option (List ℕ)) → length trees ≤ i → Appends known known (tsv_text (all_rows i (drop i trees)))
tsv_none trees i known past = subst (λ ts. Appends known known (tsv_text (all_rows i ts))) (sym (drop_all i trees past)) (appends_nothing known)

-- a hive more stands in the list
pub keys_more : (prefixes : List Prefix) (trees : List TreeMap) (i : ℕ) (made : List HiveKeys) (new : HiveKeys) (whole : List (List ℕ × List NamedRow))
    → slice_get trees i ≡ Some new.tree.now → new.prefix.now ≡ prefix_of prefixes i → map keys_of made ++ map (with_prefix prefixes) (all_rows i (drop i trees)) ≡ whole
    → map keys_of (made ++ new ∷ []) ++ map (with_prefix prefixes) (all_rows (i + 1) (drop (i + 1) trees)) ≡ whole
keys_more prefixes trees i made new whole there its_prefix so_far =
    let rest = map (with_prefix prefixes) (all_rows (i + 1) (drop (i + 1) trees)) in
    ap (λ t. t ++ rest) (map-append keys_of made (new ∷ []))
    ∙ append_assoc (map keys_of made) (keys_of new ∷ []) rest
    ∙ ap (λ p. map keys_of made ++ (p, tree_rows new.tree.now) ∷ rest) its_prefix
    ∙ ap (λ ts. map keys_of made ++ map (with_prefix prefixes) (all_rows i ts)) (sym (rest_at trees i new.tree.now there))
    ∙ so_far

pub keys_none : (prefixes : List Prefix) (trees : List TreeMap) (i : ℕ) (made : List HiveKeys) (whole : List (List ℕ × List NamedRow)) → length trees ≤ i
    → map keys_of made ++ map (with_prefix prefixes) (all_rows i (drop i trees)) ≡ whole → map keys_of made ++ [] ≡ whole
keys_none prefixes trees i made whole past so_far = sym (ap (λ ts. map keys_of made ++ map (with_prefix prefixes) (all_rows i ts)) (drop_all i trees past)) ∙ so_far
