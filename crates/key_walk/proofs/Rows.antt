-- The keys of a key and of all below it are itself and the keys of its subkeys, one after the other.
use Rattle.std.proofs.Common.{◌≡◌, ℕ, zero, suc, ◌+◌, T, Result, Ok, Err, OnOk, List, [], ◌∷◌, ◌++◌, map, take, slice_get, Option, Some, refl, sym, ◌∙◌, ap, append_assoc}
use Rattle.std.specs.List.{AllByRecursion, flat_map}
use Rattle.std.specs.FinMap as finite
use Rattle.std.specs.FinMap.{get-from_sorted, entries-from_sorted}
use Rattle.std.specs.FinMap.Entries.{is_sorted}
use Rattle.std.proofs.lemmas.List.{append-nil, map-append, take_more}
use Rattle.std.proofs.lemmas.List.Concat.{flat_map-append}
use Rattle.std.proofs.lemmas.Option.{get_or_from_slice_get, slice_get_within}
use Rattle.reg_tree_parts.specs.Orders.{name_order, path_order}
use Rattle.reg_tree_parts.specs.Rows.{Row}
use Rattle.reg_tree_parts.specs.Nodes.{Entries, below, all_below, entries_of, row_at, IsNode}
use Rattle.reg_tree.specs.Maps.{beginnings}
use Rattle.key_walk.specs.KeyRows.{NamedRow, name_of_row, spelled_in, spelled_names, node_rows, subkey_rows, tree_rows}
use Rattle.key_walk.proofs.Found.{StandsBelow, all_found, all_stand}

-- the names along beginnings of a path that goes on from a subkey
shifted : (whole : Entries) (subkey : List ℕ × Entries) → StandsBelow whole subkey → (starts : List (List (List ℕ))) → map (λ start. name_of_row (row_at whole start)) (map (λ rest. subkey.0 ∷ rest) starts) ≡ map (λ start. name_of_row (row_at subkey.1 start)) starts
shifted whole subkey stands [] = refl
shifted whole subkey stands (start ∷ starts) =
    ap (λ r. name_of_row r ∷ map (λ start. name_of_row (row_at whole start)) (map (λ rest. subkey.0 ∷ rest) starts)) (stands start)
    ∙ ap (λ names. name_of_row (row_at subkey.1 start) ∷ names) (shifted whole subkey stands starts)

spelled_below : (whole : Entries) (subkey : List ℕ × Entries) → StandsBelow whole subkey → (path : List (List ℕ)) → spelled_in whole (subkey.0 ∷ path) ≡ name_of_row (row_at subkey.1 []) ∷ spelled_in subkey.1 path
spelled_below whole subkey stands path =
    ap (λ r. name_of_row r ∷ map (λ start. name_of_row (row_at whole start)) (map (λ rest. subkey.0 ∷ rest) (beginnings path))) (stands [])
    ∙ ap (λ names. name_of_row (row_at subkey.1 []) ∷ names) (shifted whole subkey stands (beginnings path))

module _ (names : List (List ℕ)) (whole : Entries) where
  -- one key
  abbrev pub named_row : List (List ℕ) × Row → NamedRow
  named_row entry = (names ++ spelled_in whole entry.0, entry.1)

  pub below_rows : (subkey : List ℕ × Entries) → StandsBelow whole subkey → (some : Entries) → map named_row (below subkey.0 some) ≡ map (λ (entry : List (List ℕ) × Row). ((names ++ name_of_row (row_at subkey.1 []) ∷ []) ++ spelled_in subkey.1 entry.0, entry.1)) some
  below_rows subkey stands [] = refl
  below_rows subkey stands (entry ∷ some) =
      ap (λ ns. (ns, entry.1) ∷ map named_row (below subkey.0 some)) (ap (λ ns. names ++ ns) (spelled_below whole subkey stands entry.0) ∙ sym (append_assoc names (name_of_row (row_at subkey.1 []) ∷ []) (spelled_in subkey.1 entry.0)))
      ∙ ap (λ t. ((names ++ name_of_row (row_at subkey.1 []) ∷ []) ++ spelled_in subkey.1 entry.0, entry.1) ∷ t) (below_rows subkey stands some)

  subkeys_rows : (subkey_list : List (List ℕ × Entries)) → AllByRecursion (StandsBelow whole) subkey_list → map named_row (all_below subkey_list) ≡ flat_map (subkey_rows names) subkey_list
  subkeys_rows [] stand = refl
  subkeys_rows (subkey ∷ subkey_list) stand =
      map-append named_row (below subkey.0 subkey.1) (all_below subkey_list)
      ∙ ap (λ t. t ++ map named_row (all_below subkey_list)) (below_rows subkey stand.0 subkey.1)
      ∙ ap (λ t. subkey_rows names subkey ++ t) (subkeys_rows subkey_list stand.1)

pub node_walk : (names : List (List ℕ)) (row : Row) (subkey_list : List (List ℕ × Entries)) → T (is_sorted name_order subkey_list) → node_rows names (entries_of row subkey_list) ≡ (names, row) ∷ flat_map (subkey_rows names) subkey_list
node_walk names row subkey_list h =
    ap (λ ns. (ns, row) ∷ map (named_row names (entries_of row subkey_list)) (all_below subkey_list)) (append-nil names)
    ∙ ap (λ t. (names, row) ∷ t) (subkeys_rows names (entries_of row subkey_list) subkey_list (all_stand row subkey_list subkey_list h (all_found subkey_list h)))

-- the keys of one subkey more
pub next_rows : {X Y : Type 0} (text : X → List Y) (xs : List X) (i : ℕ) (x : X) → slice_get xs i ≡ Some x → flat_map text (take i xs) ++ text x ≡ flat_map text (take (i + 1) xs)
next_rows text xs i x e =
    sym (ap (flat_map text) (take_more xs i x (slice_get_within xs i x e) ∙ ap (λ y. take i xs ++ y ∷ []) (get_or_from_slice_get xs i x x e))
    ∙ flat_map-append text (take i xs) (x ∷ []) ∙ ap (λ t. flat_map text (take i xs) ++ t) (append-nil (text x)))

-- the subkey whose entries are at an index
subkey_at : (subkey_list : List (List ℕ × Entries)) (i : ℕ) (es : Entries) → Some es ≡ slice_get (map (λ subkey. subkey.1) subkey_list) i → (subkey : List ℕ × Entries) × (slice_get subkey_list i ≡ Some subkey) × (subkey.1 ≡ es)
subkey_at [] i es e = absurd (let no : ⊥ = cc in no)
subkey_at (subkey ∷ subkey_list) zero es e = (subkey, refl, cc)
subkey_at (subkey ∷ subkey_list) (suc i) es e = subkey_at subkey_list i es e

pub next_subkey : (names : List (List ℕ)) (subkey_list : List (List ℕ × Entries)) (i : ℕ) (es : Entries) (row : Row) → Some es ≡ slice_get (map (λ subkey. subkey.1) subkey_list) i → row_at es [] ≡ Some row
    → flat_map (subkey_rows names) (take i subkey_list) ++ node_rows (names ++ row.name ∷ []) es ≡ flat_map (subkey_rows names) (take (i + 1) subkey_list)
next_subkey names subkey_list i es row at here =
    let subkey = subkey_at subkey_list i es at in
    let its : node_rows (names ++ row.name ∷ []) es ≡ subkey_rows names subkey.0 =
    ap (λ r. node_rows (names ++ name_of_row r ∷ []) es) (sym here) ∙ ap (λ xs. node_rows (names ++ name_of_row (row_at xs []) ∷ []) xs) (sym subkey.2) in
    ap (λ t. flat_map (subkey_rows names) (take i subkey_list) ++ t) its ∙ next_rows (subkey_rows names) subkey_list i subkey.0 subkey.1

-- a tree's keys are the keys of its root's node
pub whole_rows : (entries : Entries) → IsNode entries → node_rows [] entries ≡ tree_rows (finite.from_sorted {R = path_order} entries)
whole_rows entries node =
    let tree = finite.from_sorted {R = path_order} entries in
    let same : (λ (path : List (List ℕ)). row_at entries path) ≡ (λ path. finite.get tree path) = λ i path. sym (get-from_sorted path_order entries path node.rises) i in
    ap (λ (rows : List (List ℕ) → Option Row). map (λ (e : List (List ℕ) × Row). (map (λ start. name_of_row (rows start)) (beginnings e.0), e.1)) entries) same
    ∙ ap (λ (es : Entries). map (λ (e : List (List ℕ) × Row). (spelled_names tree e.0, e.1)) es) (sym (entries-from_sorted path_order entries node.rises))

-- what follows if an answer is Ok
pub on_ok : {T E P Q : Type 0} (answer : Result T E) → (P → Q) → OnOk answer P → OnOk answer Q
on_ok (Ok x) f p = f p
on_ok (Err e) f p = tt
