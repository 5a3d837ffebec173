-- The keys at a path and below it are those that a walk along the path's names comes to.
use Rattle.std.proofs.Common.{◌≡◌, ℕ, Bool, true, false, ◌&&◌, cond, T, length, arith, List, [], ◌∷◌, ◌++◌, map, Option, Some, None, refl, sym, subst, ◌∙◌, ap}
use Rattle.std.specs.Prelude.{filter}
use Rattle.std.specs.FinMap as finite
use Rattle.std.specs.FinMap.{same_map, get-from_sorted, entries-from_sorted}
use Rattle.std.specs.FinMap.Entries.{find, is_sorted}
use Rattle.std.specs.Ordering.{eq_by_cmp}
use Rattle.std.specs.declared.cmp.Ordering.TheVariants.{Equal}
use Rattle.std.specs.Cmp.{eq_by_cmp_equiv}
use Rattle.std.proofs.lemmas.List.{append-nil}
use Rattle.std.proofs.lemmas.List.Elements.{filter-append}
use Rattle.reg_tree_parts.specs.Orders.{name_order, path_order}
use Rattle.reg_tree_parts.specs.Rows.{Row}
use Rattle.reg_tree_parts.specs.Nodes.{Entries, below, all_below, entries_of, row_at, row_in, begins_path, IsNode, AreNodes}
use Rattle.reg_tree_parts.proofs.Keys.{names_total, names_apart, paths_total, paths_apart}
use Rattle.reg_tree_parts.proofs.SortedLists.{front_of, back_of}
use Rattle.reg_tree_parts.proofs.Finds.{equal_of, find_below_all, find-all_below}
use Rattle.reg_tree.specs.Maps.{beginnings}
use Rattle.key_walk.specs.KeyRows.{name_of_row, spelled_in, spelled_names, node_rows}
use Rattle.key_walk.specs.SubtreeRows.{rows_below, rows_from}
use Rattle.key_walk.proofs.Found.{StandsBelow}
use Rattle.key_walk.proofs.Rows.{below_rows}

-- entries at a path and below it
abbrev at_path : List (List ℕ) → Entries → Entries
at_path path entries = filter (λ (entry : List (List ℕ) × Row). begins_path path entry.0) entries

at_all : (entries : Entries) → at_path [] entries ≡ entries
at_all [] = refl
at_all (entry ∷ entries) = ap (λ es. entry ∷ es) (at_all entries)

turned : (k : List ℕ) (entry : List (List ℕ) × Row) (some : Entries) (b : Bool) → cond b ((k ∷ entry.0, entry.1) ∷ below k some) (below k some) ≡ below k (cond b (entry ∷ some) some)
turned k entry some true = refl
turned k entry some false = refl

-- of a subkey under the first name those at the rest of the path
under_name : (n k : List ℕ) (path : List (List ℕ)) (some : Entries) → eq_by_cmp name_order k n ≡ true → at_path (n ∷ path) (below k some) ≡ below k (at_path path some)
under_name n k path [] e = refl
under_name n k path (entry ∷ some) e =
    ap (λ b. cond b ((k ∷ entry.0, entry.1) ∷ at_path (n ∷ path) (below k some)) (at_path (n ∷ path) (below k some))) (ap (λ b. b && begins_path path entry.0) e)
    ∙ ap (λ es. cond (begins_path path entry.0) ((k ∷ entry.0, entry.1) ∷ es) es) (under_name n k path some e)
    ∙ turned k entry (at_path path some) (begins_path path entry.0)

under_other : (n k : List ℕ) (path : List (List ℕ)) (some : Entries) → eq_by_cmp name_order k n ≡ false → at_path (n ∷ path) (below k some) ≡ []
under_other n k path [] e = refl
under_other n k path (entry ∷ some) e =
    ap (λ b. cond b ((k ∷ entry.0, entry.1) ∷ at_path (n ∷ path) (below k some)) (at_path (n ∷ path) (below k some))) (ap (λ b. b && begins_path path entry.0) e)
    ∙ under_other n k path some e

-- what of a found subkey is at the rest of a path, seen from its parent
abbrev in_found : List ℕ → List (List ℕ) → Option Entries → Entries
in_found n path None = []
in_found n path (Some entries) = below n (at_path path entries)

at_subkeys : (n : List ℕ) (path : List (List ℕ)) (subkeys : List (List ℕ × Entries)) → T (is_sorted name_order subkeys) → at_path (n ∷ path) (all_below subkeys) ≡ in_found n path (find name_order n subkeys)
at_subkeys n path [] h = refl
at_subkeys n path (subkey ∷ subkeys) h =
    filter-append (λ (entry : List (List ℕ) × Row). begins_path (n ∷ path) entry.0) (below subkey.0 subkey.1) (all_below subkeys)
    ∙ ap (λ es. at_path (n ∷ path) (below subkey.0 subkey.1) ++ es) (at_subkeys n path subkeys (back_of _ _ h))
    ∙ elim (eq_by_cmp name_order n subkey.0) as (λ b. eq_by_cmp name_order n subkey.0 ≡ b → at_path (n ∷ path) (below subkey.0 subkey.1) ++ in_found n path (find name_order n subkeys) ≡ in_found n path (cond b (Some subkey.1) (find name_order n subkeys))) [
      | true ↦ λ e.
          let tied : name_order n subkey.0 ≡ Equal = equal_of _ e in
          ap (λ o. at_path (n ∷ path) (below subkey.0 subkey.1) ++ in_found n path o) (find_below_all n subkey.0 subkeys tied (front_of _ _ h))
          ∙ append-nil (at_path (n ∷ path) (below subkey.0 subkey.1)) ∙ under_name n subkey.0 path subkey.1 ((eq_by_cmp_equiv names_total).symm subkey.0 n ∙ e)
          ∙ ap (λ k. below k (at_path path subkey.1)) (sym (names_apart n subkey.0 tied))
      | false ↦ λ e. ap (λ es. es ++ in_found n path (find name_order n subkeys)) (under_other n subkey.0 path subkey.1 ((eq_by_cmp_equiv names_total).symm subkey.0 n ∙ e))
    ] refl

-- entries that give the same rows are the same
same_entries : (one other : Entries) → T (is_sorted path_order one) → T (is_sorted path_order other) → ((q : List (List ℕ)) → row_at one q ≡ row_at other q) → one ≡ other
same_entries one other h k e =
    sym (entries-from_sorted path_order one h)
    ∙ ap finite.entries (same_map paths_total paths_apart (finite.from_sorted {R = path_order} one) (finite.from_sorted {R = path_order} other) (λ q. get-from_sorted path_order one q h ∙ e q ∙ sym (get-from_sorted path_order other q k)))
    ∙ entries-from_sorted path_order other k

-- a subkey that is found is a node
found_node : (n : List ℕ) (subkeys : List (List ℕ × Entries)) → AreNodes subkeys → (entries : Entries) → find name_order n subkeys ≡ Some entries → IsNode entries
found_node n [] nodes entries e = absurd (let no : ⊥ = cc in no)
found_node n (subkey ∷ subkeys) nodes entries e =
    elim (eq_by_cmp name_order n subkey.0) as (λ b. cond b (Some subkey.1) (find name_order n subkeys) ≡ Some entries → IsNode entries) [
      | true ↦ λ is. let same : subkey.1 ≡ entries = cc in subst IsNode same nodes.0
      | false ↦ λ is. found_node n subkeys nodes.1 entries is
    ] e

root_there : (entries : Entries) → IsNode entries → None ≡ row_at entries [] → ⊥
root_there entries node e = let root : row_at entries [] ≡ Some node.row = ap (λ es. row_at es []) node.whole in cc

-- the subkey whose rows are those of a node is that node
pub is_found : (n : List ℕ) (subkeys : List (List ℕ × Entries)) → AreNodes subkeys → T (is_sorted name_order subkeys) → (child : Entries) → IsNode child
    → ((q : List (List ℕ)) → row_at (all_below subkeys) (n ∷ q) ≡ row_at child q) → find name_order n subkeys ≡ Some child
is_found n subkeys nodes h child node e =
    elim (find name_order n subkeys) as (λ o. find name_order n subkeys ≡ o → o ≡ Some child) [
      | None ↦ λ f. absurd (root_there child node (sym (ap (λ o. row_in o []) f) ∙ sym (find-all_below n [] subkeys h) ∙ e []))
      | Some entries ↦ λ f. let there = found_node n subkeys nodes entries f in ap Some (same_entries entries child there.rises node.rises (λ q. sym (ap (λ o. row_in o q) f) ∙ sym (find-all_below n q subkeys h) ∙ e q))
    ] refl

pub not_found : (n : List ℕ) (subkeys : List (List ℕ × Entries)) → AreNodes subkeys → T (is_sorted name_order subkeys) → ((q : List (List ℕ)) → row_at (all_below subkeys) (n ∷ q) ≡ None) → find name_order n subkeys ≡ None
not_found n subkeys nodes h e =
    elim (find name_order n subkeys) as (λ o. find name_order n subkeys ≡ o → o ≡ None) [
      | None ↦ λ f. refl
      | Some entries ↦ λ f. absurd (root_there entries (found_node n subkeys nodes entries f) (sym (e []) ∙ find-all_below n [] subkeys h ∙ ap (λ o. row_in o []) f))
    ] refl

-- the keys from a node on along a path of no names
pub here_rows : (names : List (List ℕ)) (entries : Entries) → node_rows names entries ≡ rows_from names entries []
here_rows names entries = ap (λ es. map (λ (e : List (List ℕ) × Row). (names ++ spelled_in entries e.0, e.1)) es) (sym (at_all entries))

-- the keys along a path are those of the subkey of its first name along the rest
pub step_rows : (names : List (List ℕ)) (row : Row) (subkeys : List (List ℕ × Entries)) (n : List ℕ) (path : List (List ℕ)) (child : Entries) → T (is_sorted name_order subkeys) → find name_order n subkeys ≡ Some child
    → StandsBelow (entries_of row subkeys) (n, child) → rows_from names (entries_of row subkeys) (n ∷ path) ≡ rows_from (names ++ name_of_row (row_at child []) ∷ []) child path
step_rows names row subkeys n path child h f stands =
    ap (map (λ (e : List (List ℕ) × Row). (names ++ spelled_in (entries_of row subkeys) e.0, e.1))) (at_subkeys n path subkeys h ∙ ap (in_found n path) f)
    ∙ below_rows names (entries_of row subkeys) (n, child) stands (at_path path child)

pub no_rows : (names : List (List ℕ)) (row : Row) (subkeys : List (List ℕ × Entries)) (n : List ℕ) (path : List (List ℕ)) → T (is_sorted name_order subkeys) → find name_order n subkeys ≡ None → rows_from names (entries_of row subkeys) (n ∷ path) ≡ []
no_rows names row subkeys n path h f = ap (map (λ (e : List (List ℕ) × Row). (names ++ spelled_in (entries_of row subkeys) e.0, e.1))) (at_subkeys n path subkeys h ∙ ap (in_found n path) f)

-- a tree's keys at a path are those of its root's node
pub part_rows : (entries : Entries) (path : List (List ℕ)) → IsNode entries → rows_from [] entries path ≡ rows_below (finite.from_sorted {R = path_order} entries) path
part_rows entries path node =
    let tree = finite.from_sorted {R = path_order} entries in
    let same : (λ (path : List (List ℕ)). row_at entries path) ≡ (λ path. finite.get tree path) = λ i path. sym (get-from_sorted path_order entries path node.rises) i in
    ap (λ (rows : List (List ℕ) → Option Row). map (λ (e : List (List ℕ) × Row). (map (λ start. name_of_row (rows start)) (beginnings e.0), e.1)) (at_path path entries)) same
    ∙ ap (λ (es : Entries). map (λ (e : List (List ℕ) × Row). (spelled_names tree e.0, e.1)) (at_path path es)) (sym (entries-from_sorted path_order entries node.rises))

pub empty_path : (path : List (List ℕ)) → length path ≡ 0 → path ≡ []
empty_path [] e = refl
empty_path (name ∷ path) e = absurd (omega (arith, e))
