-- The rows of a node, and of a tree, without a key and all keys below it.
use Rattle.std.proofs.Common.{◌≡◌, ◌≢◌, ℕ, Bool, true, false, ◌&&◌, cond, List, [], ◌∷◌, Option, Some, None, is_some, refl, sym, ◌∙◌, ap, subst}
use Rattle.std.specs.Ordering.{eq_by_cmp}
use Rattle.std.specs.Option.{option_map}
use Rattle.std.specs.FinMap as finite
use mathlib.Core.Bool.{false≢true}
use Rattle.reg_tree_parts.specs.Rows.{Row}
use Rattle.reg_tree_parts.specs.Orders.{name_order, path_order}
use Rattle.reg_tree_parts.specs.Nodes.{Entries, row_at, begins_path, one_below, IsNode}
use Rattle.reg_tree.specs.Maps.{row, is_there}
use Rattle.reg_tree.specs.Operations.{touched}
use Rattle.reg_tree.specs.Encodable.{IsEncodable, IsEncodableAt}
use Rattle.reg_tree.proofs.Paths.{same_name}
use Rattle.reg_tree.proofs.Rows.{row_is}
use Rattle.regtx_c.specs.Deletions.{row_without}

-- the subkey of a name is gone from a key, which is written
pub last_rows : (n : List ℕ) (moment : ℕ) (node new : Entries) (key : Row) → row_at node [] ≡ Some key → row_at new [] ≡ Some (touched moment key) → ((r : List (List ℕ)) → row_at new (n ∷ r) ≡ None)
    → ((m : List ℕ) (r : List (List ℕ)) → eq_by_cmp name_order m n ≡ false → row_at new (m ∷ r) ≡ row_at node (m ∷ r))
    → (q : List (List ℕ)) → row_at new q ≡ row_without (n ∷ []) moment q (row_at node q)
last_rows n moment node new key was here gone kept [] = here ∙ sym (ap (option_map (touched moment)) was)
last_rows n moment node new key was here gone kept (m ∷ r) = by_case (eq_by_cmp name_order m n) refl
  where
    left : Bool → Option Row
    left b = cond (b && true) None (cond (b && one_below r []) (option_map (touched moment) (row_at node (m ∷ r))) (row_at node (m ∷ r)))

    by_case : (b : Bool) → eq_by_cmp name_order m n ≡ b → row_at new (m ∷ r) ≡ left (eq_by_cmp name_order m n)
    by_case true e = ap (λ (x : List ℕ). row_at new (x ∷ r)) (same_name m n e) ∙ gone r ∙ sym (ap left e)
    by_case false e = kept m r e ∙ sym (ap left e)

-- a key is gone from below the subkey of a name
pub inner_rows : (n k : List ℕ) (p : List (List ℕ)) (moment : ℕ) (node new child made : Entries) → row_at new [] ≡ row_at node [] → ((r : List (List ℕ)) → row_at new (n ∷ r) ≡ row_at made r)
    → ((m : List ℕ) (r : List (List ℕ)) → eq_by_cmp name_order m n ≡ false → row_at new (m ∷ r) ≡ row_at node (m ∷ r)) → ((r : List (List ℕ)) → row_at node (n ∷ r) ≡ row_at child r)
    → ((r : List (List ℕ)) → row_at made r ≡ row_without (k ∷ p) moment r (row_at child r))
    → (q : List (List ℕ)) → row_at new q ≡ row_without (n ∷ k ∷ p) moment q (row_at node q)
inner_rows n k p moment node new child made here at others found rows [] = here
inner_rows n k p moment node new child made here at others found rows (m ∷ r) = by_case (eq_by_cmp name_order m n) refl
  where
    left : Bool → Option Row
    left b = cond (b && begins_path (k ∷ p) r) None (cond (b && one_below r (k ∷ p)) (option_map (touched moment) (row_at node (m ∷ r))) (row_at node (m ∷ r)))

    by_case : (b : Bool) → eq_by_cmp name_order m n ≡ b → row_at new (m ∷ r) ≡ left (eq_by_cmp name_order m n)
    by_case true e =
        let same = same_name m n e in
        ap (λ (x : List ℕ). row_at new (x ∷ r)) same ∙ at r ∙ rows r ∙ ap (row_without (k ∷ p) moment r) (sym (found r) ∙ ap (λ (x : List ℕ). row_at node (x ∷ r)) (sym same)) ∙ sym (ap left e)
    by_case false e = others m r e ∙ sym (ap left e)

-- a row that is left stays one that a hive file can encode
touched_too : (path : List (List ℕ)) (moment : ℕ) (key : Row) → IsEncodableAt path key → IsEncodableAt path (touched moment key)
touched_too path moment key s = record {
  shallow = s.shallow;
  named = s.named;
  spelled = record {
    name = s.spelled.name;
    no_backslash = s.spelled.no_backslash;
    flags = s.spelled.flags;
    unmarked = s.spelled.unmarked;
    class = s.spelled.class;
    values = s.spelled.values;
  };
}

written_too : (path : List (List ℕ)) (moment : ℕ) (was : Option Row) → ((key : Row) → was ≡ Some key → IsEncodableAt path key) → (key : Row) → option_map (touched moment) was ≡ Some key → IsEncodableAt path key
written_too path moment None all key e = cc
written_too path moment (Some old) all key e = let is : touched moment old ≡ key = cc in subst (IsEncodableAt path) is (touched_too path moment old (all old refl))

left_too : (deleted : List (List ℕ)) (moment : ℕ) (path : List (List ℕ)) (was : Option Row) → ((key : Row) → was ≡ Some key → IsEncodableAt path key) → (key : Row) → row_without deleted moment path was ≡ Some key → IsEncodableAt path key
left_too deleted moment path was all key e = by_case (begins_path deleted path) (one_below path deleted) e
  where
    by_case : (a b : Bool) → cond a None (cond b (option_map (touched moment) was) was) ≡ Some key → IsEncodableAt path key
    by_case true b e = cc
    by_case false true e = written_too path moment was all key e
    by_case false false e = all key e

-- so the rows that are left make a tree that a hive file can encode
module _ (root new : Entries) (deleted : List (List ℕ)) (moment : ℕ) (node : IsNode root) (made : IsNode new) (rows : (q : List (List ℕ)) → row_at new q ≡ row_without deleted moment q (row_at root q)) where
  pub rows_left : (q : List (List ℕ)) → row (finite.from_sorted {R = path_order} new) q ≡ row_without deleted moment q (row (finite.from_sorted {R = path_order} root) q)
  rows_left q = row_is new made q ∙ rows q ∙ ap (row_without deleted moment q) (sym (row_is root node q))

  pub encodable_left : IsEncodable (finite.from_sorted {R = path_order} root) → IsEncodable (finite.from_sorted {R = path_order} new)
  encodable_left all = record { rows = λ path key e. left_too deleted moment path (row (finite.from_sorted {R = path_order} root) path) (all.rows path) key (sym (rows_left path) ∙ e) }

-- a key that is there has a row
some_row : (o : Option Row) → is_some o ≡ true → o ≢ None
some_row None there none = false≢true there
some_row (Some key) there none = cc

pub row_there : (root : Entries) → IsNode root → (path : List (List ℕ)) → is_there (finite.from_sorted {R = path_order} root) path ≡ true → row_at root path ≢ None
row_there root node path there none = some_row (row (finite.from_sorted {R = path_order} root) path) there (row_is root node path ∙ none)
