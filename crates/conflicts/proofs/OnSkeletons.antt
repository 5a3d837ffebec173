-- An operation that may be carried out does to the skeleton of the trees what the law of claims says.
use Rattle.std.proofs.Common.{◌≡◌, ℕ, zero, suc, Bool, true, false, inl, inr, cond, eqb, eq-eqb, List, [], ◌∷◌, Option, Some, None, is_some, Result, Ok, refl, sym, ◌∙◌, ap}
use Rattle.std.specs.Prelude.{slice_get, slice_set}
use Rattle.std.specs.Ordering.{eq_by_cmp}
use Rattle.std.specs.Option.{option_map}
use Rattle.std.specs.FinMap.{get-empty}
use Rattle.std.proofs.lemmas.Bool.{cases_eq, eqb-true}
use Rattle.reg_names.specs.Names.{folded, folded_path}
use Rattle.refusals.specs.declared.refusal.Refusal.{Refusal}
use Rattle.reg_tree_parts.specs.Orders.{name_order, path_order}
use Rattle.reg_tree_parts.specs.Rows.{Row}
use Rattle.reg_tree_parts.specs.ValueEdits.{values_with, values_without}
use Rattle.reg_tree_parts.specs.Nodes as nodes
use Rattle.reg_tree.specs.Maps.{TreeMap, row, IsTree}
use Rattle.reg_tree.specs.Operations.{hive_of, touched, row_after, tree_after}
use Rattle.reg_tree.specs.Judgement.{judged, judged_there, changed, changed_if, applied_one, applied_if}
use Rattle.reg_tree.specs.Sequences.{AreTrees}
use Rattle.reg_tree.specs.declared.op.Op.{Op}
use Rattle.reg_tree.specs.declared.op.Op.TheVariants.{CreateKey, DeleteKey, SetValue, DeleteValue}
use Rattle.reg_tree.specs.declared.op.Legality.{Legality}
use Rattle.reg_tree.specs.declared.op.Legality.TheVariants.{Legal}
use Rattle.reg_tree.proofs.TreesAfter.{row-tree_after}
use Rattle.reg_tree.proofs.OthersStay.{hives_stay}
use Rattle.conflicts.specs.Skeleton as law
use Rattle.conflicts.specs.Claims.{key_at}
use Rattle.conflicts.specs.TreeOutlines.{row_if, row_of, is_protected, has_value, skeleton, outline, judged_if, judged_in}
use Rattle.conflicts.proofs.KeyTests.{names_agree, paths_agree, begins_agree}
use Rattle.conflicts.proofs.RowsAfter.{touched_there, touched_protected, touched_value, created_there, created_else, deleted_all, edited_else, set_rows, unset_rows}

-- Tests of keys of one hive, and of two

if_same : (a b : ℕ) (c : Bool) → a ≡ b → cond (eqb a b) c false ≡ c
if_same a b c e = ap (λ t. cond t c false) (eq-eqb a b e)

if_other : (a b : ℕ) (c : Bool) → (a ≡ b → ⊥) → cond (eqb a b) c false ≡ false
if_other a b c ne = by_case (eqb a b) refl
  where
    by_case : (t : Bool) → eqb a b ≡ t → cond t c false ≡ false
    by_case true e = absurd (ne (eqb-true a b e))
    by_case false e = refl

begins_here : (k l : law.Key) → k.hive ≡ l.hive → law.begins_key k l ≡ nodes.begins_path k.path l.path
begins_here k l e = if_same k.hive l.hive _ e ∙ begins_agree k.path l.path

same_here : (k l : law.Key) → k.hive ≡ l.hive → law.same_key k l ≡ eq_by_cmp path_order k.path l.path
same_here k l e = if_same k.hive l.hive _ e ∙ paths_agree k.path l.path

value_here : (k l : law.Key) (w v : List ℕ) → k.hive ≡ l.hive → law.is_value l v k w ≡ cond (eq_by_cmp path_order k.path l.path) (eq_by_cmp name_order w v) false
value_here k l w v e = ap (λ t. cond t (law.same_name w v) false) (same_here k l e) ∙ ap (λ t. cond (eq_by_cmp path_order k.path l.path) t false) (names_agree w v)

-- The hive of an operation that may be carried out

-- its tree, which is there and judges it so
pub record Found (trees : List TreeMap) (op : Op) : Type 0 where
  pub tree : TreeMap
  pub at : slice_get trees (hive_of op) ≡ Some tree
  pub legal : judged tree op ≡ Ok Legal

pub found : (trees : List TreeMap) (op : Op) → judged_in trees op ≡ Ok Legal → Found trees op
found trees op e = by_case (slice_get trees (hive_of op)) refl e
  where
    by_case : (o : Option TreeMap) → slice_get trees (hive_of op) ≡ o → judged_if o op ≡ Ok Legal → Found trees op
    by_case None t e = cc
    by_case (Some tree) t e = record { tree = tree; at = t; legal = e }

pub set_here : {A : Type 0} (xs : List A) (i : ℕ) (x y : A) → slice_get xs i ≡ Some y → slice_get (slice_set xs i x) i ≡ Some x
set_here [] i x y e = cc
set_here (z ∷ xs) zero x y e = refl
set_here (z ∷ xs) (suc i) x y e = set_here xs i x y e

module _ (trees : List TreeMap) (op : Op) (m : ℕ) (on : Found trees op) where
  row_here : (k : law.Key) → k.hive ≡ hive_of op → row_of trees k ≡ row on.tree k.path
  row_here k e = ap (λ o. row_if o k.path) (ap (slice_get trees) e ∙ on.at)

  row_after_here : (k : law.Key) → k.hive ≡ hive_of op → row_of (applied_one trees op m) k ≡ row_after on.tree op m k.path
  row_after_here k e =
      ap (λ o. row_if o k.path) (ap (slice_get (applied_one trees op m)) e ∙ ap (λ o. slice_get (applied_if trees o op m) (hive_of op)) on.at ∙ set_here trees (hive_of op) (changed on.tree op m) on.tree on.at)
      ∙ ap (λ j. row (changed_if j (tree_after on.tree op m) on.tree) k.path) on.legal
      ∙ row-tree_after on.tree op m k.path

  row_elsewhere : (k : law.Key) → (k.hive ≡ hive_of op → ⊥) → row_of (applied_one trees op m) k ≡ row_of trees k
  row_elsewhere k ne = ap (λ o. row_if o k.path) (hives_stay trees op m k.hive ne)

  -- what an operation makes and removes, by what it does in its hive
  lifted : (k : law.Key) (f : Option Row → Bool) (a b : Bool) → (k.hive ≡ hive_of op → f (row_after on.tree op m k.path) ≡ law.after (f (row on.tree k.path)) a b) → ((k.hive ≡ hive_of op → ⊥) → (a ≡ false) × (b ≡ false))
      → f (row_of (applied_one trees op m) k) ≡ law.after (f (row_of trees k)) a b
  lifted k f a b here away = elim (cases_eq k.hive (hive_of op)) [
    | inl e ↦ ap f (row_after_here k e) ∙ here e ∙ ap (λ o. law.after (f o) a b) (sym (row_here k e))
    | inr ne ↦ ap f (row_elsewhere k ne) ∙ ap (λ t. law.after (f (row_of trees k)) t false) (sym (away ne).0) ∙ ap (λ t. law.after (f (row_of trees k)) a t) (sym (away ne).1)
  ]

  -- what an operation leaves in its hive, it leaves
  kept : (k : law.Key) (f : Option Row → Bool) → (k.hive ≡ hive_of op → f (row_after on.tree op m k.path) ≡ f (row on.tree k.path)) → f (row_of (applied_one trees op m) k) ≡ f (row_of trees k)
  kept k f here = lifted k f false false here (λ ne. (refl, refl))

-- what a value written or deleted needs: its key
pub key_of_there : (F : Row → Result Legality Refusal) (o : Option Row) → judged_there o F ≡ Ok Legal → (key : Row) × (o ≡ Some key)
key_of_there F None e = cc
key_of_there F (Some key) e = (key, refl)

module _ (trees : List TreeMap) (are : AreTrees trees) (m : ℕ) where
  abbrev Follows : Op → Type 0
  Follows op = skeleton (applied_one trees op m) ≡ law.apply (outline op) (skeleton trees)

  created : (hive : ℕ) (spelled : List (List ℕ)) → Found trees (CreateKey hive spelled) → Follows (CreateKey hive spelled)
  created hive spelled on = λ i. record { there = λ k. there k i; protected = λ k. protected k i; value = λ k w. value k w i }
    where
      is : IsTree on.tree
      is = are hive on.tree on.at

      there : (k : law.Key) → is_some (row_of (applied_one trees (CreateKey hive spelled) m) k) ≡ law.after (is_some (row_of trees k)) (law.begins_key k (key_at hive spelled)) false
      there k = lifted trees (CreateKey hive spelled) m on k is_some (law.begins_key k (key_at hive spelled)) false
          (λ e. created_there on.tree is spelled m k.path ∙ ap (λ t. cond t true (is_some (row on.tree k.path))) (sym (begins_here k (key_at hive spelled) e)))
          (λ ne. (if_other k.hive hive _ ne, refl))

      protected : (k : law.Key) → is_protected (row_of (applied_one trees (CreateKey hive spelled) m) k) ≡ is_protected (row_of trees k)
      protected k = kept trees (CreateKey hive spelled) m on k is_protected (λ e. created_else on.tree is spelled m k.path is_protected (touched_protected m) (λ name descriptor. refl))

      value : (k : law.Key) (w : List ℕ) → has_value (row_of (applied_one trees (CreateKey hive spelled) m) k) w ≡ has_value (row_of trees k) w
      value k w = kept trees (CreateKey hive spelled) m on k (λ o. has_value o w) (λ e. created_else on.tree is spelled m k.path (λ o. has_value o w) (touched_value m w) (λ name descriptor. ap is_some (get-empty name_order w)))

  deleted : (hive : ℕ) (spelled : List (List ℕ)) → Found trees (DeleteKey hive spelled) → Follows (DeleteKey hive spelled)
  deleted hive spelled on = λ i. record { there = λ k. gone k is_some (touched_there m) refl i; protected = λ k. gone k is_protected (touched_protected m) refl i; value = λ k w. gone k (λ o. has_value o w) (touched_value m w) refl i }
    where
      gone : (k : law.Key) (f : Option Row → Bool) → ((o : Option Row) → f (option_map (touched m) o) ≡ f o) → f None ≡ false → f (row_of (applied_one trees (DeleteKey hive spelled) m) k) ≡ law.after (f (row_of trees k)) false (law.same_key k (key_at hive spelled))
      gone k f timeless none = lifted trees (DeleteKey hive spelled) m on k f false (law.same_key k (key_at hive spelled))
          (λ e. deleted_all on.tree (are hive on.tree on.at) (folded_path spelled) m k.path f timeless none ∙ ap (λ t. cond t false (f (row on.tree k.path))) (sym (same_here k (key_at hive spelled) e)))
          (λ ne. (refl, if_other k.hive hive _ ne))

  written : (hive : ℕ) (spelled : List (List ℕ)) (name : List ℕ) (kind : ℕ) (bytes : List ℕ) → Found trees (SetValue hive spelled name kind bytes) → Follows (SetValue hive spelled name kind bytes)
  written hive spelled name kind bytes on = λ i. record { there = λ k. untouched k is_some there i; protected = λ k. untouched k is_protected protected i; value = λ k w. value k w i }
    where
      there : (o : Option Row) → is_some (option_map (λ key. touched m (record key { values = values_with key.values name kind bytes })) o) ≡ is_some o
      there None = refl
      there (Some key) = refl

      protected : (o : Option Row) → is_protected (option_map (λ key. touched m (record key { values = values_with key.values name kind bytes })) o) ≡ is_protected o
      protected None = refl
      protected (Some key) = refl

      untouched : (k : law.Key) (f : Option Row → Bool) → ((o : Option Row) → f (option_map (λ key. touched m (record key { values = values_with key.values name kind bytes })) o) ≡ f o) → f (row_of (applied_one trees (SetValue hive spelled name kind bytes) m) k) ≡ f (row_of trees k)
      untouched k f keeps = kept trees (SetValue hive spelled name kind bytes) m on k f (λ e. edited_else on.tree (are hive on.tree on.at) (λ key. record key { values = values_with key.values name kind bytes }) (folded_path spelled) m k.path f keeps)

      value : (k : law.Key) (w : List ℕ) → has_value (row_of (applied_one trees (SetValue hive spelled name kind bytes) m) k) w ≡ law.after (has_value (row_of trees k) w) (law.is_value (key_at hive spelled) (folded name) k w) false
      value k w = let known = key_of_there _ (row on.tree (folded_path spelled)) on.legal in
          lifted trees (SetValue hive spelled name kind bytes) m on k (λ o. has_value o w) (law.is_value (key_at hive spelled) (folded name) k w) false
          (λ e. set_rows on.tree (folded_path spelled) known.0 known.1 name m k.path w kind bytes ∙ ap (λ t. cond t true (has_value (row on.tree k.path) w)) (sym (value_here k (key_at hive spelled) w (folded name) e)))
          (λ ne. (ap (λ t. cond t (law.same_name w (folded name)) false) (if_other k.hive hive _ ne), refl))

  unwritten : (hive : ℕ) (spelled : List (List ℕ)) (name : List ℕ) → Found trees (DeleteValue hive spelled name) → Follows (DeleteValue hive spelled name)
  unwritten hive spelled name on = λ i. record { there = λ k. untouched k is_some there i; protected = λ k. untouched k is_protected protected i; value = λ k w. value k w i }
    where
      there : (o : Option Row) → is_some (option_map (λ key. touched m (record key { values = values_without key.values name })) o) ≡ is_some o
      there None = refl
      there (Some key) = refl

      protected : (o : Option Row) → is_protected (option_map (λ key. touched m (record key { values = values_without key.values name })) o) ≡ is_protected o
      protected None = refl
      protected (Some key) = refl

      untouched : (k : law.Key) (f : Option Row → Bool) → ((o : Option Row) → f (option_map (λ key. touched m (record key { values = values_without key.values name })) o) ≡ f o) → f (row_of (applied_one trees (DeleteValue hive spelled name) m) k) ≡ f (row_of trees k)
      untouched k f keeps = kept trees (DeleteValue hive spelled name) m on k f (λ e. edited_else on.tree (are hive on.tree on.at) (λ key. record key { values = values_without key.values name }) (folded_path spelled) m k.path f keeps)

      value : (k : law.Key) (w : List ℕ) → has_value (row_of (applied_one trees (DeleteValue hive spelled name) m) k) w ≡ law.after (has_value (row_of trees k) w) false (law.is_value (key_at hive spelled) (folded name) k w)
      value k w = let known = key_of_there _ (row on.tree (folded_path spelled)) on.legal in
          lifted trees (DeleteValue hive spelled name) m on k (λ o. has_value o w) false (law.is_value (key_at hive spelled) (folded name) k w)
          (λ e. unset_rows on.tree (folded_path spelled) known.0 known.1 name m k.path w ∙ ap (λ t. cond t false (has_value (row on.tree k.path) w)) (sym (value_here k (key_at hive spelled) w (folded name) e)))
          (λ ne. (refl, ap (λ t. cond t (law.same_name w (folded name)) false) (if_other k.hive hive _ ne)))

  -- an operation that may be carried out does so to the skeleton
  pub follows : (op : Op) → judged_in trees op ≡ Ok Legal → skeleton (applied_one trees op m) ≡ law.apply (outline op) (skeleton trees)
  follows (CreateKey hive spelled) e = created hive spelled (found trees (CreateKey hive spelled) e)
  follows (DeleteKey hive spelled) e = deleted hive spelled (found trees (DeleteKey hive spelled) e)
  follows (SetValue hive spelled name kind bytes) e = written hive spelled name kind bytes (found trees (SetValue hive spelled name kind bytes) e)
  follows (DeleteValue hive spelled name) e = unwritten hive spelled name (found trees (DeleteValue hive spelled name) e)
