-- An operation may be carried out exactly if the law of claims calls it legal, and a value's data are not too large.
use Rattle.std.proofs.Common.{◌≡◌, ℕ, zero, suc, ◌≤◌, Bool, true, false, not, ◌⊎◌, inl, inr, cond, List, [], ◌∷◌, ◌++◌, length, take, drop, map, filter, Option, Some, None, IsSome, is_some, is_none, Result, Ok, Err, refl, sym, ◌∙◌, ap, subst, arith}
use Rattle.std.specs.Prelude.{slice_get, nat_lt, bit_and, ◌==◌}
use Rattle.std.specs.Ordering.{eq_by_cmp}
use Rattle.std.specs.FinMap as finite
use Rattle.std.specs.FinMap.{get-entries}
use Rattle.std.specs.FinMap.Entries.{find}
use Rattle.std.proofs.lemmas.Bool.Decides.{nat_tests}
use Rattle.std.proofs.lemmas.List.{take-append-drop}
use Rattle.reg_names.specs.Names.{folded, folded_path}
use Rattle.refusals.specs.declared.refusal.Refusal.{Refusal}
use Rattle.refusals.specs.declared.refusal.Refusal.TheVariants.{NotFound, HasSubkeys, TooDeep, TooLarge, Fixed}
use Rattle.refusals.specs.declared.limits.TheConstants.{MOST_NEW_LEVELS, MOST_VALUE_BYTES}
use Rattle.reg_tree_parts.specs.declared.value.Value.{Value}
use Rattle.reg_tree_parts.specs.Orders.{path_order}
use Rattle.reg_tree_parts.specs.Rows.{Row}
use Rattle.reg_tree_parts.specs.Nodes.{Entries, one_below, names_below}
use Rattle.reg_tree.specs.Maps.{TreeMap, row, is_there, subkeys, missing}
use Rattle.reg_tree.specs.Operations.{depth_there}
use Rattle.reg_tree.specs.Judgement.{judged_delete, judged_there}
use Rattle.reg_tree.specs.Sequences.{AreTrees}
use Rattle.reg_tree.specs.declared.op.Op.{Op}
use Rattle.reg_tree.specs.declared.op.Op.TheVariants.{CreateKey, DeleteKey, SetValue, DeleteValue}
use Rattle.reg_tree.specs.declared.op.Legality.{Legality}
use Rattle.reg_tree.specs.declared.op.Legality.TheVariants.{Legal, Opened}
use Rattle.reg_tree.proofs.Paths.{told, eq_self, split_below}
use Rattle.reg_tree.proofs.Changes.{nothing_below}
use Rattle.conflicts.specs.Legal as legal
use Rattle.conflicts.proofs.Tests.{never}
use Rattle.conflicts.specs.Claims.{key_at}
use Rattle.conflicts.specs.TreeOutlines.{row_if, row_of, is_protected, has_value, skeleton, outline, judged_if, judged_in, FitsData}
use Rattle.conflicts.proofs.KeyDepths.{home_is_there, past_home, few_missing}
use Rattle.conflicts.proofs.OnSkeletons.{Found, found}

-- What each kind of operation asks for

create_asks : (a b : Bool) → cond a (Ok Opened) (cond b (Err TooDeep) (Ok Legal)) ≡ Ok Legal → (a ≡ false) × (b ≡ false)
create_asks true b e = cc
create_asks false true e = cc
create_asks false false e = (refl, refl)

delete_asks : (a b : Bool) → cond {A = Result Legality Refusal} a (Err Fixed) (cond b (Err HasSubkeys) (Ok Legal)) ≡ Ok Legal → (a ≡ false) × (b ≡ false)
delete_asks true b e = cc
delete_asks false true e = cc
delete_asks false false e = (refl, refl)

set_asks : (o : Option Row) (a : Bool) → judged_there o (λ key. cond a (Err TooLarge) (Ok Legal)) ≡ Ok Legal → (is_some o ≡ true) × (a ≡ false)
set_asks None a e = cc
set_asks (Some key) true e = cc
set_asks (Some key) false e = (refl, refl)

unset_asks : (o : Option Row) (name : List ℕ) → judged_there o (λ key. cond (is_none (finite.get key.values name)) (Err NotFound) (Ok Legal)) ≡ Ok Legal → (is_some o ≡ true) × (has_value o name ≡ true)
unset_asks None name e = cc
unset_asks (Some key) name e = by_case (finite.get key.values name) e
  where
    by_case : (v : Option Value) → cond {A = Result Legality Refusal} (is_none v) (Err NotFound) (Ok Legal) ≡ Ok Legal → (true ≡ true) × (is_some v ≡ true)
    by_case None e = cc
    by_case (Some v) e = (refl, refl)

unset_given : (o : Option Row) (name : List ℕ) → has_value o name ≡ true → judged_there o (λ key. cond (is_none (finite.get key.values name)) (Err NotFound) (Ok Legal)) ≡ Ok Legal
unset_given None name h = never h
unset_given (Some key) name h = by_case (finite.get key.values name) h
  where
    by_case : (v : Option Value) → is_some v ≡ true → cond {A = Result Legality Refusal} (is_none v) (Err NotFound) (Ok Legal) ≡ Ok Legal
    by_case None h = never h
    by_case (Some v) h = refl

set_given : (o : Option Row) (a : Bool) → is_some o ≡ true → a ≡ false → judged_there o (λ key. cond a (Err TooLarge) (Ok Legal)) ≡ Ok Legal
set_given None a h f = never h
set_given (Some key) a h f = ap (λ t. cond {A = Result Legality Refusal} t (Err TooLarge) (Ok Legal)) f

-- Subkeys

-- if a key has a subkey, one is one below it
some_below : (p : List (List ℕ)) (es : Entries) → (length (names_below p es) ≡ 0 → ⊥) → (n : List ℕ) × (IsSome (find path_order (p ++ n ∷ []) es))
some_below p [] some = absurd (some refl)
some_below p ((q, r) ∷ es) some = by_case (some_below p es) (told (one_below p q)) some
  where
    by_case : ((length (names_below p es) ≡ 0 → ⊥) → (n : List ℕ) × (IsSome (find path_order (p ++ n ∷ []) es))) → (one_below p q ≡ true) ⊎ (one_below p q ≡ false) → (length (names_below p ((q, r) ∷ es)) ≡ 0 → ⊥) → (n : List ℕ) × (IsSome (find path_order (p ++ n ∷ []) ((q, r) ∷ es)))
    by_case rest (inl t) some = let split = split_below p q t in
        (split.0, subst (λ x. IsSome (cond (eq_by_cmp path_order (p ++ split.0 ∷ []) x) (Some r) (find path_order (p ++ split.0 ∷ []) es))) (sym split.1) (ap (λ b. is_some (cond b (Some r) (find path_order (p ++ split.0 ∷ []) es))) (eq_self (p ++ split.0 ∷ []))))
    by_case rest (inr f) some = let more = rest (λ none. some (ap (λ b. length (map (λ e. let key : Row = e.1 in key.name) (cond b ((q, r) ∷ filter (λ e. one_below p e.0) es) (filter (λ e. one_below p e.0) es)))) f ∙ none)) in
        (more.0, stays (eq_by_cmp path_order (p ++ more.0 ∷ []) q) (find path_order (p ++ more.0 ∷ []) es) more.1)
      where
        stays : (b : Bool) (o : Option Row) → IsSome o → IsSome (cond b (Some r) o)
        stays true o h = refl
        stays false o h = h

-- a key below which there is nothing has no subkeys
no_subkeys : (tree : TreeMap) (p : List (List ℕ)) → ((n : List ℕ) (r : List (List ℕ)) → is_some (row tree (p ++ n ∷ r)) ≡ false) → length (subkeys tree p) ≡ 0
no_subkeys tree p none = by_case (length (subkeys tree p)) refl
  where
    by_case : (k : ℕ) → length (subkeys tree p) ≡ k → length (subkeys tree p) ≡ 0
    by_case zero e = e
    by_case (suc k) e =
        let some = some_below p (finite.entries tree) (λ z. absurd (omega (arith, e, z))) in
        never (sym (none some.0 []) ∙ ap is_some (get-entries tree (p ++ some.0 ∷ [])) ∙ some.1)

module _ (trees : List TreeMap) (are : AreTrees trees) where
  -- the row of the operation's key, in its hive
  of_hive : (hive : ℕ) (tree : TreeMap) → slice_get trees hive ≡ Some tree → (path : List (List ℕ)) → row_of trees (record { hive = hive; path = path }) ≡ row tree path
  of_hive hive tree t path = ap (λ o. row_if o path) t

  pub legal_from_judged : (op : Op) → judged_in trees op ≡ Ok Legal → legal.Legal (skeleton trees) (outline op) × FitsData op
  legal_from_judged (CreateKey hive spelled) e =
      let on = found trees (CreateKey hive spelled) e in
      let p : List (List ℕ) = folded_path spelled in
      let asks = create_asks (is_there on.tree p) (nat_lt MOST_NEW_LEVELS (length (missing on.tree p))) on.legal in
      let touched_path : IsSome (row on.tree (take (depth_there on.tree p) p)) = home_is_there on.tree (are hive on.tree on.at) p in
      let few : length (missing on.tree p) ≤ 32 = grind (arith, nat_tests, asks.1) in
      let near : length (drop (depth_there on.tree p) p) ≤ length (missing on.tree p) = past_home on.tree (are hive on.tree on.at) p in
      ((ap is_some (of_hive hive on.tree on.at p) ∙ asks.0, (take (depth_there on.tree p) p, drop (depth_there on.tree p) p, sym (take-append-drop (depth_there on.tree p) p), omega (arith, near, few), ap is_some (of_hive hive on.tree on.at (take (depth_there on.tree p) p)) ∙ touched_path)), tt)
  legal_from_judged (DeleteKey hive []) e = let on = found trees (DeleteKey hive []) e in let bad : Err Fixed ≡ Ok Legal = on.legal in absurd cc
  legal_from_judged (DeleteKey hive (s ∷ spelled)) e =
      let on = found trees (DeleteKey hive (s ∷ spelled)) e in by_row on (row on.tree (folded_path (s ∷ spelled))) refl on.legal
    where
      by_row : (on : Found trees (DeleteKey hive (s ∷ spelled))) (o : Option Row) → row on.tree (folded_path (s ∷ spelled)) ≡ o → judged_there o (λ key. judged_delete key.flags (subkeys on.tree (folded_path (s ∷ spelled)))) ≡ Ok Legal → legal.Legal (skeleton trees) (outline (DeleteKey hive (s ∷ spelled))) × Unit {0}
      by_row on None t j = cc
      by_row on (Some key) t j =
          let asks = delete_asks (not (bit_and key.flags 8 == 0)) (not (length (subkeys on.tree (folded_path (s ∷ spelled))) == 0)) j in
          let alone : length (subkeys on.tree (folded_path (s ∷ spelled))) ≡ 0 = grind (arith, nat_tests, asks.1) in
          let here : row_of trees (key_at hive (s ∷ spelled)) ≡ Some key = of_hive hive on.tree on.at (folded_path (s ∷ spelled)) ∙ t in
          ((λ z. absurd cc, ap is_some here, ap is_protected here ∙ asks.0, λ l b. ap is_some (ap (λ h. row_if (slice_get trees h) l.path) (sym b.0) ∙ of_hive hive on.tree on.at l.path ∙ ap (row on.tree) b.1.2 ∙ nothing_below on.tree (are hive on.tree on.at) (folded_path (s ∷ spelled)) alone b.1.0 b.1.1)), tt)
  legal_from_judged (SetValue hive spelled name kind bytes) e =
      let on = found trees (SetValue hive spelled name kind bytes) e in
      let asks = set_asks (row on.tree (folded_path spelled)) (nat_lt MOST_VALUE_BYTES (length bytes)) on.legal in
      (ap is_some (of_hive hive on.tree on.at (folded_path spelled)) ∙ asks.0, asks.1)
  legal_from_judged (DeleteValue hive spelled name) e =
      let on = found trees (DeleteValue hive spelled name) e in
      let asks = unset_asks (row on.tree (folded_path spelled)) (folded name) on.legal in
      ((ap is_some (of_hive hive on.tree on.at (folded_path spelled)) ∙ asks.0, ap (λ o. has_value o (folded name)) (of_hive hive on.tree on.at (folded_path spelled)) ∙ asks.1), tt)

  -- the tree of a hive in which some key is there
  hive_of_key : (hive : ℕ) (path : List (List ℕ)) → is_some (row_of trees (record { hive = hive; path = path })) ≡ true → (tree : TreeMap) × (slice_get trees hive ≡ Some tree)
  hive_of_key hive path h = by_case (slice_get trees hive) refl h
    where
      by_case : (o : Option TreeMap) → slice_get trees hive ≡ o → is_some (row_if o path) ≡ true → (tree : TreeMap) × (slice_get trees hive ≡ Some tree)
      by_case None t h = never h
      by_case (Some tree) t h = (tree, t)

  pub judged_from_legal : (op : Op) → legal.Legal (skeleton trees) (outline op) → FitsData op → judged_in trees op ≡ Ok Legal
  judged_from_legal (CreateKey hive spelled) l fits =
      let n = l.1 in
      let h = hive_of_key hive n.0 n.4 in
      let p : List (List ℕ) = folded_path spelled in
      let missed : is_there h.0 p ≡ false = sym (ap is_some (of_hive hive h.0 h.1 p)) ∙ l.0 in
      let few : length (missing h.0 p) ≤ length n.1 = subst (λ x. length (missing h.0 x) ≤ length n.1) (sym n.2) (few_missing h.0 (are hive h.0 h.1) n.0 n.1 (sym (ap is_some (of_hive hive h.0 h.1 n.0)) ∙ n.4)) in
      let le : length n.1 ≤ 32 = n.3 in
      let most : nat_lt MOST_NEW_LEVELS (length (missing h.0 p)) ≡ false = grind (arith, nat_tests, few, le) in
      ap (λ o. judged_if o (CreateKey hive spelled)) h.1 ∙ ap (λ b. cond b (Ok Opened) (cond (nat_lt MOST_NEW_LEVELS (length (missing h.0 p))) (Err TooDeep) (Ok Legal))) missed ∙ ap (λ b. cond b (Err TooDeep) (Ok Legal)) most
  judged_from_legal (DeleteKey hive []) l fits = absurd (l.0 refl)
  judged_from_legal (DeleteKey hive (s ∷ spelled)) l fits =
      let h = hive_of_key hive (folded_path (s ∷ spelled)) l.1 in
      ap (λ o. judged_if o (DeleteKey hive (s ∷ spelled))) h.1 ∙ by_row h.0 h.1 (row h.0 (folded_path (s ∷ spelled))) refl
    where
      by_row : (tree : TreeMap) → slice_get trees hive ≡ Some tree → (o : Option Row) → row tree (folded_path (s ∷ spelled)) ≡ o → judged_there o (λ key. judged_delete key.flags (subkeys tree (folded_path (s ∷ spelled)))) ≡ Ok Legal
      by_row tree t None e = never (sym (ap is_some (of_hive hive tree t (folded_path (s ∷ spelled)) ∙ e)) ∙ l.1)
      by_row tree t (Some key) e =
          let flags : not (bit_and key.flags 8 == 0) ≡ false = sym (ap is_protected (of_hive hive tree t (folded_path (s ∷ spelled)) ∙ e)) ∙ l.2 in
          let alone : length (subkeys tree (folded_path (s ∷ spelled))) ≡ 0 = no_subkeys tree (folded_path (s ∷ spelled)) (λ n r. sym (ap is_some (of_hive hive tree t (folded_path (s ∷ spelled) ++ n ∷ r))) ∙ l.3 (record { hive = hive; path = folded_path (s ∷ spelled) ++ n ∷ r }) (refl, (n, r, refl))) in
          ap (λ b. cond {A = Result Legality Refusal} b (Err Fixed) (cond (not (length (subkeys tree (folded_path (s ∷ spelled))) == 0)) (Err HasSubkeys) (Ok Legal))) flags ∙ ap (λ k. cond {A = Result Legality Refusal} (not (k == 0)) (Err HasSubkeys) (Ok Legal)) alone
  judged_from_legal (SetValue hive spelled name kind bytes) l fits =
      let h = hive_of_key hive (folded_path spelled) l in
      ap (λ o. judged_if o (SetValue hive spelled name kind bytes)) h.1 ∙ set_given (row h.0 (folded_path spelled)) (nat_lt MOST_VALUE_BYTES (length bytes)) (sym (ap is_some (of_hive hive h.0 h.1 (folded_path spelled))) ∙ l) fits
  judged_from_legal (DeleteValue hive spelled name) l fits =
      let h = hive_of_key hive (folded_path spelled) l.0 in
      ap (λ o. judged_if o (DeleteValue hive spelled name)) h.1 ∙ unset_given (row h.0 (folded_path spelled)) (folded name) (sym (ap (λ o. has_value o (folded name)) (of_hive hive h.0 h.1 (folded_path spelled))) ∙ l.1)
