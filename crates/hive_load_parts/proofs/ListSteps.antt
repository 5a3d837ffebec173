-- Lists of subkeys, step by step.
use Rattle.std.proofs.Common.{◌≡◌, ◌≢◌, ◌≤◌, ◌==◌, ℕ, List, [], length, refl, ap, sym, subst, Bool, true, false, not, if◌then◌else◌, Ok, Err, Result, Some, None, arith}
use Rattle.std.proofs.lemmas.Bool.{eq-eqb}
use Rattle.refusals.specs.declared.refusal.Refusal.{Refusal}
use Rattle.refusals.specs.declared.refusal.Refusal.TheVariants as refusal
use Rattle.refusals.specs.declared.refusal.Cause.TheVariants as cause
use Rattle.hive_tree_model.specs.Loads.{CellMarks}
use Rattle.hive_tree_model.proofs.Basics.{clash}
use Rattle.hive_cells.specs.Bins.{Cells}
use Rattle.hive_records.specs.Readers.{look, ◌⟫◌}
use Rattle.hive_records.specs.Lists.{is_hinted, leaf_at, subkeys_at}
use Rattle.hive_records.specs.Follows.{Follows}
use Rattle.hive_records.specs.Heads.{list_fault, IsSubkeyList}
use Rattle.hive_records.specs.RecordReaders.{elements_of, leaf_from, list_from, subkeys_from}
use Rattle.hive_records.specs.declared.list_record.SubkeyList.{SubkeyList}
use Rattle.hive_records.proofs.ListsGoOn.{leaf_out, leaf_on, subkeys_out, subkeys_on}
use Rattle.hive_records.proofs.Follow.{follows_on, follows_out}
use Rattle.hive_load_parts.specs.CellReads.{FollowsIn, joined_leaves}
use Rattle.hive_load_parts.proofs.Kit.{moved, says_err, err_as, rule_kept, rule_broken, done_follows}
use Rattle.hive_load_parts.proofs.ValueSteps.{looked_at, chosen, not_chosen}

-- ---- a leaf

module _ (at : ℕ) (cells : Cells) (old mid : CellMarks) where
  pub leaf_unseen : (r : Refusal) → Follows (look at) cells old mid (Err r) → Follows (leaf_at at) cells old mid (Err r)
  leaf_unseen r h = follows_out (look at) _ cells old mid mid r h

  module _ (bytes : List ℕ) (here : Follows (look at) cells old mid (Ok bytes)) where
    pub leaf_refused : (r : Refusal) → list_fault bytes ≡ Some r → Follows (leaf_at at) cells old mid (Err r)
    leaf_refused r f = says_err (leaf_at at) cells old mid r _ _ (leaf_out cells at bytes r (looked_at at cells old mid bytes here) f)

    module _ (list : SubkeyList) (sound : (list_fault bytes ≡ None) × IsSubkeyList list bytes) where
      leaf_behind : (r : Result (List ℕ) Refusal) → Follows (leaf_from list) cells mid mid r → Follows (leaf_at at) cells old mid r
      leaf_behind r h = moved (leaf_at at) (look at ⟫ λ _. leaf_from list) cells old mid r (leaf_on cells at bytes list (looked_at at cells old mid bytes here) sound.0 sound.1)
          (follows_on (look at) (λ _. leaf_from list) cells old mid mid bytes r here h)

      pub leaf_of_lists : (r : Refusal) → list.is_indirect ≡ true → r ≡ refusal.HiveDamaged 0 cause.BadList → Follows (leaf_at at) cells old mid (Err r)
      leaf_of_lists r e is = err_as (leaf_at at) cells old mid r (refusal.HiveDamaged 0 cause.BadList) is
          (leaf_behind (Err (refusal.HiveDamaged 0 cause.BadList)) (rule_broken (not list.is_indirect) cause.BadList _ cells mid mid (ap not e)))

      pub leaf_read : (subkey_list : List ℕ) → list.is_indirect ≡ false → subkey_list ≡ elements_of list → Follows (leaf_at at) cells old mid (Ok subkey_list)
      leaf_read subkey_list e f = leaf_behind (Ok subkey_list) (rule_kept (not list.is_indirect) cause.BadList _ cells mid mid (Ok subkey_list) (ap not e) (done_follows (elements_of list) subkey_list cells mid (sym f)))

-- ---- a list, whole

module _ (list : SubkeyList) (cells : Cells) (old new : CellMarks) where
  pub list_of_lists : {X : Type 0} (view : X → List ℕ) (found : List ℕ) (r : Result X Refusal) → list.is_indirect ≡ true → found ≡ elements_of list → FollowsIn view (joined_leaves found) cells old new r → FollowsIn view (list_from list) cells old new r
  list_of_lists view found (Ok x) e f h = chosen cells old new (Ok (view x)) list.is_indirect _ _ e (subst (λ ws. Follows (joined_leaves ws) cells old new (Ok (view x))) f h)
  list_of_lists view found (Err r) e f h = chosen cells old new (Err r) list.is_indirect _ _ e (subst (λ ws. Follows (joined_leaves ws) cells old new (Err r)) f h)

  pub list_plain : (found : List ℕ) → list.is_indirect ≡ false → found ≡ elements_of list → Follows (list_from list) cells old old (Ok found)
  list_plain found e f = not_chosen cells old old (Ok found) list.is_indirect _ _ e (done_follows (elements_of list) found cells old (sym f))

-- ---- the subkeys of a key

module _ (count at : ℕ) (cells : Cells) (old : CellMarks) where
  pub no_subkeys : (subkey_list : List ℕ) → (count == 0) ≡ true → subkey_list ≡ [] → Follows (subkeys_at count at) cells old old (Ok subkey_list)
  no_subkeys subkey_list z e = chosen cells old old (Ok subkey_list) (count == 0) _ _ z (done_follows [] subkey_list cells old (sym e))

  module _ (mid : CellMarks) (some : (count == 0) ≡ false) where
    apart : count ≢ 0
    apart e = clash (count == 0) (eq-eqb count 0 e) some

    pub subkeys_unseen : (r : Refusal) → Follows (look at) cells old mid (Err r) → Follows (subkeys_at count at) cells old mid (Err r)
    subkeys_unseen r h = not_chosen cells old mid (Err r) (count == 0) _ _ some (follows_out (look at) _ cells old mid mid r h)

    module _ (bytes : List ℕ) (here : Follows (look at) cells old mid (Ok bytes)) where
      pub subkeys_refused : (r : Refusal) → list_fault bytes ≡ Some r → Follows (subkeys_at count at) cells old mid (Err r)
      subkeys_refused r f = says_err (subkeys_at count at) cells old mid r _ _ (subkeys_out cells count at bytes r apart (looked_at at cells old mid bytes here) f)

      module _ (list : SubkeyList) (sound : (list_fault bytes ≡ None) × IsSubkeyList list bytes) (new : CellMarks) where
        subkeys_behind : (r : Result (List ℕ) Refusal) → Follows (subkeys_from count list) cells mid new r → Follows (subkeys_at count at) cells old new r
        subkeys_behind r h = moved (subkeys_at count at) (look at ⟫ λ _. subkeys_from count list) cells old new r (subkeys_on cells count at bytes list apart (looked_at at cells old mid bytes here) sound.0 sound.1)
            (follows_on (look at) (λ _. subkeys_from count list) cells old mid new bytes r here h)

        pub subkeys_out_of : (r : Refusal) → Follows (list_from list) cells mid new (Err r) → Follows (subkeys_at count at) cells old new (Err r)
        subkeys_out_of r h = subkeys_behind (Err r) (follows_out (list_from list) _ cells mid new new r h)

        module _ (subkey_list : List ℕ) (found : Follows (list_from list) cells mid new (Ok subkey_list)) where
          pub subkeys_uncounted : (r : Refusal) → (length subkey_list == count) ≡ false → r ≡ refusal.HiveDamaged 0 cause.BadList → Follows (subkeys_at count at) cells old new (Err r)
          subkeys_uncounted r e is = err_as (subkeys_at count at) cells old new r (refusal.HiveDamaged 0 cause.BadList) is
              (subkeys_behind (Err (refusal.HiveDamaged 0 cause.BadList)) (follows_on (list_from list) _ cells mid new new subkey_list (Err (refusal.HiveDamaged 0 cause.BadList)) found (rule_broken (length subkey_list == count) cause.BadList _ cells new new e)))

          pub subkeys_read : (length subkey_list == count) ≡ true → Follows (subkeys_at count at) cells old new (Ok subkey_list)
          subkeys_read e = subkeys_behind (Ok subkey_list) (follows_on (list_from list) _ cells mid new new subkey_list (Ok subkey_list) found (rule_kept (length subkey_list == count) cause.BadList _ cells new new (Ok subkey_list) e (done_follows subkey_list subkey_list cells new refl)))

-- ---- what was read of a list

wide_if : (h : Bool) → 4 ≤ (if h then 8 else 4)
wide_if true = omega arith
wide_if false = omega arith

pub is_wide : (list : SubkeyList) (bytes : List ℕ) → (list_fault bytes ≡ None) × IsSubkeyList list bytes → 4 ≤ list.stride
is_wide list bytes s = subst (λ z. 4 ≤ z) (sym s.1.stride) (wide_if (is_hinted bytes))
