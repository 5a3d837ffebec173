-- A key's list of subkeys that has changed.
use Rattle.std.proofs.Common.{◌≡◌, ◌≢◌, ℕ, suc, ◌≤◌, ◌+◌, ◌*◌, List, [], ◌∷◌, ◌++◌, length, take, drop, slice_get, refl, ◌∙◌, ap, sym, subst, false, Some, arith}
use Rattle.hive_tree_model.specs.Lists.{IsIn}
use Rattle.hive_tree_model.proofs.Basics.{in_front, in_back}
use Rattle.hive_cells.specs.Bins.{Cells}
use Rattle.hive_records.specs.Numbers.{u16_at, words_from}
use Rattle.hive_records.specs.Lists.{is_indirect, subkeys_at}
use Rattle.hive_records.specs.Heads.{stride_of}
use Rattle.hive_records.specs.Fields.{Gives}
use Rattle.hive_records.proofs.StepsAgain.{gives_same}
use Rattle.hive_edit_laws.specs.Shifts.{with_at, without_at, ShiftsIn, ShiftsOut}
use Rattle.hive_edit_laws.specs.Found.{LeafHas, LeavesHave, leaf_words}
use Rattle.hive_edit_laws.proofs.Shifts.{words_in, words_out}
use Rattle.hive_edit_laws.proofs.ListParts.{words_long}
use Rattle.hive_edit_laws.proofs.ListSearch.{around_index, leaf_one}
use Rattle.hive_edit_laws.proofs.LeafBytes.{leaf_says, leaf_like, one_leaf, list_is_leaf, list_length, leaves_split, one_of_leaves, leaves_stay, leaves_join}

module _ (before after : Cells) (count at to : ℕ) (own lent its old new : List ℕ) (h : Gives (subkeys_at count at) before own lent its) (some : count ≢ 0) (here : before at ≡ Some old) (direct : is_indirect old ≡ false) (there : after to ≡ Some new) (same : u16_at new 0 ≡ u16_at old 0) where
  has : LeafHas before at its
  has = (list_is_leaf before count at own lent its old h some here direct).1

  old_words : its ≡ leaf_words old
  old_words = (leaf_says old before at here its has).1

  old_count : u16_at old 2 ≡ count
  old_count = sym (words_long old 4 (stride_of old) (u16_at old 2)) ∙ ap length (sym old_words) ∙ list_length before count at own lent its old h some here

  pub list_with : (index word : ℕ) → u16_at new 2 ≡ suc (u16_at old 2) → 4 + stride_of old * suc (u16_at old 2) ≤ length new → index ≤ u16_at old 2 → ShiftsIn old new 4 (stride_of old) (u16_at old 2) index word → Gives (subkeys_at (suc count) to) after (to ∷ []) [] (with_at index word its)
  list_with index word counts long most shifts =
      let now = leaf_like old new (leaf_says old before at here its has).0 same (suc (u16_at old 2)) counts long in
      gives_same (now.1 ∙ words_in old new 4 (stride_of old) (u16_at old 2) index word most shifts ∙ ap (with_at index word) (sym old_words))
      (one_leaf new after to there (suc count) (λ e. absurd (omega (arith, e))) now.0 (words_long new 4 (stride_of new) (u16_at new 2) ∙ counts ∙ ap suc old_count))

  pub list_without : (left index : ℕ) → count ≡ suc left → left ≢ 0 → u16_at old 2 ≡ suc (u16_at new 2) → 4 + stride_of old * u16_at new 2 ≤ length new → index ≤ u16_at new 2 → ShiftsOut old new 4 (stride_of old) (u16_at new 2) index → Gives (subkeys_at left to) after (to ∷ []) [] (without_at index its)
  list_without left index is some_left counts long most shifts =
      let now = leaf_like old new (leaf_says old before at here its has).0 same (u16_at new 2) refl long in
      gives_same (now.1 ∙ words_out old new 4 (stride_of old) (u16_at new 2) index most shifts ∙ ap (λ (n : ℕ). without_at index (words_from old 4 (stride_of old) n)) (sym counts) ∙ ap (without_at index) (sym old_words))
      (one_leaf new after to there left some_left now.0 (words_long new 4 (stride_of new) (u16_at new 2) ∙ (let c : suc (u16_at new 2) ≡ suc left = sym counts ∙ old_count ∙ is in omega (arith, c))))

pub leaves_with : (before after : Cells) (words : List ℕ) (index leaf : ℕ) (its : List ℕ) (lists : List (List ℕ)) (news : List ℕ) (new_lists : List (List ℕ)) → LeavesHave before words lists → slice_get words index ≡ Some leaf → LeafHas before leaf its → LeavesHave after news new_lists → ((other : ℕ) → IsIn other (take index words ++ drop (suc index) words) → after other ≡ before other) →
    (us : List (List ℕ)) × (ws : List (List ℕ)) × (lists ≡ us ++ its ∷ ws) × LeavesHave after (take index words ++ (news ++ drop (suc index) words)) (us ++ (new_lists ++ ws))
leaves_with before after words index leaf its lists news new_lists had get mine now stays =
    let one = leaves_split before (take index words) (leaf ∷ drop (suc index) words) lists (subst (λ (ws : List ℕ). LeavesHave before ws lists) (around_index words index leaf get) had) in
    let two = leaves_split before (leaf ∷ []) (drop (suc index) words) one.1 one.3 in
    let alone = one_of_leaves before leaf two.0 two.2 in
    let same : alone.0 ≡ its = leaf_one before leaf alone.0 its alone.1 mine in
    let front = leaves_stay before after (take index words) one.0 one.2 (λ other i. stays other (in_front other (take index words) (drop (suc index) words) i)) in
    let back = leaves_stay before after (drop (suc index) words) two.1 two.3 (λ other i. stays other (in_back other (take index words) (drop (suc index) words) i)) in (
      one.0,
      two.1,
      one.4 ∙ ap (λ (z : List (List ℕ)). one.0 ++ z) (two.4 ∙ ap (λ (z : List (List ℕ)). z ++ two.1) (alone.2 ∙ ap (λ (z : List ℕ). z ∷ []) same)),
      leaves_join after (take index words) (news ++ drop (suc index) words) one.0 (new_lists ++ two.1) front (leaves_join after news (drop (suc index) words) new_lists two.1 now back),
    )
