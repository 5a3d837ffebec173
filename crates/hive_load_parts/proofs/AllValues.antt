-- The values of a key, step by step.
use Rattle.std.proofs.Common.{◌≡◌, ◌⊎◌, ◌*◌, ◌==◌, nat_le, ℕ, List, [], length, sym, inl, inr, Bool, true, false, Ok, Err, Result, MatchResult}
use Rattle.std.specs.FinMap as finite
use Rattle.refusals.specs.declared.refusal.Refusal.{Refusal}
use Rattle.refusals.specs.declared.refusal.Refusal.TheVariants as refusal
use Rattle.refusals.specs.declared.refusal.Cause.TheVariants as cause
use Rattle.reg_tree_parts.specs.declared.value.Value.{Value}
use Rattle.reg_tree_parts.specs.Rows.{ValueMap}
use Rattle.hive_tree_model.specs.Loads.{CellMarks}
use Rattle.hive_cells.specs.Bins.{Cells}
use Rattle.hive_records.specs.Readers.{done, rule, look, each, ◌⟫◌}
use Rattle.hive_records.specs.Numbers.{words_from}
use Rattle.hive_records.specs.Names.{all_apart}
use Rattle.hive_records.specs.Values.{value_at, values_at, map_of}
use Rattle.hive_records.specs.Follows.{Follows}
use Rattle.hive_records.proofs.Follow.{follows_on, follows_out}
use Rattle.hive_load_parts.specs.CellReads.{names_in, FollowsIn}
use Rattle.hive_load_parts.proofs.Kit.{err_as, rule_kept, rule_broken, done_follows}
use Rattle.hive_load_parts.proofs.ValueSteps.{chosen, not_chosen}

module _ (split : Bool) (count at : ℕ) (cells : Cells) (old : CellMarks) where
  pub no_values : (v : ValueMap) → (count == 0) ≡ true → v ≡ finite.empty → Follows (values_at split count at) cells old old (Ok v)
  no_values v z e = chosen cells old old (Ok v) (count == 0) _ _ z (done_follows (map_of []) v cells old (sym e))

  module _ (mid : CellMarks) (some : (count == 0) ≡ false) where
    behind_look : (new : CellMarks) (r : Result ValueMap Refusal) → Follows (look at ⟫ λ bytes. rule (nat_le (4 * count) (length bytes)) cause.BadRecord ⟫ λ _. each (value_at split) (words_from bytes 0 4 count) ⟫ λ values. rule (all_apart (names_in values)) cause.BadName ⟫ λ _. done (map_of values)) cells old new r → Follows (values_at split count at) cells old new r
    behind_look new r h = not_chosen cells old new r (count == 0) _ _ some h

    pub values_unlisted : (r : Refusal) → Follows (look at) cells old mid (Err r) → Follows (values_at split count at) cells old mid (Err r)
    values_unlisted r h = behind_look mid (Err r) (follows_out (look at) _ cells old mid mid r h)

    module _ (bytes : List ℕ) (here : Follows (look at) cells old mid (Ok bytes)) where
      pub values_short : (r : Refusal) → nat_le (4 * count) (length bytes) ≡ false → r ≡ refusal.HiveDamaged 0 cause.BadRecord → Follows (values_at split count at) cells old mid (Err r)
      values_short r e is = err_as (values_at split count at) cells old mid r (refusal.HiveDamaged 0 cause.BadRecord) is
          (behind_look mid (Err (refusal.HiveDamaged 0 cause.BadRecord)) (follows_on (look at) _ cells old mid mid bytes (Err (refusal.HiveDamaged 0 cause.BadRecord)) here (rule_broken (nat_le (4 * count) (length bytes)) cause.BadRecord _ cells mid mid e)))

      module _ (fits : nat_le (4 * count) (length bytes) ≡ true) (new : CellMarks) where
        behind_rule : (r : Result ValueMap Refusal) → Follows (each (value_at split) (words_from bytes 0 4 count) ⟫ λ values. rule (all_apart (names_in values)) cause.BadName ⟫ λ _. done (map_of values)) cells mid new r → Follows (values_at split count at) cells old new r
        behind_rule r h = behind_look new r (follows_on (look at) _ cells old mid new bytes r here (rule_kept (nat_le (4 * count) (length bytes)) cause.BadRecord _ cells mid new r fits h))

        pub values_out : (r : Refusal) → Follows (each (value_at split) (words_from bytes 0 4 count)) cells mid new (Err r) → Follows (values_at split count at) cells old new (Err r)
        values_out r h = behind_rule (Err r) (follows_out (each (value_at split) (words_from bytes 0 4 count)) _ cells mid new new r h)

        -- what the map of the values answers
        pub values_mapped : (vs : List Value) (r : Result ValueMap Refusal) → Follows (each (value_at split) (words_from bytes 0 4 count)) cells mid new (Ok vs) →
            MatchResult r (λ values. (all_apart (names_in vs) ≡ true) × (values ≡ map_of vs)) (λ r. (r ≡ refusal.NoMemory) ⊎ ((r ≡ refusal.HiveDamaged 0 cause.BadName) × (all_apart (names_in vs) ≡ false))) →
            Follows (values_at split count at) cells old new r
        values_mapped vs (Ok values) h m = behind_rule (Ok values) (follows_on (each (value_at split) (words_from bytes 0 4 count)) _ cells mid new new vs (Ok values) h
            (rule_kept (all_apart (names_in vs)) cause.BadName _ cells new new (Ok values) m.0 (done_follows (map_of vs) values cells new (sym m.1))))
        values_mapped vs (Err r) h (inl e) = inl e
        values_mapped vs (Err r) h (inr m) = err_as (values_at split count at) cells old new r (refusal.HiveDamaged 0 cause.BadName) m.0
            (behind_rule (Err (refusal.HiveDamaged 0 cause.BadName)) (follows_on (each (value_at split) (words_from bytes 0 4 count)) _ cells mid new new vs (Err (refusal.HiveDamaged 0 cause.BadName)) h
            (rule_broken (all_apart (names_in vs)) cause.BadName _ cells new new m.1)))

        pub values_gives : (vs : List Value) (r : Result ValueMap Refusal) → Follows (each (value_at split) (words_from bytes 0 4 count)) cells mid new (Ok vs) →
            MatchResult r (λ values. (all_apart (names_in vs) ≡ true) × (values ≡ map_of vs)) (λ r. (r ≡ refusal.NoMemory) ⊎ ((r ≡ refusal.HiveDamaged 0 cause.BadName) × (all_apart (names_in vs) ≡ false))) →
            FollowsIn (λ (v : ValueMap). v) (values_at split count at) cells old new r
        values_gives vs (Ok values) h m = values_mapped vs (Ok values) h m
        values_gives vs (Err r) h m = values_mapped vs (Err r) h m
