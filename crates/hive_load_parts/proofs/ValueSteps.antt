-- A value, and its data, step by step.
use Rattle.std.proofs.Common.{◌≡◌, ◌-◌, ◌^◌, ◌==◌, nat_le, nat_lt, ℕ, List, take, refl, ap, sym, subst, Bool, true, false, Ok, Err, Result, Some, None, Option, ◌&&◌, []}
use Rattle.refusals.specs.declared.refusal.Refusal.{Refusal}
use Rattle.refusals.specs.declared.refusal.Refusal.TheVariants as refusal
use Rattle.hive_tree_model.proofs.Basics.{never, ok_same, ok_err}
use Rattle.hive_tree_model.specs.Loads.{CellMarks}
use Rattle.hive_cells.specs.Bins.{Cells}
use Rattle.hive_records.specs.Readers.{Reader, done, choice, look, own_if, ◌⟫◌}
use Rattle.hive_records.specs.Values.{cell_prefix, segment_bytes, big_data, value_at}
use Rattle.hive_records.specs.Follows.{Follows}
use Rattle.hive_records.specs.Heads.{value_fault, IsValueRec}
use Rattle.hive_records.specs.RecordReaders.{units_of, data_from, value_from}
use Rattle.hive_records.specs.declared.value_record.ValueRec.{ValueRec}
use Rattle.hive_records.proofs.RecordReaders.{value_out, value_on}
use Rattle.hive_records.proofs.Follow.{follows_on, follows_out}
use Rattle.hive_load_parts.proofs.Kit.{moved, says_err, done_follows}

there_if : (at : ℕ) (o : Option (List ℕ)) (bytes : List ℕ) → (own_if at o).says ≡ Ok bytes → o ≡ Some bytes
there_if at None bytes e = ok_err bytes (refusal.HiveDamaged 0 _) (sym e)
there_if at (Some d) bytes e = ap Some (ok_same d bytes e)

-- a cell that was looked at is there
pub looked_at : (at : ℕ) (cells : Cells) (old new : CellMarks) (bytes : List ℕ) → Follows (look at) cells old new (Ok bytes) → cells at ≡ Some bytes
unfolding look
looked_at at cells old new bytes h = there_if at (cells at) bytes h.0

module _ (split : Bool) (at : ℕ) (cells : Cells) (old mid new : CellMarks) where
  pub value_unseen : (r : Refusal) → Follows (look at) cells old new (Err r) → Follows (value_at split at) cells old new (Err r)
  value_unseen r h = follows_out (look at) _ cells old new new r h

  module _ (bytes : List ℕ) (here : Follows (look at) cells old mid (Ok bytes)) where
    pub value_refused : (r : Refusal) → value_fault bytes ≡ Some r → Follows (value_at split at) cells old new (Err r)
    value_refused r f = says_err (value_at split at) cells old new r _ _ (value_out split cells at bytes r (looked_at at cells old mid bytes here) f)

    module _ (value : ValueRec) (sound : (value_fault bytes ≡ None) × IsValueRec value bytes) where
      same : value_at split at cells ≡ (look at ⟫ λ _. value_from split value) cells
      same = value_on split cells at bytes value (looked_at at cells old mid bytes here) sound.0 sound.1

      pub value_dataless : (r : Refusal) → Follows (data_from split value.size value.offset value.small.now) cells mid new (Err r) → Follows (value_at split at) cells old new (Err r)
      value_dataless r h = moved (value_at split at) (look at ⟫ λ _. value_from split value) cells old new (Err r) same
          (follows_on (look at) (λ _. value_from split value) cells old mid new bytes (Err r) here (follows_out (data_from split value.size value.offset value.small.now) _ cells mid new new r h))

      pub value_read : (its name : List ℕ) → name ≡ units_of value.name → Follows (data_from split value.size value.offset value.small.now) cells mid new (Ok its) → Follows (value_at split at) cells old new (Ok (record { name = name; kind = value.kind; «data» = its }))
      value_read its name e h = moved (value_at split at) (look at ⟫ λ _. value_from split value) cells old new (Ok (record { name = name; kind = value.kind; «data» = its })) same
          (follows_on (look at) (λ _. value_from split value) cells old mid new bytes (Ok (record { name = name; kind = value.kind; «data» = its })) here
          (follows_on (data_from split value.size value.offset value.small.now) (λ d. done (record { name = units_of value.name; kind = value.kind; «data» = d })) cells mid new new its (Ok (record { name = name; kind = value.kind; «data» = its })) h
          (done_follows (record { name = units_of value.name; kind = value.kind; «data» = its }) (record { name = name; kind = value.kind; «data» = its }) cells new (λ i. record { name = sym e i; kind = value.kind; «data» = its }))))

-- ---- data

module _ {A : Type 0} (cells : Cells) (old new : CellMarks) (r : Result A Refusal) where
  pub chosen : (b : Bool) (m n : Reader A) → b ≡ true → Follows m cells old new r → Follows (choice b m n) cells old new r
  unfolding choice
  chosen true m n e h = h
  chosen false m n e h = never e

  pub not_chosen : (b : Bool) (m n : Reader A) → b ≡ false → Follows n cells old new r → Follows (choice b m n) cells old new r
  unfolding choice
  not_chosen true m n e h = never (sym e)
  not_chosen false m n e h = h

two_tests : {A : Type 0} (a b : Bool) (m n : Reader A) → choice a (choice b m n) n ≡ choice (a && b) m n
unfolding choice
two_tests true b m n = refl
two_tests false b m n = refl

module _ (split : Bool) (size offset : ℕ) (small : List ℕ) (cells : Cells) (old new : CellMarks) where
  pub data_small : (d : List ℕ) → nat_le (2 ^ 31) size ≡ true → take (size - 2 ^ 31) small ≡ d → Follows (data_from split size offset small) cells old old (Ok d)
  data_small d e f = chosen cells old old (Ok d) (nat_le (2 ^ 31) size) _ _ e (done_follows (take (size - 2 ^ 31) small) d cells old f)

  pub data_empty : (d : List ℕ) → nat_le (2 ^ 31) size ≡ false → (size == 0) ≡ true → [] ≡ d → Follows (data_from split size offset small) cells old old (Ok d)
  data_empty d e f g = not_chosen cells old old (Ok d) (nat_le (2 ^ 31) size) _ _ e (chosen cells old old (Ok d) (size == 0) _ _ f (done_follows [] d cells old g))

  far : (r : Result (List ℕ) Refusal) → nat_le (2 ^ 31) size ≡ false → (size == 0) ≡ false → Follows (choice (split && nat_lt segment_bytes size) (big_data size offset) (cell_prefix size offset)) cells old new r → Follows (data_from split size offset small) cells old new r
  far r e f h = not_chosen cells old new r (nat_le (2 ^ 31) size) _ _ e (not_chosen cells old new r (size == 0) _ _ f
      (subst (λ (m : Reader (List ℕ)). Follows m cells old new r) (sym (two_tests split (nat_lt segment_bytes size) (big_data size offset) (cell_prefix size offset))) h))

  pub data_big : (r : Result (List ℕ) Refusal) → nat_le (2 ^ 31) size ≡ false → (size == 0) ≡ false → (split && nat_lt segment_bytes size) ≡ true → Follows (big_data size offset) cells old new r → Follows (data_from split size offset small) cells old new r
  data_big r e f g h = far r e f (chosen cells old new r (split && nat_lt segment_bytes size) _ _ g h)

  pub data_piece : (r : Result (List ℕ) Refusal) → nat_le (2 ^ 31) size ≡ false → (size == 0) ≡ false → (split && nat_lt segment_bytes size) ≡ false → Follows (cell_prefix size offset) cells old new r → Follows (data_from split size offset small) cells old new r
  data_piece r e f g h = far r e f (not_chosen cells old new r (split && nat_lt segment_bytes size) _ _ g h)
