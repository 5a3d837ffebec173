-- Values in their cells.
use Rattle.std.proofs.Common.{inl, inr, ℕ, ◌<◌, ◌≤◌, ◌^◌, List, [], ◌∷◌, length, true, refl, ap, arith}
use Rattle.reg_tree_parts.specs.declared.value.Value.{Value}
use Rattle.hive_cells.specs.Bins.{Cells}
use Rattle.hive_tree_model.specs.Cells.{Grows}
use Rattle.hive_records.specs.Numbers.{nil_offset}
use Rattle.hive_records.specs.BigDataEncodings.{big_data_bytes, segment_offsets}
use Rattle.hive_records.specs.ListEncodings.{offsets_bytes}
use Rattle.hive_records.specs.ValueEncodings.{small_value, large_value}
use Rattle.hive_records.specs.KeyEncodings.{ValueCells}
use Rattle.hive_records.specs.Wholes.{IsWritten}
use Rattle.hive_emit.specs.CellWrites.{Makes, Puts}
use Rattle.hive_emit.specs.Values.{IsSegment, DataAt, ValueAt, CanPut}
use Rattle.hive_emit.proofs.Makings.{made_then, made_as, holds_grown, adds_ahead, all_as}
use Rattle.hive_emit.proofs.Stays.{written_holds}

pub small_made : (a b : List ℕ) (at : ℕ) (value : Value) → CanPut value → value.kind < 2 ^ 32 → length value.«data» ≤ 4 → Makes a b (Puts at (small_value value)) → Makes a b (ValueAt at value)
small_made a b at value can kind few m = made_as a b (Puts at (small_value value)) (ValueAt at value) m (λ x y g p. record {
  own = at ∷ [];
  near = let near : at < nil_offset = p.near in omega arith;
  is = (can.fits kind, inl (record { few = few; own = refl; encoding = p.holds }));
  adds = p.adds;
})

large_at : (at to : ℕ) (value : Value) (x y z : Cells) → CanPut value → value.kind < 2 ^ 32 → 4 < length value.«data» → Grows x y → Grows y z → DataAt to value.«data» x y → Puts at (large_value value to) y z → ValueAt at value x z
large_at at to value x y z can kind some g h d p = record {
  own = at ∷ d.own;
  near = let near : at < nil_offset = p.near in omega arith;
  is = (
    can.fits kind,
    inr (elim d.lies [
      | inl c ↦ inl (record {
        to = to;
        near = d.near;
        some = some;
        few = let few : length value.«data» < 2 ^ 29 = can.few in omega arith;
        one = λ e. c.few;
        own = ap (λ own. at ∷ own) c.is;
        encoding = p.holds;
        its = holds_grown y z to value.«data» h c.held;
      })
      | inr c ↦ inr (record {
        splits = refl;
        to = to;
        list = c.list;
        segments = c.segments;
        near = d.near;
        near_list = c.near_list;
        many = c.many;
        few = let few : length value.«data» < 2 ^ 29 = can.few in omega arith;
        its = c.its;
        full = c.full;
        count = c.count;
        are = c.are;
        own = ap (λ own. at ∷ own) c.is;
        encoding = p.holds;
        leads = holds_grown y z to (big_data_bytes c.segments c.list) h c.leads;
        listing = holds_grown y z c.list (offsets_bytes (segment_offsets c.segments)) h c.listing;
        held = all_as (IsSegment y) (IsSegment z) c.segments (λ s held. holds_grown y z s.at s.encoding h held) c.held;
      })
    ]),
  );
  adds = adds_ahead x y z d.own (at ∷ []) g h d.adds p.adds;
}

pub large_made : (a b c : List ℕ) (at to : ℕ) (value : Value) → CanPut value → value.kind < 2 ^ 32 → 4 < length value.«data» → Makes a b (DataAt to value.«data») → Makes b c (Puts at (large_value value to)) → Makes a c (ValueAt at value)
large_made a b c at to value can kind some m n = made_then a b c (DataAt to value.«data») (Puts at (large_value value to)) (ValueAt at value) m n (λ x y z g h d p. large_at at to value x y z can kind some g h d p)

-- a value that is written stays so
pub written_grown : (y z : Cells) (v : ValueCells) → Grows y z → IsWritten true y v → IsWritten true z v
written_grown y z v g = written_holds y z v (λ cell encoding i h. holds_grown y z cell encoding g h)
