-- An image of one bin with one free cell, from a cell that was allocated in no data and freed.
use Rattle.std.proofs.Common.{◌≡◌, inl, inr, ℕ, zero, suc, ◌+◌, ◌-◌, ◌<◌, ◌≤◌, List, [], length, refl, sym, ◌∙◌, ap, subst, arith}
use Rattle.std.proofs.lemmas.Bool.{cases_lt}
use Rattle.refusals.specs.declared.limits.TheConstants.{MOST_BINS_BYTES}
use Rattle.refusals.specs.declared.refusal.Refusal.{Refusal}
use Rattle.refusals.specs.declared.refusal.Refusal.TheVariants as refusal
use Rattle.refusals.specs.declared.refusal.Cause.TheVariants as cause
use Rattle.hive_cells.specs.Bins.{Bins}
use Rattle.hive_cells.specs.Tiles.{DataRefused, BinStart, first_bin, next_bin, CellStart, first_cell, next_cell, IsFreeCell, IsAllocatedCell, HasFree, bin_size, cell_size, u32_at}
use Rattle.hive_cells.specs.Changes.{Allocates, Frees, HasNoRoomFor, RoomRefused, FreeRefused, least_size, least_bin}
use Rattle.hive_cells.proofs.Region.{words_same}
use Rattle.hive_emit.specs.CellWrites.{HasFreeRoomAt}
use Rattle.hive_cells.proofs.Shown.{end_within}

-- in no data nothing begins
no_bin : (at : ℕ) → BinStart [] at → ⊥
no_bin _ (first_bin some) = omega (arith, some)
no_bin at (next_bin from _ start bin is within) = no_bin from start

no_cell : (end at : ℕ) → CellStart [] end at → ⊥
no_cell end _ (first_cell bin at start is ends begins) = no_bin bin start
no_cell end _ (next_cell from at start is next within) = no_cell end from start

pub none_free : (size : ℕ) → ¬ HasFree [] size
none_free size h = no_cell h.1.0.0 h.0 h.1.0.1

-- in data of one bin whose first cell goes to the end of the data, no other cell begins
one_bin : (bytes : List ℕ) (at : ℕ) → bin_size bytes 0 ≡ length bytes → BinStart bytes at → at ≡ 0
one_bin bytes _ whole (first_bin some) = refl
one_bin bytes at whole (next_bin from _ start bin is within) =
    let zero_is : from ≡ 0 = one_bin bytes from whole start in
    let size : bin_size bytes from ≡ bin_size bytes 0 = ap (bin_size bytes) zero_is in
    let sum : at ≡ from + bin_size bytes from = is in
    absurd (omega (arith, zero_is, size, sum, whole, within))

one_cell : (bytes : List ℕ) (end at : ℕ) → bin_size bytes 0 ≡ length bytes → length bytes ≤ 32 + cell_size bytes 32 → CellStart bytes end at → at ≡ 32
one_cell bytes end _ whole long (first_cell bin at start is ends begins) =
    let zero_is : bin ≡ 0 = one_bin bytes bin whole start in
    let sum : at ≡ bin + 32 = begins in
    omega (arith, zero_is, sum)
one_cell bytes end at whole long (next_cell from _ start is next within) =
    let first : from ≡ 32 = one_cell bytes end from whole long start in
    let size : cell_size bytes from ≡ cell_size bytes 32 = ap (cell_size bytes) first in
    let sum : at ≡ from + cell_size bytes from = next in
    absurd (omega (arith, first, size, sum, long, within, end_within bytes end from start))

cell_behind : (bytes : List ℕ) (end at : ℕ) → CellStart bytes end at → 32 ≤ at
cell_behind bytes end _ (first_cell bin at start is ends begins) = let sum : at ≡ bin + 32 = begins in omega (arith, sum)
cell_behind bytes end at (next_cell from _ start is next within) = let sum : at ≡ from + cell_size bytes from = next in omega (arith, sum, cell_behind bytes end from start)

-- the free cell that the freed one lies in goes to the end
record FreedWhole (b c : List ℕ) (from size : ℕ) : Type 0 where
  front : from ≡ 32
  long : length c ≤ 32 + cell_size c 32
  bin : bin_size c 0 ≡ length c
  free : IsFreeCell c 32
  len : length c ≡ least_bin size

freed_whole : (b c : List ℕ) (len at from : ℕ) → Allocates [] b len at → Frees b c at from → FreedWhole b c from (least_size len)
freed_whole b c len at from a f = elim a.source [
  | inl found ↦ absurd (none_free 0 (at, found.0, omega arith))
  | inr added ↦
      let bin : bin_size b 0 ≡ least_bin (least_size len) = added.1.size_is in
      let sum : length b ≡ 0 + least_bin (least_size len) = added.1.longer in
      let longer : length b ≡ least_bin (least_size len) = omega (arith, sum) in
      let at_is : at ≡ 32 = added.2 in
      let room : 32 + a.room ≡ least_bin (least_size len) = added.3 in
      let low : 32 ≤ from = cell_behind c f.merges.free.0.0 from f.merges.free.0.1 in
      let front : from ≡ 32 = omega (arith, low, f.merges.before, at_is) in
      let here : cell_size c from ≡ cell_size c 32 = ap (cell_size c) front in
      let word : u32_at c 8 ≡ u32_at b 8 = words_same b c 8 (λ i after before. f.written i (inl (omega (arith, before, at_is))) (inl (omega (arith, before, low)))) in
      let len_is : length c ≡ length b = f.len in
      record {
        front = front;
        long = elim (cases_lt (cell_size b at) a.room) [
          | inl less ↦
              let rest : cell_size b at + cell_size b (at + cell_size b at) ≡ a.room = a.leaves.rest_size less in
              let joined : from + cell_size c from ≡ at + cell_size b at + cell_size b (at + cell_size b at) = f.merges.free_behind (at + cell_size b at) (a.leaves.rest less) refl in
              omega (arith, len_is, longer, room, rest, joined, here, front, at_is)
          | inr full ↦
              let behind : at + cell_size b at ≤ from + cell_size c from = f.merges.behind in
              omega (arith, len_is, longer, room, full, behind, here, front, at_is)
        ];
        bin = word ∙ bin ∙ sym longer ∙ sym len_is;
        free = subst (IsFreeCell c) front f.merges.free;
        len = len_is ∙ longer;
      }
]

pub roomy_new : (b c : List ℕ) (len at from needed : ℕ) → needed + 8 ≤ len → len ≤ MOST_BINS_BYTES - 36 → Allocates [] b len at → Frees b c at from → HasFreeRoomAt c 32 needed × (len + 36 ≤ length c)
roomy_new b c len at from needed enough most a f =
    let w : FreedWhole b c from (least_size len) = freed_whole b c len at from a f in
    let long : length c ≤ 32 + cell_size c 32 = w.long in
    let len_is : length c ≡ least_bin (least_size len) = w.len in (
      record {
        limit = omega (arith, len_is, most);
        free = w.free;
        long = omega (arith, long, len_is, enough);
        only = λ other free. one_cell c free.0.0 other w.bin w.long free.0.1;
      },
      omega (arith, len_is),
    )

pub placed_new : (len : ℕ) → len ≤ MOST_BINS_BYTES - 36 → ¬ HasNoRoomFor [] (least_size len)
placed_new len most h = elim h [ inl over ↦ omega (arith, over) | inr over ↦ (let o : MOST_BINS_BYTES < 0 + least_bin (least_size len) = over.1 in omega (arith, o, most)) ]

pub limit_new : (b : List ℕ) (len at : ℕ) → len ≤ MOST_BINS_BYTES - 36 → Allocates [] b len at → length b ≤ MOST_BINS_BYTES
limit_new b len at most a = elim a.source [
  | inl found ↦ absurd (none_free 0 (at, found.0, omega arith))
  | inr added ↦ (let sum : length b ≡ 0 + least_bin (least_size len) = added.1.longer in omega (arith, sum, most))
]

-- why nothing is opened, placed or freed
pub not_opened : (why : Refusal) → DataRefused [] why → why ≡ refusal.NoMemory
not_opened refusal.NoMemory h = refl
not_opened (refusal.HiveDamaged zero cause.Truncated) h = absurd (h refl)
not_opened (refusal.HiveDamaged zero cause.BadBin) h = absurd (no_bin h.0 h.1)
not_opened (refusal.HiveDamaged zero cause.BadCell) h = absurd (no_cell h.0 h.1 h.2)
not_opened (refusal.HiveDamaged zero cause.BadBase) h = absurd h
not_opened (refusal.HiveDamaged zero cause.BadOffset) h = absurd h
not_opened (refusal.HiveDamaged zero cause.BadRecord) h = absurd h
not_opened (refusal.HiveDamaged zero cause.BadList) h = absurd h
not_opened (refusal.HiveDamaged zero cause.BadName) h = absurd h
not_opened (refusal.HiveDamaged zero cause.Shared) h = absurd h
not_opened (refusal.HiveDamaged zero cause.BadLog) h = absurd h
not_opened (refusal.HiveDamaged zero cause.NotClean) h = absurd h
not_opened (refusal.HiveDamaged zero cause.BadStore) h = absurd h
not_opened (refusal.HiveDamaged zero cause.TooLarge) h = absurd h
not_opened (refusal.HiveDamaged (suc n) c) h = absurd h
not_opened refusal.TooLarge h = absurd h
not_opened refusal.NotFound h = absurd h
not_opened refusal.HasSubkeys h = absurd h
not_opened refusal.BadName h = absurd h
not_opened refusal.TooDeep h = absurd h
not_opened refusal.Conflict h = absurd h
not_opened refusal.NotActive h = absurd h
not_opened refusal.NoSuchHandle h = absurd h
not_opened refusal.NoSeat h = absurd h
not_opened refusal.JournalFull h = absurd h
not_opened refusal.HistoryFull h = absurd h
not_opened refusal.DiskFault h = absurd h
not_opened refusal.Faulted h = absurd h
not_opened refusal.JournalDamaged h = absurd h
not_opened refusal.Unsupported h = absurd h
not_opened refusal.Fixed h = absurd h

pub not_placed : (old : Bins) (len : ℕ) (why : Refusal) → old.bytes ≡ [] → len ≤ MOST_BINS_BYTES - 36 → RoomRefused old (least_size len) why → why ≡ refusal.NoMemory
not_placed old len refusal.NoMemory none most h = refl
not_placed old len refusal.TooLarge none most h = absurd (placed_new len most (subst (λ (bytes : List ℕ). HasNoRoomFor bytes (least_size len)) none h))
not_placed old len (refusal.HiveDamaged hive c) none most h = absurd h
not_placed old len refusal.NotFound none most h = absurd h
not_placed old len refusal.HasSubkeys none most h = absurd h
not_placed old len refusal.BadName none most h = absurd h
not_placed old len refusal.TooDeep none most h = absurd h
not_placed old len refusal.Conflict none most h = absurd h
not_placed old len refusal.NotActive none most h = absurd h
not_placed old len refusal.NoSuchHandle none most h = absurd h
not_placed old len refusal.NoSeat none most h = absurd h
not_placed old len refusal.JournalFull none most h = absurd h
not_placed old len refusal.HistoryFull none most h = absurd h
not_placed old len refusal.DiskFault none most h = absurd h
not_placed old len refusal.Faulted none most h = absurd h
not_placed old len refusal.JournalDamaged none most h = absurd h
not_placed old len refusal.Unsupported none most h = absurd h
not_placed old len refusal.Fixed none most h = absurd h

pub not_freed : (b : List ℕ) (at : ℕ) (why : Refusal) → length b ≤ MOST_BINS_BYTES → IsAllocatedCell b at → FreeRefused b at why → why ≡ refusal.NoMemory
not_freed b at refusal.NoMemory limit is h = absurd h
not_freed b at refusal.TooLarge limit is h = absurd (let over : MOST_BINS_BYTES < length b = h in omega (arith, over, limit))
not_freed b at (refusal.HiveDamaged zero cause.BadOffset) limit is h = absurd (h.1 is)
not_freed b at (refusal.HiveDamaged (suc n) c) limit is h = absurd h
not_freed b at (refusal.HiveDamaged zero cause.Truncated) limit is h = absurd h
not_freed b at (refusal.HiveDamaged zero cause.BadBin) limit is h = absurd h
not_freed b at (refusal.HiveDamaged zero cause.BadCell) limit is h = absurd h
not_freed b at (refusal.HiveDamaged zero cause.BadBase) limit is h = absurd h
not_freed b at (refusal.HiveDamaged zero cause.BadRecord) limit is h = absurd h
not_freed b at (refusal.HiveDamaged zero cause.BadList) limit is h = absurd h
not_freed b at (refusal.HiveDamaged zero cause.BadName) limit is h = absurd h
not_freed b at (refusal.HiveDamaged zero cause.Shared) limit is h = absurd h
not_freed b at (refusal.HiveDamaged zero cause.BadLog) limit is h = absurd h
not_freed b at (refusal.HiveDamaged zero cause.NotClean) limit is h = absurd h
not_freed b at (refusal.HiveDamaged zero cause.BadStore) limit is h = absurd h
not_freed b at (refusal.HiveDamaged zero cause.TooLarge) limit is h = absurd h
not_freed b at refusal.NotFound limit is h = absurd h
not_freed b at refusal.HasSubkeys limit is h = absurd h
not_freed b at refusal.BadName limit is h = absurd h
not_freed b at refusal.TooDeep limit is h = absurd h
not_freed b at refusal.Conflict limit is h = absurd h
not_freed b at refusal.NotActive limit is h = absurd h
not_freed b at refusal.NoSuchHandle limit is h = absurd h
not_freed b at refusal.NoSeat limit is h = absurd h
not_freed b at refusal.JournalFull limit is h = absurd h
not_freed b at refusal.HistoryFull limit is h = absurd h
not_freed b at refusal.DiskFault limit is h = absurd h
not_freed b at refusal.Faulted limit is h = absurd h
not_freed b at refusal.JournalDamaged limit is h = absurd h
not_freed b at refusal.Unsupported limit is h = absurd h
not_freed b at refusal.Fixed limit is h = absurd h
