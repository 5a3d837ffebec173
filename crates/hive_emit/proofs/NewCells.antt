-- Cells that are allocated and written, as a function of offsets.
use Rattle.std.proofs.Common.{◌≡◌, inl, inr, ℕ, ◌+◌, ◌-◌, ◌%◌, ◌<◌, ◌≤◌, ◌^◌, List, ◌++◌, length, take, drop, refl, ◌∙◌, ap, subst, arith, Option, Some, None, IsSome, is_some, length-take, length-drop}
use Rattle.std.specs.Prelude.{slice_range}
use Rattle.std.proofs.Math.Seq.{take-add, drop-drop}
use Rattle.std.proofs.lemmas.Bool.{cases_lt}
use Rattle.refusals.specs.declared.limits.TheConstants.{MOST_BINS_BYTES}
use Rattle.refusals.specs.declared.refusal.Refusal.{Refusal}
use Rattle.refusals.specs.declared.refusal.Refusal.TheVariants as refusal
use Rattle.hive_cells.specs.Tiles.{Tiles, IsCell, IsAllocatedCell, IsFreeCell, cell_size, cell_data}
use Rattle.hive_cells.specs.Bins.{Bins, Cells}
use Rattle.hive_cells.specs.Changes.{Allocates, Writes, RoomRefused, least_size}
use Rattle.hive_cells.proofs.Shown.{cell_eights, end_within, put_at, put_here, put_there, put_shown, none_shown}
use Rattle.hive_records.specs.Numbers.{nil_offset}
use Rattle.hive_emit.specs.CellWrites.{Makes, Opens, Puts, HasFreeRoomAt, HasFreeRoom, Uses, Lands, WriteRefused, Fills, IsLongCell, cell_cost}

-- the data of a cell have four bytes less than it
pub data_long : (bytes : List ℕ) (at : ℕ) → Tiles bytes → IsAllocatedCell bytes at → length (cell_data bytes at) + 4 ≡ cell_size bytes at
data_long bytes at tiles found =
    let end : ℕ = found.0.0 in
    let is : IsCell bytes end at = tiles.cells end at found.0.1 in
    let within : at + cell_size bytes at ≤ end = is.within in
    let least : 8 ≤ cell_size bytes at = is.least in
    let ends : end ≤ length bytes = end_within bytes end at found.0.1 in
    omega (arith, within, least, ends, length-take (at + cell_size bytes at - (at + 4)) (drop (at + 4) bytes), length-drop (at + 4) bytes)

-- no cell begins at the offset of none
pub cell_near : (bytes : List ℕ) (at : ℕ) → at < 2 ^ 32 → IsAllocatedCell bytes at → at < nil_offset
cell_near bytes at u32_bytes found = let eights : at % 8 ≡ 0 = cell_eights bytes found.0.0 at found.0.1 in omega (arith, eights, u32_bytes)

some_none : {A : Type 0} (o : Option (List ℕ)) → IsSome o → o ≡ None → A
some_none None h e = absurd (let no : ⊥ = cc in no)
some_none (Some its) h e = absurd (let no : ⊥ = cc in no)

-- a cell that is allocated
pub opened : (old new : List ℕ) (len at : ℕ) → at < 2 ^ 32 → Tiles new → Allocates old new len at → Makes old new (Opens at len)
opened old new len at u32_bytes tiles a = record {
  cells = λ before shows.
      let gone : before at ≡ None = none_shown old at a.fresh (before at) (shows at) in
      let its : put_at before at (cell_data new at) at ≡ Some (cell_data new at) = put_here before at (cell_data new at) at refl in
      let least : least_size len ≤ cell_size new at = a.least in (
        put_at before at (cell_data new at),
        put_shown old new at before shows a.begins a.others,
        (λ cell there. put_there before at (cell_data new at) cell (λ e. some_none (before cell) there (ap before e ∙ gone))),
        record {
          adds = record {
            once = ((λ h. absurd h), tt);
            fresh = λ cell h. elim h [ inl e ↦ ap before e ∙ gone | inr h ↦ absurd h ];
            there = λ cell h. elim h [ inl e ↦ ap is_some (ap (put_at before at (cell_data new at)) e ∙ its) | inr h ↦ absurd h ];
          };
          its = cell_data new at;
          is = its;
          long = omega (arith, least, data_long new at tiles a.begins);
          near = cell_near new at u32_bytes a.begins;
        },
      );
  longer = a.written.longer;
}

pub long_cell : (old new : List ℕ) (len at : ℕ) → Allocates old new len at → IsLongCell new at len
long_cell old new len at a = (a.begins, (let least : least_size len ≤ cell_size new at = a.least in omega (arith, least)))

-- what is taken of the room
pub landed : (old new : List ℕ) (len at : ℕ) → Allocates old new len at → Lands old new at (cell_cost len)
landed old new len at a front more r = elim a.source [
  | inl h ↦
      let here : at ≡ front = r.only at h.0 in
      let long : least_size len + more + 8 < cell_size old front = r.long in
      let room : cell_size old at ≡ a.room = h.1 in
      let same : cell_size old at ≡ cell_size old front = ap (cell_size old) here in
      let exact : cell_size new at ≡ least_size len = a.exact (omega (arith, long, room, same)) in
      let less : cell_size new at < a.room = omega (arith, long, room, same, exact) in
      let rest : cell_size new at + cell_size new (at + cell_size new at) ≡ a.room = a.leaves.rest_size less in
      let next : at + cell_size new at ≡ front + least_size len = omega (arith, here, exact) in (
        here,
        record {
          limit = let limit : length old ≤ MOST_BINS_BYTES = r.limit in let len : length new ≡ length old = h.2 in omega (arith, limit, len);
          free = subst (IsFreeCell new) next (a.leaves.rest less);
          long = let after : cell_size new (at + cell_size new at) ≡ cell_size new (front + least_size len) = ap (cell_size new) next in omega (arith, long, room, same, exact, rest, after);
          only = λ other free. elim (cases_lt other at) [
            | inl low ↦ absurd (let e : other ≡ front = r.only other ((a.leaves.others other (inl low)).same.0 free) in omega (arith, e, low, here))
            | inr past ↦ elim (cases_lt other (at + a.room)) [
              | inl inner ↦ a.leaves.alone other free past inner ∙ next
              | inr high ↦ absurd (let e : other ≡ front = r.only other ((a.leaves.others other (inr high)).same.0 free) in omega (arith, e, high, here, less))
            ]
          ];
        },
      )
  | inr h ↦ absurd (h.0 (front, r.free, (let long : least_size len + more + 8 < cell_size old front = r.long in omega (arith, long))))
]

pub stopped : (old : Bins) (len : ℕ) (why : Refusal) → RoomRefused old (least_size len) why → WriteRefused old.bytes (cell_cost len) why
stopped old len refusal.NoMemory h = inl refl
stopped old len refusal.TooLarge h = inr (λ r. elim h [
  | inl over ↦ (let limit : length old.bytes ≤ MOST_BINS_BYTES = r.1.limit in let o : MOST_BINS_BYTES < length old.bytes = over in omega arith)
  | inr none ↦ none.0 (r.0, r.1.free, (let long : least_size len + 8 < cell_size old.bytes r.0 = r.1.long in omega arith))
])
stopped old len refusal.NotFound h = absurd h
stopped old len refusal.HasSubkeys h = absurd h
stopped old len refusal.BadName h = absurd h
stopped old len refusal.TooDeep h = absurd h
stopped old len refusal.Conflict h = absurd h
stopped old len refusal.NotActive h = absurd h
stopped old len refusal.NoSuchHandle h = absurd h
stopped old len refusal.NoSeat h = absurd h
stopped old len refusal.JournalFull h = absurd h
stopped old len refusal.HistoryFull h = absurd h
stopped old len refusal.DiskFault h = absurd h
stopped old len refusal.Faulted h = absurd h
stopped old len (refusal.HiveDamaged hive cause) h = absurd h
stopped old len refusal.JournalDamaged h = absurd h
stopped old len refusal.Unsupported h = absurd h
stopped old len refusal.Fixed h = absurd h

-- a cell that is filled
part_of : (xs : List ℕ) (from middle to : ℕ) → from ≤ middle → middle ≤ to → slice_range xs from to ≡ slice_range xs from middle ++ slice_range xs middle to
part_of xs from middle to low high =
    let sum : to - from ≡ (middle - from) + (to - middle) = omega arith in
    let next : from + (middle - from) ≡ middle = omega arith in
    ap (λ n. take n (drop from xs)) sum ∙ take-add (middle - from) (to - middle) (drop from xs)
    ∙ ap (λ ys. take (middle - from) (drop from xs) ++ take (to - middle) ys) (drop-drop (middle - from) from xs ∙ ap (λ n. drop n xs) next)

pub filled : (old new : List ℕ) (at : ℕ) (encoding : List ℕ) → IsLongCell old at (length encoding) → Writes old new at (at + 4 + 0) (at + 4 + 0 + length encoding) → slice_range new (at + 4 + 0) (at + 4 + 0 + length encoding) ≡ encoding → Fills old new at encoding
filled old new at encoding long w is = record {
  cells = λ before shows.
      let size : cell_size new at ≡ cell_size old at = w.size in
      let its : cell_data new at ≡ encoding ++ slice_range new (at + 4 + length encoding) (at + cell_size new at) =
      part_of new (at + 4) (at + 4 + length encoding) (at + cell_size new at) (omega arith) (omega (arith, long.1, size))
      ∙ ap (λ xs. xs ++ slice_range new (at + 4 + length encoding) (at + cell_size new at)) (subst (λ n. slice_range new n (n + length encoding) ≡ encoding) zero_more is) in (
        put_at before at (cell_data new at),
        put_shown old new at before shows w.begins w.others,
        (λ cell apart. put_there before at (cell_data new at) cell apart),
        (slice_range new (at + 4 + length encoding) (at + cell_size new at), put_here before at (cell_data new at) at refl ∙ ap Some its),
      );
  len = w.within.len;
  room = λ front more r. record {
    limit = let limit : length old ≤ MOST_BINS_BYTES = r.limit in let len : length new ≡ length old = w.within.len in omega arith;
    free = (w.free front).same.1 r.free;
    long = let size : cell_size new front ≡ cell_size old front = (w.free front).size r.free in let long : more + 8 < cell_size old front = r.long in omega arith;
    only = λ other free. r.only other ((w.free other).same.0 free);
  };
}
  where
    zero_more : at + 4 + 0 ≡ at + 4
    zero_more = omega arith

-- a cell that is allocated and filled
pub put_made : (old mid new : List ℕ) (at len : ℕ) (encoding : List ℕ) → Makes old mid (Opens at len) → Fills mid new at encoding → Makes old new (Puts at encoding)
put_made old mid new at len encoding m f = record {
  cells = λ before shows.
      let o = m.cells before shows in
      let h = f.cells o.0 o.1 in
      let gone : before at ≡ None = o.3.adds.fresh at (inl refl) in (
        h.0,
        h.1,
        (λ cell there. h.2 cell (λ e. some_none (before cell) there (ap before e ∙ gone)) ∙ o.2 cell there),
        record {
          adds = record {
            once = o.3.adds.once;
            fresh = o.3.adds.fresh;
            there = λ cell i. elim i [ inl e ↦ ap is_some (ap h.0 e ∙ h.3.1) | inr none ↦ absurd none ];
          };
          holds = h.3;
          near = o.3.near;
        },
      );
  longer = let a : length old ≤ length mid = m.longer in let b : length new ≡ length mid = f.len in omega arith;
}

-- what is taken by one thing after another
roomy_less : (bytes : List ℕ) (front room less : ℕ) → less ≤ room → HasFreeRoomAt bytes front room → HasFreeRoomAt bytes front less
roomy_less bytes front room less fewer r = record { limit = r.limit; free = r.free; long = let long : room + 8 < cell_size bytes front = r.long in omega (arith, long, fewer); only = r.only }

pub less_roomy : (bytes : List ℕ) (room less : ℕ) → less ≤ room → HasFreeRoom bytes room → HasFreeRoom bytes less
less_roomy bytes room less fewer r = (r.0, roomy_less bytes r.0 room less fewer r.1)

pub lands_used : (old new : List ℕ) (at cost : ℕ) → Lands old new at cost → Uses old new cost
lands_used old new at cost l more r = (r.0 + cost, (l r.0 more r.1).1)

pub none_used : (bytes : List ℕ) → Uses bytes bytes 0
none_used bytes more r = subst (HasFreeRoom bytes) (let e : 0 + more ≡ more = omega arith in e) r

pub uses_more : (old new : List ℕ) (a b : ℕ) → a ≤ b → Uses old new a → Uses old new b
uses_more old new a b most u more r = less_roomy new (b - a + more) more (omega arith) (u (b - a + more) (subst (HasFreeRoom old) (let e : b + more ≡ a + (b - a + more) = omega (arith, most) in e) r))

pub both_used : (old mid new : List ℕ) (a b : ℕ) → Uses old mid a → Uses mid new b → Uses old new (a + b)
both_used old mid new a b u v more r = v more (u (b + more) (subst (HasFreeRoom old) (let e : a + b + more ≡ a + (b + more) = omega arith in e) r))

-- what stops a later thing stops all of it
pub stops_later : (old mid : List ℕ) (a b all : ℕ) (why : Refusal) → a + b ≤ all → Uses old mid a → WriteRefused mid b why → WriteRefused old all why
stops_later old mid a b all why most u (inl none) = inl none
stops_later old mid a b all why most u (inr full) = inr (λ r. full (u b (less_roomy old all (a + b) most r)))

pub stops_more : (old : List ℕ) (a b : ℕ) (why : Refusal) → a ≤ b → WriteRefused old a why → WriteRefused old b why
stops_more old a b why most s = stops_later old old 0 a b why (let e : 0 + a ≤ b = omega (arith, most) in e) (none_used old) s
