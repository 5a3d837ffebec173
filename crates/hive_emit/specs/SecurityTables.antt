-- Security cells as they are gathered and put: each descriptor once, with the count of the keys that have it.
use Rattle.std.specs.Prelude.{◌≡◌, ℕ, ◌+◌, ◌-◌, ◌<◌, ◌≤◌, ◌^◌, ◌==◌, if◌then◌else◌, Option, List, length, map, take, sum_by, slice_get, Some}
use Rattle.std.specs.Global.{Vec}
use Rattle.std.specs.List.{AllByRecursion}
use Rattle.std.specs.Map.{lookup}
use Rattle.std.specs.BTreeMap.{is_at}
use Rattle.std.specs.Ordering.{nat_cmp}
use Rattle.std.specs.Cmp.Lexicographic.{slice_cmp}
use Rattle.std.specs.Str.{bytes_eq}
use Rattle.hive_tree_model.specs.Lists.{Once}
use Rattle.hive_emit.specs.CellWrites.{HasFreeRoomAt}
use Rattle.hive_emit.specs.declared.security.SecurityEntry.{SecurityEntry}
use Rattle.hive_emit.specs.KeyCosts.{securities_cost}
use Rattle.hive_emit.specs.Forms.{behind}

-- the index that a map has for a descriptor
abbrev pub index_of : List (Vec ℕ × ℕ) → List ℕ → Option ℕ
index_of indexes descriptor = lookup (is_at (λ (k : Vec ℕ). slice_cmp nat_cmp descriptor k.items)) indexes

-- a map has the index of each descriptor
abbrev pub AreFiled : List (Vec ℕ × ℕ) → List SecurityEntry → Type 0
AreFiled indexes securities = (i : ℕ) (s : SecurityEntry) → slice_get securities i ≡ Some s → index_of indexes s.descriptor ≡ Some i

-- a descriptor is kept at an index
pub record HasDescriptorAt (securities : List SecurityEntry) (place : ℕ) (descriptor : List ℕ) : Type 0 where
  pub security : SecurityEntry
  pub is : slice_get securities place ≡ Some security
  pub same : security.descriptor ≡ descriptor

-- descriptors with the counts of keys that have them
abbrev pub Tallies : Type 0
Tallies = List (List ℕ × ℕ)

abbrev pub tallies : List SecurityEntry → Tallies
tallies securities = map (λ (s : SecurityEntry). (s.descriptor, s.count)) securities

-- how many keys with a descriptor are counted
abbrev pub tally : List ℕ → Tallies → ℕ
tally descriptor counted = sum_by (λ t. if bytes_eq descriptor t.0 then t.1 else 0) counted

-- whether a descriptor is another one, as a number
abbrev pub one_with : List ℕ → List ℕ → ℕ
one_with descriptor other = if bytes_eq descriptor other then 1 else 0

-- no descriptor is there twice
abbrev pub AreApart : Tallies → Type 0
AreApart counted = Once (map (λ (t : List ℕ × ℕ). t.0) counted)

-- no count is above a number
abbrev pub AreWithin : ℕ → Tallies → Type 0
AreWithin most counted = AllByRecursion (λ (t : List ℕ × ℕ). t.1 ≤ most) counted

-- no descriptor is empty, and some keys have each
abbrev pub AreSome : Tallies → Type 0
AreSome counted = AllByRecursion (λ (t : List ℕ × ℕ). (0 < length t.0) × (0 < t.1)) counted

-- a number of keys more are counted, and how many of them have each descriptor; no count has to go past 32 bits
abbrev pub Counts : Tallies → Tallies → ℕ → (List ℕ → ℕ) → Type 0
Counts old new keys more = (most : ℕ) → AreWithin most old → most + keys < 2 ^ 32 → AreWithin (most + keys) new × ((descriptor : List ℕ) → 0 < length descriptor → tally descriptor new ≡ tally descriptor old + more descriptor)

-- the offset that a cell is to have in an image of one bin: after the header and the cells before it
abbrev pub planned_offset : List SecurityEntry → ℕ → ℕ
planned_offset securities i = 32 + securities_cost (take i securities)

-- the index ahead of one in a ring of a number of elements
abbrev pub ahead : ℕ → ℕ → ℕ
ahead count i = if i == 0 then count - 1 else i - 1

-- a cell is where it is to be, with links to the offsets after and before it
pub record IsPlanned (securities : List SecurityEntry) (i : ℕ) (security : SecurityEntry) : Type 0 where
  pub at : security.at ≡ planned_offset securities i
  pub next : security.next ≡ planned_offset securities (behind (length securities) i)
  pub previous : security.previous ≡ planned_offset securities (ahead (length securities) i)

abbrev pub ArePlanned : List SecurityEntry → List SecurityEntry → ℕ → Type 0
ArePlanned planned securities count = (i : ℕ) (s : SecurityEntry) → i < count → slice_get securities i ≡ Some s → IsPlanned planned i s

-- the first of the cells are planned: if the room was right after the header, it is now after them, and what is before
-- the next one is known
pub record Laid (planned now : List SecurityEntry) (bytes : List ℕ) (count previous more : ℕ) : Type 0 where
  pub room : (rest : ℕ) → securities_cost planned ≡ securities_cost (take count planned) + rest → HasFreeRoomAt bytes (planned_offset planned count) (rest + more)
  pub are : ArePlanned planned now count
  pub previous_is : count < length planned → previous ≡ planned_offset planned (ahead (length planned) count)
