-- The encoding of a store's journal: its header, and its elements as the crash model sees them.
use Rattle.std.specs.Prelude.{◌≡◌, ◌≤◌, ℕ, ◌+◌, List, [], ◌∷◌, length, ◌++◌, replicate, codes, sum_by, Option, None, option_map}
use Rattle.byteorder.specs.Endian.{little_bytes}
use Rattle.refusals.specs.declared.limits.TheConstants.{GREATEST_NUMBER, MOST_HIVES}
use Rattle.reg_tree.specs.Encodings.{op_encoded_len}
use Rattle.crash_model.specs.Changes as law
use Rattle.change_codec.specs.Encoding.{element_at}
use Rattle.change_codec.specs.ModelChanges.{TimedOp, timed_element}
use Rattle.commit_journal.specs.Encoding.{Encodings, decoded}
use Rattle.commit_journal.specs.declared.store_layout.Layout.{Layout}
use Rattle.commit_journal.specs.declared.store_layout.Layout.TheVariants.{HivesAlone, WithOutcomes}

-- the content of a store's header: the 16 bytes of its id, the number of hives that calls name, and its layout
pub record Store : Type 0 where
  pub id : List ℕ
  pub hives : ℕ
  pub layout : Layout

-- a store has an id of 16 bytes, and calls name 1 to 16 hives
pub record IsStore (store : Store) : Type 0 where
  pub id_is_whole : length store.id ≡ 16
  pub some_hives : 1 ≤ store.hives
  pub few_hives : store.hives ≤ MOST_HIVES

-- how many hives a store of a layout has, if calls name so many: in the layout with outcomes there is one more
abbrev pub hives_in : Layout → ℕ → ℕ
hives_in HivesAlone hives = hives
hives_in WithOutcomes hives = hives + 1

-- how many hives a store has: those that calls name, and in the layout with outcomes one more
abbrev pub all_hives : Store → ℕ
all_hives store = hives_in store.layout store.hives

-- the bytes that the header of each layout begins with
abbrev pub magic : Layout → List ℕ
magic HivesAlone = codes "KTMJRNL1"
magic WithOutcomes = codes "KTMJRNL2"

-- the header: the bytes of its layout, the id, the number of hives that calls name in four bytes, and zeros up to 64
-- bytes
abbrev pub header_bytes : Store → List ℕ
header_bytes store = magic store.layout ++ (store.id ++ (little_bytes 4 store.hives ++ replicate 36 0))

-- the bytes of a store's journal as it is made: its header, and a gate that isn't open
abbrev pub created_bytes : Store → List ℕ
created_bytes store = header_bytes store ++ 0 ∷ []

-- the change on one of the `hives` hives that bytes begin with, as the crash model sees it, and the bytes after it
abbrev pub timed_at : ℕ → List ℕ → Option (law.Element TimedOp × List ℕ)
timed_at hives bytes = option_map (λ got. (timed_element got.0, got.1)) (element_at hives bytes)

-- the encodings of a journal that begins with this header, and whose changes are on so many hives
abbrev pub encodings_after : List ℕ → ℕ → Encodings TimedOp
encodings_after header hives = record { header = header; read = timed_at hives; most = GREATEST_NUMBER }

-- the encodings of a store's journal: elements may have operations on all of its hives
abbrev pub encodings : Store → Encodings TimedOp
encodings store = encodings_after (header_bytes store) (all_hives store)

-- the length of a change's encoding in a journal
abbrev pub timed_len : law.Element TimedOp → ℕ
timed_len e = 16 + sum_by (λ o. op_encoded_len o.1.1) e

-- the room of changes in a journal: 17 and its length for each
abbrev pub room_of : List (law.Element TimedOp) → ℕ
room_of es = sum_by (λ e. 17 + timed_len e) es

-- the bytes are no store's journal, of whatever layout
abbrev pub IsNoJournal : List ℕ → Type 0
IsNoJournal bytes = (store : Store) → IsStore store → decoded (encodings store) bytes ≡ None
