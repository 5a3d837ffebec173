-- The faults of an image that encodes no tree. Each fault names the keys in question by the ways to them.
use Rattle.std.specs.Prelude.{◌≡◌, ◌≢◌, ◌<◌, ℕ, List, [], ◌∷◌, length, Ok, Err, Some, slice_get}
use Rattle.hive_tree_model.specs.Lists.{IsIn, Once}
use Rattle.hive_tree_model.specs.Keys.{KeyParts, KeyReader}
use Rattle.hive_tree_model.specs.Chains.{WayLeadsTo}

-- the key at the end of a way has a cause for which its own cells say nothing
abbrev pub KeyIsUnreadable : {R C : Type 0} → KeyReader R C → ℕ → C → Type 0
KeyIsUnreadable reads root cause = (way : List ℕ) × (at : ℕ) × WayLeadsTo reads root way at × (reads at ≡ Err cause)

-- a key other than the root has the empty name
abbrev pub HasNamelessKey : {R C : Type 0} → KeyReader R C → ℕ → Type 0
HasNamelessKey {R} reads root = (i : ℕ) × (way : List ℕ) × (at : ℕ) × (parts : KeyParts R) × WayLeadsTo reads root (i ∷ way) at × (reads at ≡ Ok parts) × (parts.name ≡ [])

-- two subkeys of a key have the same folded name
pub record HasSubkeysAlike {R C : Type 0} (reads : KeyReader R C) (root : ℕ) : Type 0 where
  pub way : List ℕ
  pub at : ℕ
  pub leads : WayLeadsTo reads root way at
  pub parts : KeyParts R
  pub reads_so : reads at ≡ Ok parts
  pub i : ℕ
  pub j : ℕ
  pub apart : i ≢ j
  pub one : ℕ
  pub one_listed : slice_get parts.subkey_list i ≡ Some one
  pub one_parts : KeyParts R
  pub one_reads : reads one ≡ Ok one_parts
  pub other : ℕ
  pub other_listed : slice_get parts.subkey_list j ≡ Some other
  pub other_parts : KeyParts R
  pub other_reads : reads other ≡ Ok other_parts
  pub same_name : one_parts.name ≡ other_parts.name

-- the cells of its own that are looked at while a key is read, in turn, as far as the reading goes: those that belong
-- to it if it is read
abbrev pub IsTrail : {R C : Type 0} → (ℕ → List ℕ) → KeyReader R C → Type 0
IsTrail {R} trail reads = (at : ℕ) (parts : KeyParts R) → reads at ≡ Ok parts → trail at ≡ parts.own

-- a cell is looked at twice while one key is read
abbrev pub KeyRepeatsCell : {R C : Type 0} → (ℕ → List ℕ) → KeyReader R C → ℕ → Type 0
KeyRepeatsCell trail reads root = (way : List ℕ) × (at : ℕ) × WayLeadsTo reads root way at × (Once (trail at) → ⊥)

-- two ways lead to keys with a cell of their own in common; they may be one key, which is so reached twice
pub record Shared {R C : Type 0} (trail : ℕ → List ℕ) (reads : KeyReader R C) (root : ℕ) : Type 0 where
  pub way : List ℕ
  pub at : ℕ
  pub leads : WayLeadsTo reads root way at
  pub other_way : List ℕ
  pub other : ℕ
  pub other_leads : WayLeadsTo reads root other_way other
  pub apart : way ≢ other_way
  pub cell : ℕ
  pub first : IsIn cell (trail at)
  pub second : IsIn cell (trail other)

-- the cells that are lent to a key if it is read
abbrev pub IsLentTrail : {R C : Type 0} → (ℕ → List ℕ) → KeyReader R C → Type 0
IsLentTrail {R} lends reads = (at : ℕ) (parts : KeyParts R) → reads at ≡ Ok parts → lends at ≡ parts.lent

-- a cell that belongs to one key alone is lent to that key or another
pub record LendsOwnCell {R C : Type 0} (trail lends : ℕ → List ℕ) (reads : KeyReader R C) (root : ℕ) : Type 0 where
  pub way : List ℕ
  pub at : ℕ
  pub leads : WayLeadsTo reads root way at
  pub other_way : List ℕ
  pub other : ℕ
  pub other_leads : WayLeadsTo reads root other_way other
  pub cell : ℕ
  pub belongs : IsIn cell (trail at)
  pub lent : IsIn cell (lends other)

-- a key lies deeper than a number of levels
abbrev pub HasDeeperKey : {R C : Type 0} → KeyReader R C → ℕ → ℕ → Type 0
HasDeeperKey {R} reads root most = (way : List ℕ) × (at : ℕ) × (parts : KeyParts R) × WayLeadsTo reads root way at × (reads at ≡ Ok parts) × (most < length way)
