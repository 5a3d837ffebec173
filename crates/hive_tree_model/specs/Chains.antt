-- The same without the keys as a whole: which path a chain of listed keys has, and where ways from the root lead.
use Rattle.std.specs.Prelude.{◌≡◌, ℕ, List, [], ◌∷◌, Ok, Some, slice_get}
use Rattle.hive_tree_model.specs.Lists.{IsIn}
use Rattle.hive_tree_model.specs.Keys.{KeyParts, KeyReader}

-- a chain of listed keys has the names of the path from the key at an offset on, and the row is the row of the last one
abbrev pub PathReachesRow : {R C : Type 0} → KeyReader R C → ℕ → List (List ℕ) → R → Type 0
PathReachesRow {R} reads at [] row = (parts : KeyParts R) × (reads at ≡ Ok parts) × (parts.row ≡ row)
PathReachesRow {R} reads at (n ∷ path) row = (parts : KeyParts R) × (subkey : ℕ) × (its : KeyParts R) × (reads at ≡ Ok parts) × IsIn subkey parts.subkey_list × (reads subkey ≡ Ok its) × (its.name ≡ n) × PathReachesRow reads subkey path row

-- a way, which is the indexes of subkeys in the lists of one key after another, leads from one offset's key to
-- another's. Each key on the way is read; the last one need not be.
abbrev pub WayLeadsTo : {R C : Type 0} → KeyReader R C → ℕ → List ℕ → ℕ → Type 0
WayLeadsTo reads at [] to = at ≡ to
WayLeadsTo {R} reads at (i ∷ way) to = (parts : KeyParts R) × (subkey : ℕ) × (reads at ≡ Ok parts) × (slice_get parts.subkey_list i ≡ Some subkey) × WayLeadsTo reads subkey way to
