-- What a crash leaves of all files, at one moment or at some moment since another. Files are left independently, but at
-- one moment.
use Rattle.std.specs.Prelude.{ℕ, ◌≤◌, List}
use Rattle.disk_model.specs.FileState.{FileState, Leaves}
use Rattle.disk_model.specs.Sector.{IsHonest}

-- a crash at this moment may leave these files, by their numbers
abbrev pub LeavesAll : (ℕ → FileState) → (ℕ → List ℕ) → Type 0
LeavesAll state files = (f : ℕ) → Leaves (state f) (files f)

-- the same, with an honest first sector in each file that is to have one
abbrev pub LeavesHonest : (ℕ → Type 0) → (ℕ → FileState) → (ℕ → List ℕ) → Type 0
LeavesHonest has_sector state files = LeavesAll state files × ((f : ℕ) → has_sector f → IsHonest (state f) (files f))

-- What a read gives has an honest first sector, in each file that is to have one. A write that failed may have left any
-- part of what it wrote there. A life that ends in a fault goes on from it without a crash. So this is its premise,
-- just as an honest first sector of what a crash leaves is the premise of a crash.
abbrev pub ShowsHonest : (ℕ → Type 0) → (ℕ → FileState) → Type 0
ShowsHonest has_sector state = (f : ℕ) → has_sector f → IsHonest (state f) (state f).seen

-- at some moment from `since` to `clock` these files might have been left so
abbrev pub AtSome : ((ℕ → FileState) → (ℕ → List ℕ) → Type 0) → (ℕ → ℕ → FileState) → ℕ → ℕ → (ℕ → List ℕ) → Type 0
AtSome left states clock since files = (k : ℕ) × (since ≤ k) × (k ≤ clock) × left (states k) files

-- a crash at some moment from `since` on might have left these files, with honest first sectors
abbrev pub HonestSince : (ℕ → Type 0) → (ℕ → ℕ → FileState) → ℕ → ℕ → (ℕ → List ℕ) → Type 0
HonestSince has_sector = AtSome (LeavesHonest has_sector)

-- whatever might have been left so has P
abbrev pub AlwaysLeaves : ((ℕ → FileState) → (ℕ → List ℕ) → Type 0) → (ℕ → ℕ → FileState) → ℕ → ℕ → ((ℕ → List ℕ) → Type 0) → Type 0
AlwaysLeaves left states clock since P = (files : ℕ → List ℕ) → AtSome left states clock since files → P files

-- whatever a crash since then might have left has P
abbrev pub LeavesOnly : (ℕ → ℕ → FileState) → ℕ → ℕ → ((ℕ → List ℕ) → Type 0) → Type 0
LeavesOnly = AlwaysLeaves LeavesAll
