-- Commits, and which of them are kept.
use Rattle.std.specs.Prelude.{◌≡◌, ℕ, ◌-◌, ◌<◌, ◌≤◌, not, Bool, true, if◌then◌else◌, List, [], ◌∷◌, map, length, drop}
use Rattle.std.specs.List.{AllByRecursion, filter, list_any}
use Rattle.std.specs.List.Sorted.{IsStrictlySortedBy}
use Rattle.std.specs.Ordering.{nat_cmp, eq_by_cmp}
use Rattle.reg_names.specs.Names.{name_cmp}
use Rattle.commit_outcomes.specs.Units.{is_unit_name}
use Rattle.commit_outcomes.specs.declared.commit_list.TheConstants.{MOST_COMMITS}

-- a commit: its number, and the name of its unit of work
abbrev pub Commit : Type 0
Commit = ℕ × List ℕ

-- whether a commit is of the unit of this name
abbrev pub is_of : List ℕ → Commit → Bool
is_of name commit = eq_by_cmp name_cmp name commit.1

-- the commits of other units
abbrev pub without : List ℕ → List Commit → List Commit
without name commits = filter (λ c. not (is_of name c)) commits

-- of commits in the order of their numbers the last one of each unit
abbrev pub latest : List Commit → List Commit
latest [] = []
latest (commit ∷ commits) = if list_any (is_of commit.1) commits then latest commits else commit ∷ latest commits

-- the last `count` of commits, or all of them
abbrev pub last_of : ℕ → List Commit → List Commit
last_of count commits = drop (length commits - count) commits

-- of commits in the order of their numbers those that are kept: of each unit the last one, and of these the last 4,096
abbrev pub kept : List Commit → List Commit
kept commits = last_of MOST_COMMITS (latest commits)

-- Commits may stand in a tree: their numbers rise and are above 0, each names a unit of work and no two name the same,
-- and there are at most 4,096.
pub record AreKept (commits : List Commit) : Type 0 where
  pub rise : IsStrictlySortedBy nat_cmp (map (λ c. c.0) commits)
  pub above : AllByRecursion (λ c. 0 < c.0) commits
  pub units : AllByRecursion (λ c. is_unit_name c.1 ≡ true) commits
  pub apart : latest commits ≡ commits
  pub few : length commits ≤ MOST_COMMITS

-- no commit has a number above this
abbrev pub AreUpTo : ℕ → List Commit → Type 0
AreUpTo number commits = AllByRecursion (λ c. c.0 ≤ number) commits
