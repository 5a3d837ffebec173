-- Commits as a store has them in memory.
use Rattle.std.specs.Prelude.{ℕ, ◌-◌, ◌==◌, ◌&&◌, nat_le, Bool, not, List, [], ◌∷◌, map, drop, if◌then◌else◌, length, Option, Some, None, is_none, slice_get}
use Rattle.std.specs.List.{filter, list_all}
use Rattle.std.specs.FinMap as finite
use Rattle.std.specs.List.Sorted.{IsStrictlySortedBy}
use Rattle.std.specs.Ordering.{nat_cmp}
use Rattle.reg_tree_parts.specs.Rows.{ValueMap}
use Rattle.byteorder.specs.Endian.{little_number}
use Rattle.commit_outcomes.specs.Units.{unit_name}
use Rattle.commit_outcomes.specs.Commits.{Commit}
use Rattle.commit_outcomes.specs.Trees.{is_commit_value}
use Rattle.commit_outcomes.specs.declared.kept_commit.KeptCommit.{KeptCommit}
use Rattle.commit_outcomes.specs.declared.commit_list.TheConstants.{MOST_COMMITS}

-- a commit by the name of its unit
abbrev pub named_commit : KeptCommit → Commit
named_commit commit = (commit.number, unit_name commit.unit)

abbrev pub named_commits : List KeptCommit → List Commit
named_commits commits = map named_commit commits

-- the numbers of commits rise
abbrev pub NumbersRise : List KeptCommit → Type 0
NumbersRise commits = IsStrictlySortedBy nat_cmp (map (λ (c : KeptCommit). c.number) commits)

-- the number in data that are eight bytes, the lowest first
abbrev pub number_of_data : List ℕ → Option ℕ
number_of_data bytes = if length bytes == 8 then Some (little_number 8 bytes) else None

-- the number of the last commit, or 0
abbrev pub last_number : List Commit → ℕ
last_number [] = 0
last_number (c ∷ []) = c.0
last_number (c ∷ d ∷ commits) = last_number (d ∷ commits)

-- the commits without that of a number, if one is given
abbrev pub others_of : Option ℕ → List KeptCommit → List KeptCommit
others_of None commits = commits
others_of (Some n) commits = filter (λ (c : KeptCommit). not (c.number == n)) commits

-- the last `count` of commits, or all of them
abbrev pub last_commits : ℕ → List KeptCommit → List KeptCommit
last_commits count commits = drop (length commits - count) commits

-- whether values are not too many, and each is that of a commit with a number from 1 to this
abbrev pub tell_commits : ℕ → ValueMap → Bool
tell_commits most values = nat_le (finite.len values) MOST_COMMITS && list_all (is_commit_value most) (finite.values values)

-- the commit that is one too many if one more is recorded, whose unit has an earlier one of this number or none
abbrev pub first_out : List Commit → Option ℕ → Option Commit
first_out commits earlier = if is_none earlier && (length commits == MOST_COMMITS) then slice_get commits 0 else None
