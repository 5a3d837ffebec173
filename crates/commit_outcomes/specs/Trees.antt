-- What the tree of outcomes has: for each commit that is kept a value of its root.
use Rattle.std.specs.Prelude.{◌≡◌, ℕ, ◌==◌, ◌&&◌, nat_le, nat_lt, not, is_some, Bool, true, List, [], ◌∷◌, map, length, Option, Some, None}
use Rattle.std.specs.List.{list_all}
use Rattle.std.specs.Option.{option_map}
use Rattle.std.specs.FinMap as finite
use Rattle.byteorder.specs.Endian.{little_bytes, little_number}
use Rattle.reg_names.specs.Names.{folded}
use Rattle.reg_tree_parts.specs.Rows.{Row, ValueMap}
use Rattle.reg_tree_parts.specs.declared.value.Value.{Value}
use Rattle.reg_tree.specs.Maps.{TreeMap, row}
use Rattle.commit_outcomes.specs.Units.{is_unit_name, unit_name}
use Rattle.commit_outcomes.specs.Commits.{Commit, AreKept}
use Rattle.commit_outcomes.specs.declared.commit_list.TheConstants.{COMMIT_KIND, MOST_COMMITS}

-- the value of a commit: its name is the unit's, its type 11, its data the number in eight bytes, the lowest first
abbrev pub commit_value : Commit → Value
commit_value commit = record { name = commit.1; kind = COMMIT_KIND; «data» = little_bytes 8 commit.0 }

-- the values of commits, by their folded names
abbrev pub values_of : List Commit → ValueMap
values_of commits = finite.from_entries (map (λ c. (folded c.1, commit_value c)) commits)

-- the values of a key, if it is there
abbrev pub values_if : Option Row → ValueMap
values_if None = finite.empty
values_if (Some key) = key.values

abbrev pub root_values : TreeMap → ValueMap
root_values tree = values_if (row tree [])

-- A tree has these commits, and nothing else: it has a root alone, with the commits' values; and they may stand in a tree.
pub record HasCommits (commits : List Commit) (tree : TreeMap) : Type 0 where
  pub alone : finite.keys tree ≡ [] ∷ []
  pub values : root_values tree ≡ values_of commits
  pub are : AreKept commits

-- the commit that a value tells of
abbrev pub commit_of : Value → Commit
commit_of value = (little_number 8 value.«data», value.name)

-- whether a value is that of a commit with a number from 1 to this, whose data are eight bytes
abbrev pub is_commit_value : ℕ → Value → Bool
is_commit_value number value =
    is_unit_name value.name && ((value.kind == COMMIT_KIND) && ((length value.«data» == 8) && (list_all (λ b. nat_lt b 256) value.«data»
    && (nat_le 1 (commit_of value).0 && nat_le (commit_of value).0 number))))

-- whether none of some numbers stands twice
abbrev pub are_distinct : List ℕ → Bool
are_distinct [] = true
are_distinct (n ∷ ns) = list_all (λ m. not (n == m)) ns && are_distinct ns

-- Whether a tree is one of outcomes up to a number: it has a root alone, with at most 4,096 values, each of which is
-- that of a commit with a number from 1 to this, and no two have the same number.
abbrev pub are_outcomes : ℕ → TreeMap → Bool
are_outcomes number tree =
    (finite.len tree == 1) && (is_some (row tree []) && (nat_le (finite.len (root_values tree)) MOST_COMMITS
    && (list_all (is_commit_value number) (finite.values (root_values tree)) && are_distinct (map (λ v. (commit_of v).0) (finite.values (root_values tree))))))

-- the number of the commit of a unit of work that a tree has, if there is one
abbrev pub number_in : TreeMap → List ℕ → Option ℕ
number_in tree id = option_map (λ v. (commit_of v).0) (finite.get (root_values tree) (folded (unit_name id)))
