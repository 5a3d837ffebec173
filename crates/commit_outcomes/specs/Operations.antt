-- What a commit does to the tree of outcomes.
use Rattle.std.specs.Prelude.{ℕ, nat_le, nat_lt, if◌then◌else◌, List, [], ◌∷◌, map}
use Rattle.std.specs.List.{filter, list_all}
use Rattle.std.specs.FinMap as finite
use Rattle.byteorder.specs.Endian.{little_bytes}
use Rattle.reg_tree_parts.specs.Rows.{ValueMap}
use Rattle.reg_tree_parts.specs.ValueEdits.{values_with}
use Rattle.reg_tree_parts.specs.declared.value.Value.{Value}
use Rattle.reg_tree.specs.Maps.{TreeMap}
use Rattle.reg_tree.specs.declared.op.Op.{Op}
use Rattle.reg_tree.specs.declared.op.Op.TheVariants.{SetValue, DeleteValue}
use Rattle.commit_outcomes.specs.Commits.{Commit}
use Rattle.commit_outcomes.specs.Trees.{commit_of, root_values}
use Rattle.commit_outcomes.specs.declared.commit_list.TheConstants.{COMMIT_KIND, MOST_COMMITS}

-- the commit is written: a value of the root of this hive
abbrev pub record_op : ℕ → Commit → Op
record_op hive commit = SetValue hive [] commit.1 COMMIT_KIND (little_bytes 8 commit.0)

-- the value of a unit's commit is deleted
abbrev pub forget_op : ℕ → List ℕ → Op
forget_op hive name = DeleteValue hive [] name

-- the values with a commit written
abbrev pub values_recorded : ValueMap → Commit → ValueMap
values_recorded values commit = values_with values commit.1 COMMIT_KIND (little_bytes 8 commit.0)

-- the values whose number is the least
abbrev pub oldest : List Value → List Value
oldest values = filter (λ v. list_all (λ w. nat_le (commit_of v).0 (commit_of w).0) values) values

-- the values that are one too many: of 4,097 or more the one with the least number, else none
abbrev pub surplus : ValueMap → List Value
surplus values = if nat_lt MOST_COMMITS (finite.len values) then oldest (finite.values values) else []

-- What a commit does to the tree of outcomes, which is that of this hive: it writes its value, and if there are 4,097
-- then, deletes the one with the least number.
abbrev pub outcome_ops : ℕ → TreeMap → Commit → List Op
outcome_ops hive tree commit =
    record_op hive commit ∷ map (λ (v : Value). forget_op hive v.name) (surplus (values_recorded (root_values tree) commit))
