-- What a registration file makes of a store.
use Rattle.std.specs.Prelude.{◌≡◌, ◌≢◌, ℕ, List, Some, None, slice_get, ⊤}
use Rattle.refusals.specs.declared.refusal.Refusal.TheVariants.{NoMemory}
use Rattle.reg_tree.specs.Maps.{TreeMap}
use Rattle.reg_tree.specs.declared.op.Op.{Op}
use Rattle.store_model.specs.Machine.{Machine, named_trees}
use Rattle.reg_prefixes.specs.declared.prefix.Prefix.{Prefix}
use Rattle.reg_file.specs.Files.{reg_file_of}
use Rattle.change_plan.specs.Plans.{Planned}
use Rattle.reg_apply.specs.declared.outcome.ApplyOutcome.{ApplyOutcome}
use Rattle.reg_apply.specs.declared.outcome.ApplyOutcome.TheVariants.{Applied, BadFile, NoHive, Denied, Refused}
use Rattle.reg_apply.specs.Applied.{TakesAll}
use Rattle.reg_round_trip.specs.Parts.{HasPart}

-- Bytes are read without a fault. A plan on the trees of a store takes all of their statements, by these operations, and
-- the trees are good then. It is the only plan that does.
pub record FileRestores (prefixes : List Prefix) (moment : ℕ) (bytes : List ℕ) (old : Machine) (ops : List Op) (AreGood : List TreeMap → Type 0) : Type 0 where
  pub no_fault : let file = reg_file_of bytes in file.fault ≡ None
  pub plan : Planned
  pub takes : TakesAll prefixes moment (reg_file_of bytes) old plan
  pub by_ops : plan.ops ≡ ops
  pub good : AreGood plan.view
  pub only : (other : Planned) → TakesAll prefixes moment (reg_file_of bytes) old other → other ≡ plan

-- How applying ends: if the file was applied, the trees of the hives that calls name are good. No line is refused but for
-- want of memory. What else may fail is the commit.
abbrev pub EndsGood : (List TreeMap → Type 0) → ApplyOutcome → Machine → Type 0
EndsGood AreGood (Applied number) new = AreGood (named_trees new)
EndsGood AreGood (BadFile fault) new = ⊥
EndsGood AreGood (NoHive line) new = ⊥
EndsGood AreGood (Denied line why) new = why ≡ NoMemory
EndsGood AreGood (Refused why) new = ⊤

-- a hive has the content of a part of a tree, and the others stayed
abbrev pub HasPartIn : TreeMap → List (List ℕ) → ℕ → List TreeMap → List TreeMap → Type 0
HasPartIn tree top hive before after =
    (new : TreeMap) × (slice_get after hive ≡ Some new) × HasPart tree top new × ((other : ℕ) → other ≢ hive → slice_get after other ≡ slice_get before other)
