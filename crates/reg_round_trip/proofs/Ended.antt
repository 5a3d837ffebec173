-- How applying an export to new hives ends.
use Rattle.std.proofs.Common.{◌≡◌, ℕ, List, length, Option, Some, None, sym, ◌∙◌, ap, subst, inl, inr}
use Rattle.refusals.specs.declared.refusal.Refusal.TheVariants.{NoMemory}
use Rattle.reg_tree.specs.Maps.{TreeMap}
use Rattle.reg_tree.specs.Judgement.{applied}
use Rattle.reg_tree.specs.declared.op.Op.{Op}
use Rattle.store_model.specs.Machine.{Machine, named_trees}
use Rattle.reg_prefixes.specs.declared.prefix.Prefix.{Prefix}
use Rattle.reg_file.specs.Files.{reg_file_of}
use Rattle.reg_file.specs.declared.fault.Fault.{Fault}
use Rattle.change_plan.specs.Plans.{Planned}
use Rattle.store_change.proofs.NamedTrees.{named_after}
use Rattle.reg_apply.specs.declared.outcome.ApplyOutcome.{ApplyOutcome}
use Rattle.reg_apply.specs.declared.outcome.ApplyOutcome.TheVariants.{Applied, BadFile, NoHive, Denied, Refused}
use Rattle.reg_apply.specs.Applied.{first_plan, StopsIn, EndsApplication}
use Rattle.reg_round_trip.specs.Restores.{FileRestores, EndsGood}
use Rattle.reg_round_trip.proofs.Places.{Denial, refused, no_key, no_hive, key_apart, hive_apart, same_refusal}
use Rattle.reg_round_trip.proofs.OnePlan.{AllAdd, stops_for_memory}
use Rattle.reg_round_trip.proofs.Restored.{statements_of}

no_fault_some : (fault : Fault) → None ≡ Some fault → ⊥
no_fault_some fault e = cc

module _ (prefixes : List Prefix) (moment : ℕ) (bytes : List ℕ) (ops : List Op) (AreGood : List TreeMap → Type 0) (old new : Machine) (restores : FileRestores prefixes moment bytes old ops AreGood) (adds : AllAdd (statements_of bytes)) (good : AreGood (applied (named_trees old) ops moment)) where
  memory_alone : (line : ℕ) (denial : Denial) → StopsIn prefixes moment (reg_file_of bytes) old line denial → denial ≡ refused NoMemory
  memory_alone line denial stops = stops_for_memory prefixes (length (named_trees old)) (first_plan old moment) (statements_of bytes) restores.takes.0 restores.plan line denial adds restores.takes.1 stops

  pub ended_so : (unit : Option (List ℕ)) (outcome : ApplyOutcome) → EndsApplication prefixes moment unit (reg_file_of bytes) old outcome new → EndsGood AreGood outcome new
  ended_so unit (Applied number) ends =
      let plan = ends.0 in
      let commits = ends.5 in
      let same = restores.only plan ends.2 in
      let its_ops : plan.ops ≡ ops = ap (λ (p : Planned). p.ops) same ∙ restores.by_ops in
      subst AreGood (sym (named_after old new ends.3 moment plan.ops commits.accepts ∙ ap (λ os. applied (named_trees old) os moment) its_ops)) good
  ended_so unit (BadFile fault) ends = elim ends.1 [
    | inl bad ↦ absurd (no_fault_some fault (sym restores.no_fault ∙ bad.1))
    | inr stops ↦ absurd (key_apart NoMemory (memory_alone fault.line no_key stops.1))
  ]
  ended_so unit (NoHive line) ends = absurd (hive_apart NoMemory (memory_alone line no_hive ends.1))
  ended_so unit (Denied line why) ends = same_refusal why NoMemory (memory_alone line (refused why) ends.1)
  ended_so unit (Refused why) ends = tt
