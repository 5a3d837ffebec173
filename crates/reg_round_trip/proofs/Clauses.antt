-- The laws of whole exports and of exports of parts.
use Rattle.std.proofs.Common.{◌≡◌, ℕ, List, [], ◌∷◌, Option, Some, None, IsSome, refl}
use Rattle.std.specs.List.{AllZip}
use Rattle.std.proofs.lemmas.Option.{slice_get_within}
use Rattle.reg_tree.specs.Maps.{TreeMap}
use Rattle.reg_tree.specs.Fresh.{fresh_tree}
use Rattle.store_model.specs.Machine.{Machine, named_trees}
use Rattle.key_walk.specs.KeyRows.{NamedRow}
use Rattle.key_walk.specs.SubtreeRows.{rows_below}
use Rattle.reg_prefixes.specs.declared.prefix.Prefix.{Prefix}
use Rattle.reg_prefixes.specs.Places.{shown_in}
use Rattle.reg_export.specs.declared.encoding.Encoding.{Encoding}
use Rattle.reg_export.specs.RegFiles.{reg_text}
use Rattle.reg_file.specs.Files.{reg_file_of}
use Rattle.store_export.specs.Exports.{text_or_none}
use Rattle.reg_apply.specs.declared.outcome.ApplyOutcome.{ApplyOutcome}
use Rattle.reg_apply.specs.Applied.{EndsApplication}
use Rattle.reg_round_trip.specs.Statements.{export_statements}
use Rattle.reg_round_trip.specs.Contents.{SameContent}
use Rattle.reg_round_trip.specs.Operations.{trees_ops}
use Rattle.reg_round_trip.specs.Parts.{part_ops}
use Rattle.reg_round_trip.specs.Shown.{exported, exported_part}
use Rattle.reg_round_trip.specs.Restores.{FileRestores, EndsGood, HasPartIn}
use Rattle.reg_round_trip.specs.Conditions.{CanRestore, CanRestorePart}
use Rattle.reg_round_trip.proofs.Units.{none_some}
use Rattle.reg_round_trip.proofs.Reading.{ReadsText}
use Rattle.reg_round_trip.proofs.ShownHives.{are_shown}
use Rattle.reg_round_trip.proofs.OnePlan.{export_adds}
use Rattle.reg_round_trip.proofs.Restored.{bytes_add, shown_read, made_same, export_restores}
use Rattle.reg_round_trip.proofs.PartRestored.{part_read, part_made, part_restores}
use Rattle.reg_round_trip.proofs.Ended.{ended_so}

module _ (r : ReadsText) (encoding : Encoding) (prefixes : List Prefix) (trees : List TreeMap) (moment : ℕ) (old : Machine) (can : CanRestore prefixes trees old) where
  pub whole_restores : FileRestores prefixes moment (reg_text encoding (exported prefixes trees)) old (trees_ops 0 trees) (AllZip SameContent trees)
  whole_restores =
      let are = can.prefixes_are in
      export_restores r encoding prefixes trees (exported prefixes trees) moment old are.showable are.apart (are_shown prefixes trees can.have) can.calls can.short can.is_new

  pub whole_ended : (unit : Option (List ℕ)) (new : Machine) (outcome : ApplyOutcome) → EndsApplication prefixes moment unit (reg_file_of (reg_text encoding (exported prefixes trees))) old outcome new → EndsGood (AllZip SameContent trees) outcome new
  whole_ended unit new outcome ends =
      let are = can.prefixes_are in
      let shown = exported prefixes trees in
      let read = shown_read r encoding prefixes trees shown are.showable (are_shown prefixes trees can.have) can.calls in
      ended_so prefixes moment (reg_text encoding shown) (trees_ops 0 trees) (AllZip SameContent trees) old new whole_restores (bytes_add (reg_text encoding shown) (export_statements shown) read (export_adds shown)) (made_same trees moment old can.calls can.is_new) unit outcome ends

-- the prefix of a hive
prefix_of_some : (o : Option (List ℕ)) → IsSome o → o ≡ Some (text_or_none o)
prefix_of_some None some = absurd (none_some {A = List ℕ} None refl some)
prefix_of_some (Some prefix) some = refl

module _ (r : ReadsText) (encoding : Encoding) (prefixes : List Prefix) (hive : ℕ) (tree : TreeMap) (top : List (List ℕ)) (moment : ℕ) (old : Machine) (can : CanRestorePart prefixes hive tree top old) where
  abbrev prefix : List ℕ
  prefix = text_or_none (shown_in prefixes hive)

  shown_is : shown_in prefixes hive ≡ Some (text_or_none (shown_in prefixes hive))
  shown_is = prefix_of_some (shown_in prefixes hive) can.has

  pub part_does : FileRestores prefixes moment (reg_text encoding (exported_part prefixes hive tree top)) old (part_ops hive tree top) (HasPartIn tree top hive (named_trees old))
  part_does =
      let are = can.prefixes_are in
      part_restores r encoding prefixes hive tree top prefix moment old are.showable are.apart shown_is can.call can.there can.near can.short can.are_trees can.is_new (slice_get_within (named_trees old) hive fresh_tree can.is_new)

  pub part_ended : (unit : Option (List ℕ)) (new : Machine) (outcome : ApplyOutcome) → EndsApplication prefixes moment unit (reg_file_of (reg_text encoding (exported_part prefixes hive tree top))) old outcome new → EndsGood (HasPartIn tree top hive (named_trees old)) outcome new
  part_ended unit new outcome ends =
      let are = can.prefixes_are in
      let shown : List (List ℕ × List NamedRow) = (prefix, rows_below tree top) ∷ [] in
      let read = part_read r encoding prefixes hive tree top prefix moment old are.showable are.apart shown_is can.call can.there can.near can.short can.are_trees can.is_new in
      let made = part_made r encoding prefixes hive tree top prefix moment old are.showable are.apart shown_is can.call can.there can.near can.short can.are_trees can.is_new in
      ended_so prefixes moment (reg_text encoding shown) (part_ops hive tree top) (HasPartIn tree top hive (named_trees old)) old new part_does (bytes_add (reg_text encoding shown) (export_statements shown) read (export_adds shown)) made unit outcome ends
