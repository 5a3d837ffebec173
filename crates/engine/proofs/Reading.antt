-- What a read gives of the files, as long as the device hasn't failed, or if no flush is under way.
use Rattle.std.proofs.Common.{◌≡◌, ◌⊎◌, inl, inr, ℕ, List, length, take, sym, ap, None, Some, slice_get}
use Rattle.std.proofs.lemmas.Option.{none-some}
use Rattle.reg_tree.specs.Maps.{TreeMap}
use Rattle.disk_model.specs.FileState.{FileState, IsSound, at_rest}
use Rattle.disk_model.specs.Sector.{IsHonest}
use Rattle.disk_model.specs.Crash.{LeavesHonest}
use Rattle.disk_model.specs.StoreFiles.{primary_file, log_file}
use Rattle.hive_flush_model.specs.StoredTrees.{TreeDecoder}
use Rattle.hive_flush_model.specs.Phases.{FlushState}
use Rattle.hive_flush_model.specs.States.{files_match_phase}
use Rattle.hive_writer.specs.declared.stage.Purpose.TheVariants as purpose
use Rattle.hive_writer.specs.declared.stage.FlushStage.{FlushStage}
use Rattle.hive_writer.specs.declared.stage.FlushStage.TheVariants as stage
use Rattle.hive_writer.specs.WriterSteps.{IsFlushing, choice_at, phase_in}
use Rattle.hive_flush.specs.HiveStates.{IsBroken, FilesMatchHive, HiveIsRepaired, file_choice}
use Rattle.hive_flush.specs.declared.hive.HiveFile.{HiveFile}
use Rattle.commit_journal.specs.declared.journal.Journal.{Journal}
use Rattle.engine_invariant.specs.Prefixes.{AreOnDisk, IsPrimaryOf}
use Rattle.engine_invariant.proofs.StoreReads.{reads_left}

-- A hive with no flush under way, and no repair left, has its primary file at rest
rests_in : (at : FlushStage) (T : Type 0) (stands : TreeDecoder T) (work : FlushState T) (total : ℕ) (now memory : TreeMap × ℕ) (primary log : FileState) → IsFlushing at → (choice_at at now memory).next ≡ None → files_match_phase stands work (phase_in total at) primary log
    → primary ≡ at_rest primary.synced
rests_in stage.AtRest T stands work total now memory primary log whole rests on = on.rest
rests_in (stage.WritingLog pieces) T stands work total now memory primary log whole rests on = absurd (none-some memory (sym rests))
rests_in stage.LogSynced T stands work total now memory primary log whole rests on = absurd (none-some memory (sym rests))
rests_in stage.PrimaryMarkedDirty T stands work total now memory primary log whole rests on = absurd (none-some memory (sym rests))
rests_in (stage.WritingPages purpose.Flush page) T stands work total now memory primary log whole rests on = absurd (none-some memory (sym rests))
rests_in (stage.WritingPages purpose.Repair page) T stands work total now memory primary log whole rests on = absurd cc
rests_in (stage.PagesSynced purpose.Flush) T stands work total now memory primary log whole rests on = absurd (none-some memory (sym rests))
rests_in (stage.PagesSynced purpose.Repair) T stands work total now memory primary log whole rests on = absurd cc
rests_in (stage.HeaderWritten purpose.Flush) T stands work total now memory primary log whole rests on = absurd (none-some memory (sym rests))
rests_in (stage.HeaderWritten purpose.Repair) T stands work total now memory primary log whole rests on = absurd cc

rests_honest : (hive : HiveFile) (primary log : FileState) → HiveIsRepaired hive → (file_choice hive).next ≡ None → FilesMatchHive hive primary log → IsHonest primary primary.seen
rests_honest hive primary log whole rests on =
    let same = rests_in hive.writer.stage TreeMap on.stands _ _ _ _ primary log whole rests on.on in
    inl (ap (λ (s : FileState). take 512 s.seen) same)

-- The law that is used of a hive whose device hasn't failed
abbrev pub HonestReads : Type 0
HonestReads = (file : HiveFile) (primary log : FileState) → IsSound primary → ¬ (IsBroken file) → FilesMatchHive file primary log → IsHonest primary primary.seen

-- Either way what a read gives might be left by a crash, with honest first sectors.
pub reads_honest : HonestReads → (state : ℕ → FileState) (journal : Journal) (hives : List HiveFile) → ((f : ℕ) → IsSound (state f)) → AreOnDisk journal hives state → ((i : ℕ) (hive : HiveFile) → slice_get hives i ≡ Some hive → HiveIsRepaired hive)
    → ((i : ℕ) (hive : HiveFile) → slice_get hives i ≡ Some hive → (¬ (IsBroken hive)) ⊎ ((file_choice hive).next ≡ None)) → LeavesHonest (IsPrimaryOf (length hives)) state (λ f. (state f).seen)
reads_honest law state journal hives sound on whole may = reads_left state hives sound (λ i hive is. elim (may i hive is) [
  | inl works ↦ law hive (state (primary_file i)) (state (log_file i)) (sound (primary_file i)) works (on.each i hive is)
  | inr rests ↦ rests_honest hive (state (primary_file i)) (state (log_file i)) (whole i hive is) rests (on.each i hive is)
])
