use Rattle.std.proofs.Common.{◌≡◌, ◌≢◌, ◌≤◌, ◌+◌, inl, inr, ⊎_elim, ℕ, List, length, refl, sym, ap, subst, ◌∙◌}
use Rattle.std.specs.Prelude.{◌%◌}
use Rattle.std.proofs.lemmas.Bool.{and_from, cases_Bool, eq-eqb, le-leb, not-false, not-true, MatchBool-at_true, MatchBool-at_false}
use Rattle.std.proofs.lemmas.Slice.Eq.{bytes_eq-Decides}
use Rattle.base_block.specs.declared.block.TheConstants.{MINOR_VERSION}
use Rattle.refusals.specs.declared.refusal.Refusal.{Refusal}
use Rattle.refusals.specs.declared.refusal.Refusal.TheVariants.{NoMemory}
use Rattle.disk_model.specs.FileState.{FileState, at_rest}
use Rattle.hive_savepoint.specs.Savepoints.{SavedBytes}
use Rattle.hive_writer.specs.declared.writer.HiveWriter.{HiveWriter}
use Rattle.hive_writer.specs.WriterSteps.{calls_left, plan_of}
use Rattle.dirty_vector.specs.Pages.{Pages, dirty_count, is_bins_size}
use Rattle.hive_files.specs.Contents.{UncleanFilesContain}
use Rattle.hive_load.specs.Limits.{BinsEncodeTreeInLimits}
use Rattle.hive_flush.specs.HiveStates.{FilesMatchWriter}
use Rattle.hive_flush.specs.NextBlocks.{clean_writer, unclean_writer}
use Rattle.hive_flush.specs.Renewals.{IsInWrittenVersion}
use Rattle.hive_flush.specs.Decoders.{RefusalNamesHive}
use Rattle.hive_flush.proofs.Encoding.{encodes_as}
use Rattle.hive_flush.proofs.Going.{same_on}
use Rattle.hive_flush.proofs.Opened.{IsWriterFor, clean_ready, found_agrees, found_holds, clean_on, opened_from, unclean_on, true_false, few_left, repairs_few, writer_ahead, writer_base, writer_minor, writer_number, writer_place, writer_planned, writer_root, writer_settled, writer_sound, writer_steady, writer_store}
use Rattle.hive_flush.proofs.Telling.{another_told, loaded_told}
use Rattle.hive_flush.proofs.opening.of_contents.Goals as goal

pub returns-then-ne-clause-fails : goal.returns-then-ne-clause-fails
returns-then-ne-clause-fails c = inr (
  refl,
  λ primary log f.
      let other : c.args.found.block.store ≢ c.args.store = λ same. true_false _ ((bytes_eq-Decides c.args.found.block.store c.args.store).1 same) (not-true _ (sym c.if-ne.ensures)) in
      record {
        none = λ held h. other (found_agrees primary log c.args.found c.args.store held f h).0;
        tells = another_told c.args.hive c.args.store primary log c.args.found f other;
      },
)

pub returns-in-Err-clause-fails : goal.returns-in-Err-clause-fails
returns-in-Err-clause-fails c = ⊎_elim (λ none. inl none) (λ is. inr (
  is,
  λ primary log f.
      let block = c.args.found.block in
      let some : c.in-Err.why ≢ NoMemory = λ none. subst (λ (r : Refusal). RefusalNamesHive c.args.hive r) (c.hive_refusal.ensures.memory none) is in
      record {
        none = λ held h. c.refused_bins_exclude_trees.ensures c.args.found.bins.items block.root block.minor c.in-Err.why c.in-Err.ensures.refused some held.0 (found_agrees primary log c.args.found c.args.store held f h).1;
        tells = loaded_told c.args.hive c.args.store primary log c.args.found c.hive_refusal.result c.in-Err.why f c.hive_refusal.ensures.cause some c.in-Err.ensures.refused;
      },
)) c.hive_refusal.ensures.hive_refusal

pub in_written_version-requires-clause-size : goal.in_written_version-requires-clause-size
in_written_version-requires-clause-size c = ap (λ (l : List ℕ). length l) c.in-Ok.ensures.same ∙ c.args.found.sizes

pub in_written_version-requires-clause-stands : goal.in_written_version-requires-clause-stands
in_written_version-requires-clause-stands c =
    let block = c.args.found.block in
    subst (λ (l : List ℕ). BinsEncodeTreeInLimits l block.root block.minor c.in-Ok.loaded.0) (sym c.in-Ok.ensures.same) c.in-Ok.ensures.stands

pub plan_fits-requires-clause-size : goal.plan_fits-requires-clause-size
plan_fits-requires-clause-size c = ap (λ (l : List ℕ). length l) (c.bytes.ensures.all ∙ ap (λ (s : SavedBytes). s.bytes) c.of-image.ensures) ∙ c.in_ok-made.ensures.made.size

pub of-image-requires : goal.of-image-requires
of-image-requires c =
    let n = c.bins_size-size.result in
    ap is_bins_size (c.in_ok-made.ensures.made.size ∙ sym c.bins_size-size.ensures.value)
    ∙ and_from _ _ (and_from _ _ (eq-eqb (n % 4096) 0 c.bins_size-size.ensures.whole) (le-leb 4096 n c.bins_size-size.ensures.least)) (le-leb n 67108864 c.bins_size-size.ensures.most)

pub plan_fits-requires-clause-planned : goal.plan_fits-requires-clause-planned
plan_fits-requires-clause-planned c =
    let made = c.in_ok-made.ensures.made in
    let size = c.bins_size-size.ensures in
    writer_planned c.writer_for-writer.result c.args.hive c.args.found c.in_ok-made.made.root c.bins_size-size.result c.in_written_version.new.pages
    (record { clean = c.writer_for-writer.ensures.clean; unclean = c.writer_for-writer.ensures.unclean }) size.whole size.least size.most size.value (λ m. (made.kept m).2)

pub invariant_of-result : goal.invariant_of-result
invariant_of-result c =
    let found = c.args.found in
    let made = c.in_ok-made.ensures.made in
    let size = c.bins_size-size.ensures in
    let root = c.in_ok-made.made.root in
    let writer = c.writer_for-writer.result in
    let w : IsWriterFor writer c.args.hive found.block found.is_clean root c.bins_size-size.result = record { clean = c.writer_for-writer.ensures.clean; unclean = c.writer_for-writer.ensures.unclean } in
    let now = c.bytes.follows.holds-at-none ∙ c.of-image.ensures in
    record {
      sizes = ap (λ (s : SavedBytes). length s.bytes) now ∙ made.size;
      savepoint = ap (λ (s : SavedBytes). s.saved) now ∙ sym (ap (λ (s : SavedBytes). s.bytes) now);
      planned = writer_planned writer c.args.hive found root c.bins_size-size.result c.in_written_version.new.pages w size.whole size.least size.most size.value (λ m. (made.kept m).2);
      steady = λ not. (writer_steady writer c.args.hive found.block found.is_clean root c.bins_size-size.result w not, c.of-held.ensures);
      ahead = writer_ahead writer c.args.hive found.block found.is_clean root c.bins_size-size.result w;
      encodes = encodes_as c.in_ok-made.made.image.bytes root MINOR_VERSION c.bytes.follows.lender-at-none writer.block c.in-Ok.loaded.0 (ap (λ (s : SavedBytes). s.bytes) now)
          (writer_root writer c.args.hive found root c.bins_size-size.result w (λ m. (made.kept m).1)) (writer_minor writer c.args.hive found root c.bins_size-size.result w) ∣ made.stands ∣₁;
      light = c.in-Ok.ensures.stands.1.light;
    }

pub returns-clause-few : goal.returns-clause-few
returns-clause-few c = λ primary log f not.
    let found = c.args.found in
    let made = c.in_ok-made.ensures.made in
    let root = c.in_ok-made.made.root in
    let pages = c.in_written_version.new.pages in
    let writer = c.writer_for-writer.result in
    let w : IsWriterFor writer c.args.hive found.block found.is_clean root c.bins_size-size.result = record { clean = c.writer_for-writer.ensures.clean; unclean = c.writer_for-writer.ensures.unclean } in
    let total = length (plan_of writer c.bytes.follows.lender-at-none.bytes pages).encoding in
    let left = few_left writer c.args.hive found.block found.is_clean root c.bins_size-size.result total pages w not in
    let unclean : UncleanFilesContain primary log found = MatchBool-at_false _ _ left.0 f.parts in
    subst (λ (v : Pages). calls_left total pages writer.stage ≤ dirty_count v + 3) ((made.kept (found.repaired left.0)).2 ∙ unclean.by_log.pages) left.1

pub returns-clause-repairs : goal.returns-clause-repairs
returns-clause-repairs c = λ primary log f.
    let found = c.args.found in
    let made = c.in_ok-made.ensures.made in
    let root = c.in_ok-made.made.root in
    let w : IsWriterFor c.writer_for-writer.result c.args.hive found.block found.is_clean root c.bins_size-size.result = record { clean = c.writer_for-writer.ensures.clean; unclean = c.writer_for-writer.ensures.unclean } in
    repairs_few primary log found c.args.hive c.writer_for-writer.result root c.bins_size-size.result c.in_written_version.new.pages w (λ m. (made.kept m).2) f

pub returns-clause-held : goal.returns-clause-held
returns-clause-held c = λ primary log f.
    let found = c.args.found in
    let root = c.in_ok-made.made.root in
    let w : IsWriterFor c.writer_for-writer.result c.args.hive found.block found.is_clean root c.bins_size-size.result = record { clean = c.writer_for-writer.ensures.clean; unclean = c.writer_for-writer.ensures.unclean } in
    found_holds primary log found c.args.store c.in-Ok.loaded.0 c.writer_for-writer.result.block.applied.0 f ((bytes_eq-Decides _ _).0 (not-false _ (sym c.if-ne.ensures))) c.in-Ok.ensures.stands
    (writer_number c.writer_for-writer.result c.args.hive found.block found.is_clean root c.bins_size-size.result w)

pub returns-clause-settled : goal.returns-clause-settled
returns-clause-settled c =
    let w : IsWriterFor c.writer_for-writer.result c.args.hive c.args.found.block c.args.found.is_clean c.in_ok-made.made.root c.bins_size-size.result = record { clean = c.writer_for-writer.ensures.clean; unclean = c.writer_for-writer.ensures.unclean } in
    writer_settled c.writer_for-writer.result c.args.hive c.args.found.block c.args.found.is_clean c.in_ok-made.made.root c.bins_size-size.result c.of-held.result.value c.in-Ok.loaded.0 w c.of-held.ensures

pub returns-clause-place : goal.returns-clause-place
returns-clause-place c =
    let w : IsWriterFor c.writer_for-writer.result c.args.hive c.args.found.block c.args.found.is_clean c.in_ok-made.made.root c.bins_size-size.result = record { clean = c.writer_for-writer.ensures.clean; unclean = c.writer_for-writer.ensures.unclean } in
    writer_place c.writer_for-writer.result c.args.hive c.args.found.block c.args.found.is_clean c.in_ok-made.made.root c.bins_size-size.result w

pub returns-clause-store : goal.returns-clause-store
returns-clause-store c =
    let w : IsWriterFor c.writer_for-writer.result c.args.hive c.args.found.block c.args.found.is_clean c.in_ok-made.made.root c.bins_size-size.result = record { clean = c.writer_for-writer.ensures.clean; unclean = c.writer_for-writer.ensures.unclean } in
    writer_store c.writer_for-writer.result c.args.hive c.args.found.block c.args.found.is_clean c.in_ok-made.made.root c.bins_size-size.result w ∙ (bytes_eq-Decides _ _).0 (not-false _ (sym c.if-ne.ensures))

pub returns-clause-sound : goal.returns-clause-sound
returns-clause-sound c = λ broken.
    let w : IsWriterFor c.writer_for-writer.result c.args.hive c.args.found.block c.args.found.is_clean c.in_ok-made.made.root c.bins_size-size.result = record { clean = c.writer_for-writer.ensures.clean; unclean = c.writer_for-writer.ensures.unclean } in
    true_false c.writer_for-writer.result.failed broken (writer_sound c.writer_for-writer.result c.args.hive c.args.found.block c.args.found.is_clean c.in_ok-made.made.root c.bins_size-size.result w)

pub returns-clause-from : goal.returns-clause-from
returns-clause-from c = λ primary log f clean.
    let found = c.args.found in
    let root = c.in_ok-made.made.root in
    let made = c.in_ok-made.ensures.made in
    let writer = c.writer_for-writer.result in
    let w : IsWriterFor writer c.args.hive found.block found.is_clean root c.bins_size-size.result = record { clean = c.writer_for-writer.ensures.clean; unclean = c.writer_for-writer.ensures.unclean } in
    let is = f.clean ∙ clean in
    let now = ap (λ (s : SavedBytes). s.bytes) (c.bytes.follows.holds-at-none ∙ c.of-image.ensures) in
    opened_from primary found c.in-Ok.loaded.0 c.in_ok-made.made.image.bytes c.bytes.follows.lender-at-none.bytes root c.in_written_version.new.pages writer (MatchBool-at_true _ _ is f.parts)
    (subst (λ (l : List ℕ). IsInWrittenVersion found.block l found.pages c.in-Ok.loaded.0 c.in_ok-made.made.image.bytes root c.in_written_version.new.pages) c.in-Ok.ensures.same made) now
    (writer_base writer c.args.hive found.block found.is_clean root c.bins_size-size.result w is) (writer_root writer c.args.hive found root c.bins_size-size.result w (λ m. (made.kept m).1))

pub returns-clause-on : goal.returns-clause-on
returns-clause-on c = λ primary log p l f p_is l_is.
    let found = c.args.found in
    let writer = c.writer_for-writer.result in
    let hive = c.args.hive in
    let tree = c.in-Ok.loaded.0 in
    let held = c.of-held.result.value in
    let root = c.in_ok-made.made.root in
    let image = c.in_ok-made.made.image.bytes in
    let pages = c.in_written_version.new.pages in
    let bins = c.bytes.follows.lender-at-none.bytes in
    let made : IsInWrittenVersion found.block found.bins.items found.pages tree image root pages = subst (λ (x : List ℕ). IsInWrittenVersion found.block x found.pages tree image root pages) c.in-Ok.ensures.same c.in_ok-made.ensures.made in
    let now : bins ≡ image = ap (λ (s : SavedBytes). s.bytes) (c.bytes.follows.holds-at-none ∙ c.of-image.ensures) in
    let lent : c.bytes.result.now ≡ image = c.bytes.ensures.all ∙ ap (λ (s : SavedBytes). s.bytes) c.of-image.ensures in
    let value : c.bins_size-size.result ≡ pages.bins_size = c.bins_size-size.ensures.value in
    elim (cases_Bool found.is_clean) [
      | inl clean ↦
          let w = clean_writer hive found.block root pages.bins_size in
          let is : writer ≡ w = c.writer_for-writer.ensures.clean clean ∙ ap (λ (n : ℕ). clean_writer hive found.block root n) value in
          same_on w writer image bins pages pages tree held tree tree p l is now refl c.of-held.ensures refl
          (subst (λ (s : FileState). FilesMatchWriter w image pages (tree, found.block.applied.0) (tree, found.block.applied.0) s l) (sym p_is)
          (clean_on hive primary found tree l image root pages (sym f.clean ∙ clean) (MatchBool-at_true _ _ clean f.parts) c.in-Ok.ensures.stands made
          (λ stands given. clean_ready writer hive found.block root pages.bins_size c.bytes.result.now image pages tree stands is lent c.plan_fits.ensures.ready given)))
      | inr unclean ↦
          let w = unclean_writer hive found.block in
          let kept = made.kept (found.repaired unclean) in
          same_on w writer found.bins.items bins found.pages pages tree held tree tree p l (c.writer_for-writer.ensures.unclean unclean) (now ∙ kept.0) kept.2 c.of-held.ensures refl
          (subst (λ (s : FileState). FilesMatchWriter w found.bins.items found.pages (tree, found.block.applied.0) (tree, found.block.applied.0) s l) (sym p_is)
          (subst (λ (s : FileState). FilesMatchWriter w found.bins.items found.pages (tree, found.block.applied.0) (tree, found.block.applied.0) (at_rest primary) s) (sym (l_is unclean))
          (unclean_on hive primary log found tree (sym f.clean ∙ unclean) (MatchBool-at_false _ _ unclean f.parts) c.in-Ok.ensures.stands (λ stands memory. c.repair_fits.ensures stands memory primary log))))
    ]
