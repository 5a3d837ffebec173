use Rattle.std.proofs.Common.{◌≡◌, ◌∙◌, ◌+◌, ℕ, List, [], ◌∷◌, ◌++◌, length, map, sym, ap, subst, arith, slice_get, Some}
use Rattle.std.proofs.lemmas.List.{length-map}
use Rattle.reg_tree.specs.Fresh.{fresh_tree}
use Rattle.disk_model.specs.FileState.{FileState, at_rest}
use Rattle.disk_model.specs.Crash.{LeavesHonest}
use Rattle.disk_model.specs.StoreFiles.{log_file, primary_file}
use Rattle.engine_invariant.specs.Prefixes.{IsPrimaryOf}
use Rattle.hive_flush.specs.Creation.{AreCreated}
use Rattle.hive_flush.specs.declared.image.HiveImage.{HiveImage}
use Rattle.commit_journal.specs.Store.{created_bytes}
use Rattle.commit_journal.specs.declared.store_layout.Layout.TheVariants.{WithOutcomes}
use Rattle.recovery.specs.Created.{AreImagesIn, AreWritten, HivesAreDurable, RecoversTrees, new_store}
use Rattle.recovery.specs.Recovered.{seen_in}
use Rattle.recovery.specs.FileCopies.{AreImagesOfFiles, HivesAreCopied}
use Rattle.recovery.proofs.Creations.{copied_durable, durable_pushed, hives_copied, images_many, last_outcomes, on_ok_and, trees_many, written_front, written_last}
use Rattle.recovery.proofs.creation.create_from.Goals as goal

-- What is written, of the images that were made of files and of the one after them.
module _ (id : List ℕ) (files : List (List ℕ)) (named all written : List HiveImage) (state : ℕ → FileState) (same : written ≡ all) (many : length named ≡ length files) (are : AreImagesOfFiles id files named)
    (is : AreImagesIn id WithOutcomes named all) where
  named_many : length named ≡ length are.trees
  named_many = many ∙ sym are.hold.many

  written_many : length (are.trees ++ fresh_tree ∷ []) ≡ length written
  written_many = trees_many WithOutcomes are.trees ∙ ap (λ n. n + 1) (sym named_many) ∙ sym (images_many id WithOutcomes named all is) ∙ ap (λ (hs : List HiveImage). length hs) (sym same)

  module _ (made : AreWritten written state) where
    all_made : AreWritten all state
    all_made = subst (λ (hs : List HiveImage). AreWritten hs state) same made

    copied : HivesAreCopied id files are.trees state
    copied = hives_copied id files named state many are (written_front named is.0 all state is.1 all_made)

    last : AreCreated id fresh_tree 0 (state (primary_file (length are.trees))) (state (log_file (length are.trees)))
    last = written_last id named is.0 all state (length are.trees) is.1 named_many is.2 all_made

    durable : HivesAreDurable id 0 (are.trees ++ fresh_tree ∷ []) state
    durable = durable_pushed id are.trees state (copied_durable id files are.trees state are.hold.many copied) last

pub returns-clause-made : goal.returns-clause-made
returns-clause-made g c =
    let D = g.D.Disk in
    let id = c.args.id in
    let files : List (List ℕ) = map (λ file. file.items) c.args.files.items in
    let new = D.state_at c.write_store.new.disk (D.clock c.write_store.new.disk) in
    let named = c.in_ok-named.named.items in
    let all = c.in_ok-images.images.items in
    let are : AreImagesOfFiles id files named = c.in_ok-named.ensures.images in
    let is : AreImagesIn id WithOutcomes named all = c.in_ok-images.ensures.images in
    let long : length files ≡ length c.args.files.items = length-map c.args.files.items (λ file. file.items) in
    let many : length named ≡ length files = c.in_ok-named.ensures.many ∙ sym long in
    let own : c.len-count.result ≡ length are.trees = c.len-count.ensures ∙ c.args.files.ok.0 ∙ sym long ∙ sym are.hold.many in
    let law = c.trees_have_commits.ensures in
    on_ok_and c.write_store.result c.write_store.ensures.made c.write_store.ensures.recovers (λ written recovers. (
      are.trees,
      are.hold,
      λ f. (
        record {
          journal = (written f).0 ∙ ap (λ n. at_rest (created_bytes (new_store id WithOutcomes n))) own;
          hives = copied id files named all c.deref.result.now new c.deref.ensures.value many are is (written f).1;
          outcomes = last id files named all c.deref.result.now new c.deref.ensures.value many are is (written f).1;
        },
        subst (λ n. RecoversTrees (new_store id WithOutcomes n) 0 (are.trees ++ fresh_tree ∷ []) new) own
            (recovers f 0 (are.trees ++ fresh_tree ∷ []) (omega arith) (written_many id files named all c.deref.result.now new c.deref.ensures.value many are is)
            (λ tree at. last_outcomes WithOutcomes are.trees (law.passes 0 _ _ law.fresh tt (omega arith)) tree (subst (λ n. slice_get (are.trees ++ fresh_tree ∷ []) n ≡ Some tree) own at))
            (durable id files named all c.deref.result.now new c.deref.ensures.value many are is (written f).1)),
      ),
    ))

pub returns-clause-shows : goal.returns-clause-shows
returns-clause-shows g c =
    let D = g.D.Disk in
    let id = c.args.id in
    let files : List (List ℕ) = map (λ file. file.items) c.args.files.items in
    let new : ℕ → FileState = D.state_at c.write_store.new.disk (D.clock c.write_store.new.disk) in
    let named = c.in_ok-named.named.items in
    let all = c.in_ok-images.images.items in
    let are : AreImagesOfFiles id files named = c.in_ok-named.ensures.images in
    let is : AreImagesIn id WithOutcomes named all = c.in_ok-images.ensures.images in
    let long : length files ≡ length c.args.files.items = length-map c.args.files.items (λ file. file.items) in
    let many : length named ≡ length files = c.in_ok-named.ensures.many ∙ sym long in
    on_ok_and c.write_store.result c.write_store.ensures.made c.write_store.ensures.shows (λ written shows f.
    subst (λ n. LeavesHonest (IsPrimaryOf n) new (seen_in new)) (trees_many WithOutcomes are.trees ∙ ap (λ n. n + 1) (are.hold.many ∙ long))
    (shows f 0 (are.trees ++ fresh_tree ∷ []) (durable id files named all c.deref.result.now new c.deref.ensures.value many are is (written f).1)))
