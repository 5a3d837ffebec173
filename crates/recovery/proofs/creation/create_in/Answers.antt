use Rattle.std.proofs.Common.{◌≡◌, ◌∙◌, ℕ, List, length, sym, ap, subst, arith, slice_get, Some}
use Rattle.std.proofs.lemmas.Result.{on_ok_weaker}
use Rattle.disk_model.specs.FileState.{FileState, at_rest}
use Rattle.disk_model.specs.Crash.{LeavesHonest}
use Rattle.hive_flush.specs.declared.image.HiveImage.{HiveImage}
use Rattle.reg_tree.specs.Maps.{TreeMap}
use Rattle.commit_journal.specs.Store.{created_bytes, hives_in}
use Rattle.commit_journal.specs.declared.store_layout.Layout.{Layout}
use Rattle.engine_invariant.specs.Prefixes.{IsPrimaryOf}
use Rattle.recovery.specs.Created.{AreImagesIn, AreImagesOf, AreWritten, HivesAreMade, RecoversTrees, new_store, trees_in}
use Rattle.recovery.specs.Recovered.{seen_in}
use Rattle.recovery.proofs.Creations.{created_durable, hives_made, images_are, images_many, last_outcomes, on_ok_and, trees_many}
use Rattle.recovery.proofs.creation.create_in.Goals as goal

-- how many images are written
many_written : (id : List ℕ) (layout : Layout) (trees : List TreeMap) (named all written : List HiveImage) → written ≡ all → length named ≡ length trees → AreImagesIn id layout named all → length written ≡ hives_in layout (length trees)
many_written id layout trees named all written same many are = ap (λ (hs : List HiveImage). length hs) same ∙ images_many id layout named all are ∙ ap (hives_in layout) many

-- what is written, of the images that were made
hives_of : (id : List ℕ) (layout : Layout) (trees : List TreeMap) (named all written : List HiveImage) (state : ℕ → FileState) → written ≡ all → length named ≡ length trees → AreImagesOf id 0 trees named → AreImagesIn id layout named all
    → AreWritten written state → HivesAreMade id 0 (trees_in layout trees) state
hives_of id layout trees named all written state same many are in_layout made =
    hives_made id 0 (trees_in layout trees) all state (images_many id layout named all in_layout ∙ ap (hives_in layout) many ∙ sym (trees_many layout trees)) (images_are id layout trees named all many are in_layout)
    (subst (λ (hs : List HiveImage). AreWritten hs state) same made)

pub returns-clause-made : goal.returns-clause-made
returns-clause-made g c =
    let D = g.D.Disk in
    let new = D.state_at c.write_store.new.disk (D.clock c.write_store.new.disk) in
    let named = c.in_ok-named.ensures in
    on_ok_weaker c.write_store.result (λ made f. record {
      journal = (made f).0 ∙ ap (λ n. at_rest (created_bytes (new_store c.args.id c.args.layout n))) c.len.ensures.all;
      hives = hives_of c.args.id c.args.layout c.args.trees.now c.in_ok-named.named.items c.in_ok-images.images.items c.deref.result.now new c.deref.ensures.value named.many named.images c.in_ok-images.ensures.images (made f).1;
    }) c.write_store.ensures.made

pub returns-clause-recovers : goal.returns-clause-recovers
returns-clause-recovers g c =
    let D = g.D.Disk in
    let trees = c.args.trees.now in
    let all = trees_in c.args.layout trees in
    let new = D.state_at c.write_store.new.disk (D.clock c.write_store.new.disk) in
    let named = c.in_ok-named.ensures in
    let law = c.trees_have_commits.ensures in
    let own = c.len.ensures.all in
    let long = trees_many c.args.layout trees ∙ sym (many_written c.args.id c.args.layout trees c.in_ok-named.named.items c.in_ok-images.images.items c.deref.result.now c.deref.ensures.value named.many c.in_ok-images.ensures.images) in
    on_ok_and c.write_store.result c.write_store.ensures.made c.write_store.ensures.recovers (λ written recovers f.
    let made = hives_of c.args.id c.args.layout trees c.in_ok-named.named.items c.in_ok-images.images.items c.deref.result.now new c.deref.ensures.value named.many named.images c.in_ok-images.ensures.images (written f).1 in
    subst (λ n. RecoversTrees (new_store c.args.id c.args.layout n) 0 all new) own
    (recovers f 0 all (omega arith) long
    (λ tree at. last_outcomes c.args.layout trees (law.passes 0 _ _ law.fresh tt (omega arith)) tree (subst (λ n. slice_get all n ≡ Some tree) own at))
    (created_durable c.args.id 0 all new made)))

pub returns-clause-shows : goal.returns-clause-shows
returns-clause-shows g c =
    let D = g.D.Disk in
    let trees = c.args.trees.now in
    let all = trees_in c.args.layout trees in
    let new = D.state_at c.write_store.new.disk (D.clock c.write_store.new.disk) in
    let named = c.in_ok-named.ensures in
    on_ok_and c.write_store.result c.write_store.ensures.made c.write_store.ensures.shows (λ written shows f.
    let made = hives_of c.args.id c.args.layout trees c.in_ok-named.named.items c.in_ok-images.images.items c.deref.result.now new c.deref.ensures.value named.many named.images c.in_ok-images.ensures.images (written f).1 in
    subst (λ n. LeavesHonest (IsPrimaryOf n) new (seen_in new)) (trees_many c.args.layout trees) (shows f 0 all (created_durable c.args.id 0 all new made)))
