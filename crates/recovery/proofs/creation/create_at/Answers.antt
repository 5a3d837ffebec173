use Rattle.std.proofs.Common.{◌≡◌, ◌∙◌, ℕ, List, length, sym, ap, subst, arith, slice_get, Some}
use Rattle.std.proofs.lemmas.Result.{on_ok_weaker}
use Rattle.reg_tree.specs.Maps.{TreeMap}
use Rattle.disk_model.specs.FileState.{FileState}
use Rattle.disk_model.specs.Crash.{LeavesHonest}
use Rattle.engine_invariant.specs.Prefixes.{IsPrimaryOf}
use Rattle.hive_flush.specs.declared.image.HiveImage.{HiveImage}
use Rattle.recovery.specs.Created.{AreImagesOf, AreWritten, HivesAreMade, RecoversTrees, new_store}
use Rattle.recovery.specs.Recovered.{seen_in}
use Rattle.recovery.proofs.Creations.{created_durable, hives_made, on_ok_and}
use Rattle.recovery.proofs.creation.create_at.Goals as goal

-- what is written, of the images that were made
hives_of : (id : List ℕ) (number : ℕ) (trees : List TreeMap) (images written : List HiveImage) (state : ℕ → FileState) → written ≡ images → length images ≡ length trees → AreImagesOf id number trees images → AreWritten written state → HivesAreMade id number trees state
hives_of id number trees images written state same many are made =
    hives_made id number trees images state many are (subst (λ (hs : List HiveImage). AreWritten hs state) same made)

pub returns-clause-made : goal.returns-clause-made
returns-clause-made g c =
    let D = g.D.Disk in
    let new = D.state_at c.write_store.new.disk (D.clock c.write_store.new.disk) in
    let images = c.in_ok-images.ensures in
    on_ok_weaker c.write_store.result (λ made f. record {
      journal = (made f).0;
      hives = hives_of c.args.id c.args.number c.args.trees.now c.in_ok-images.images.items c.deref.result.now new c.deref.ensures.value images.many images.images (made f).1;
    }) c.write_store.ensures.made

pub returns-clause-recovers : goal.returns-clause-recovers
returns-clause-recovers g c =
    let D = g.D.Disk in
    let trees = c.args.trees.now in
    let new = D.state_at c.write_store.new.disk (D.clock c.write_store.new.disk) in
    let images = c.in_ok-images.ensures in
    let long : length trees ≡ length c.deref.result.now = sym images.many ∙ sym (ap (λ (hs : List HiveImage). length hs) c.deref.ensures.value) in
    on_ok_and c.write_store.result c.write_store.ensures.made c.write_store.ensures.recovers (λ written recovers f.
    let made = hives_of c.args.id c.args.number trees c.in_ok-images.images.items c.deref.result.now new c.deref.ensures.value images.many images.images (written f).1 in
    recovers f c.args.number trees c.requires.limit long (λ tree at. (c.in_ok-judge_last.ensures.judged tree at).0) (created_durable c.args.id c.args.number trees new made))

pub returns-clause-shows : goal.returns-clause-shows
returns-clause-shows g c =
    let D = g.D.Disk in
    let trees = c.args.trees.now in
    let new = D.state_at c.write_store.new.disk (D.clock c.write_store.new.disk) in
    let images = c.in_ok-images.ensures in
    on_ok_and c.write_store.result c.write_store.ensures.made c.write_store.ensures.shows (λ written shows f.
    let made = hives_of c.args.id c.args.number trees c.in_ok-images.images.items c.deref.result.now new c.deref.ensures.value images.many images.images (written f).1 in
    shows f c.args.number trees (created_durable c.args.id c.args.number trees new made))
