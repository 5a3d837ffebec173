use Rattle.std.proofs.Common.{◌≡◌, ◌∙◌, ◌<◌, get_or, length, refl, ap, arith, slice_get, Some}
use Rattle.std.proofs.lemmas.Option.{slice_get_read, slice_get_within}
use Rattle.disk_model.specs.StoreFiles.{IsFileOfHive}
use Rattle.hive_files.proofs.Anew.{stays_on, stays_wider}
use Rattle.recovery.specs.Created.{IsOfHives}
use Rattle.recovery.proofs.Creations.{one_more_written}
use Rattle.recovery.proofs.creation.write_hives.Goals as goal

pub loop-hive-preserved : goal.loop-hive-preserved
loop-hive-preserved g c =
    let D = g.D.Disk in
    let l = c.loop-hive in
    let i = l.invariant in
    let w = c.write.ensures in
    let images = c.args.images.now in
    let image = c.index-images-from.result in
    let first = D.state_at c.args.disk.now in
    let mid = D.state_at l.disk in
    let new = D.state_at c.write.new.disk in
    let lt : l.hive < length images = omega (arith, c.loop-hive-test.true, c.requires.few) in
    let is : slice_get images l.hive ≡ Some image = slice_get_read images (length images) l.hive image refl lt (c.index-images-from.is ∙ ap (λ n. get_or images n image) c.from.ensures) in
    record {
      made = λ f. one_more_written l.hive images image (mid (D.clock l.disk)) (new (D.clock c.write.new.disk)) (i.made (w.faithful f)) is w.stays.others (record { created = c.in_ok-write.ensures.created f; copied = c.in_ok-write.ensures.copied f });
      stays = stays_on (IsOfHives (length images)) first mid new (D.clock c.args.disk.now) (D.clock l.disk) (D.clock c.write.new.disk) i.stays
          (stays_wider (IsFileOfHive l.hive) (IsOfHives (length images)) mid new (D.clock l.disk) (D.clock c.write.new.disk) (λ f of. (l.hive, lt, of)) w.stays);
      failures = c.in_ok-write.ensures.failures ∙ i.failures;
      faithful = λ f. i.faithful (w.faithful f);
    }

pub returns-clause-made : goal.returns-clause-made
returns-clause-made g c = λ f k image at.
    let there = slice_get_within c.args.images.now k image at in
    c.loop-hive.invariant.made f k image (omega (arith, there, c.loop-hive-test.false, c.requires.few)) at
