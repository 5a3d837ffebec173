use Rattle.std.proofs.Common.{refl}
use Rattle.hive_flush.proofs.Created.{file_bins_size}
use Rattle.hive_flush.proofs.image.HiveImage.of_file.Goals as goal

pub invariant_of-result : goal.invariant_of-result
invariant_of-result c =
    let held = c.in-Ok.held in
    let has = c.in-Ok.ensures.has in
    record { size = file_bins_size c.args.file.items held.block held.bins.items has; oldest = has.0.judged.1.1; newest = has.0.judged.1.2 }

pub returns-clause-image : goal.returns-clause-image
returns-clause-image c =
    let held = c.in-Ok.held in
    (held.tree, record { store_is = refl; number_is = refl; block = held.block; has = c.in-Ok.ensures.has; root_is = refl; minor_is = refl; stands = c.in-Ok.ensures.tree })
