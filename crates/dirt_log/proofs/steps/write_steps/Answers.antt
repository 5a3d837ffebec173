use Rattle.std.proofs.Common.{◌≡◌, length, rules}
use Rattle.dirt_log.proofs.Again.{reads_as}
use Rattle.dirt_log.proofs.steps.write_steps.Goals as goal

pub returns-clause-again : goal.returns-clause-again
returns-clause-again c = λ loggable.
    let long : length c.write-sector.result ≡ 512 = search rules in
    reads_as c.args.image.now c.args.vector.now c.args.base.now c.write-sector.result c.requires long
    c.write-sector.ensures.again c.bitmap_round_trip.ensures loggable
