use Rattle.std.proofs.Common.{◌≡◌, ◌<◌}
use Rattle.hive_files.specs.Frames.{RefusalHasCause}
use Rattle.recovery.specs.Recovered.{seen_in}
use Rattle.store_create.specs.Creations.{IsNotMade}
use Rattle.store_create.specs.Upgrades.{AreNotUpgraded, IsUpgraded}
use Rattle.store_create.proofs.Creations.{told_of}
use Rattle.store_create.proofs.layout_upgrade.upgrade.Goals as goal

pub returns-clause-made : goal.returns-clause-made
returns-clause-made g c =
    let O = g.O.Disk in
    let N = g.N.Disk in
    let made = c.make_upgraded-source in
    let first = O.state_at c.args.source (O.clock c.args.source) in
    let disk = made.result.0 in
    told_of c.write_outcome-status.result made.result.1 (g.W.Write.contents c.args.writer.now) (g.W.Write.contents c.write_outcome-status.new.writer)
    (IsUpgraded (O.faithful disk) first (O.state_at disk (O.clock disk)) (N.faithful made.new.target) (N.state_at made.new.target (N.clock made.new.target)))
    (IsNotMade (N.failures c.args.target.now < N.failures made.new.target) (made.new.target ≡ c.args.target.now) (RefusalHasCause (O.failures c.args.source < O.failures disk) (AreNotUpgraded (O.faithful disk) (seen_in first))))
    c.write_outcome-status.ensures.outcome made.ensures.made made.ensures.refused
