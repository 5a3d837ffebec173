use Rattle.std.proofs.Common.{[], ◌∷◌}
use Rattle.store_server.specs.Generations.{ServesOnce}
use Rattle.store_server.proofs.Openings.{ended_well}
use Rattle.store_server.proofs.generations.serve_desks.Goals as goal

pub loop-init : goal.loop-init
loop-init g c = λ new told t. t

pub returns-in-Err : goal.returns-in-Err
returns-in-Err g c =
    let D = g.D.Disk in
    let back = c.serve-back in
    let once : ServesOnce g.B.BackupFolder.holds D.faithful D.state_at D.clock D.failures c.loop.disk back.result.0 back.result.1 = record { threads = c.count.result; kept = back.ensures.kept; life = back.ensures.left; refused = back.ensures.refused } in
    let all = c.loop.invariant back.result.0 back.result.1 ([], once) in (all.0, back.result.1, all.1, c.in-Err.ensures)

pub returns-in-Ok : goal.returns-in-Ok
returns-in-Ok g c =
    let D = g.D.Disk in
    let back = c.serve-back in
    let once : ServesOnce g.B.BackupFolder.holds D.faithful D.state_at D.clock D.failures c.loop.disk back.result.0 back.result.1 = record { threads = c.count.result; kept = back.ensures.kept; life = back.ensures.left; refused = back.ensures.refused } in
    let all = c.loop.invariant back.result.0 back.result.1 ([], once) in (all.0, back.result.1, all.1, c.in-Ok.ensures)

pub loop-preserved-in-Ok-2 : goal.loop-preserved-in-Ok-2
loop-preserved-in-Ok-2 g c = λ new told t.
    let D = g.D.Disk in
    let back = c.serve-back in
    let once : ServesOnce g.B.BackupFolder.holds D.faithful D.state_at D.clock D.failures c.loop.disk back.result.0 back.result.1 = record { threads = c.count.result; kept = back.ensures.kept; life = back.ensures.left; refused = back.ensures.refused } in
    c.loop.invariant new told (back.result.0 ∷ t.0, (ended_well g.B.BackupFolder.holds D.faithful D.state_at D.clock D.failures c.loop.disk back.result.0 back.result.1 c.in-Ok.field-0 c.in-Ok.ensures once, t.1))
