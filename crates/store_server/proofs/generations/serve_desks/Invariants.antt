use Rattle.std.proofs.Common.{List, Result}
use Rattle.refusals.specs.declared.refusal.Refusal.{Refusal}
use Rattle.shared_store.specs.declared.service.Served.{Served}
use Rattle.store_server.specs.Generations.{ServesInGenerations}
use Rattle.store_server.specs.declared.session_ends.SessionEnds.{SessionEnds}
use Rattle.store_server.proofs.generations.serve_desks.Given as goal

-- whatever is served from this disk on, that is served from the first one on with the generations so far
abbrev pub invariant-loop : goal.invariant-loop
invariant-loop g l =
    let D = g.D.Disk in
    (new : g.row.D.Denot) (told : Result (Served SessionEnds) Refusal) → ((between : List g.row.D.Denot) × ServesInGenerations g.B.BackupFolder.holds D.faithful D.state_at D.clock D.failures l.disk between new told) → (between : List g.row.D.Denot) × ServesInGenerations g.B.BackupFolder.holds D.faithful D.state_at D.clock D.failures l.fn.disk between new told
