use Rattle.ktm_calls.specs.Moments.{Sight}
use Rattle.store_server.specs.declared.session_ends.SessionEnds.{SessionEnds}
use Rattle.store_server.specs.declared.session_ends.SessionEnds.TheVariants.{Granted}
use Rattle.store_server.proofs.Ends.{HasServedAll}
use Rattle.store_server.proofs.clients.Clients.serve_desk.Given as goal

-- whoever is served from here, they are served from the first client on with those so far
abbrev pub invariant-loop : goal.invariant-loop
invariant-loop g l =
    let O = g.O.Origin in
    let S = g.O.Start in
    let saves = g.B.BackupFolder.holds in
    (is : Sight) (ends : SessionEnds) → HasServedAll saves S.store S.sole S.start O.trees O.number O.hives l.asker l.ends is ends → HasServedAll saves S.store S.sole S.start O.trees O.number O.hives l.fn.asker Granted is ends
