use Rattle.std.proofs.Common.{Option, List, ℕ}
use Rattle.registry_lines.specs.Interpreters.{script_of}
use Rattle.registry_lines.specs.Scripts.{Script}
use Rattle.store_server.specs.Visits.{ServesLines}
use Rattle.store_server.specs.declared.served_lines.LinesServed.{LinesServed}
use Rattle.store_server.proofs.served_lines.serve_lines.Given as goal

-- whatever is served from here, that is served from the first line with what was served so far
abbrev pub invariant-loop : goal.invariant-loop
invariant-loop g l =
    let O = g.O.Origin in
    let S = g.O.Start in
    let saves = g.B.BackupFolder.holds in
    let contents = g.W.Write.contents in
    (end : LinesServed) (new : Script) (is : Option (List ℕ)) → ServesLines saves S.store S.sole S.start O.trees O.number O.hives (script_of l.session.script) (contents l.writer) end new is
    → ServesLines saves S.store S.sole S.start O.trees O.number O.hives (script_of l.fn.session.script) (contents l.fn.writer) end new is
