use Rattle.std.proofs.Common.{List, arith, subst}
use Rattle.std.specs.Prelude.{map}
use Rattle.std.proofs.lemmas.List.{drop_all}
use Rattle.disk_model.specs.FileState.{IsWritten}
use Rattle.disk_model.specs.PendingWrites.{range_of}
use Rattle.disk_model.specs.declared.pending_write.PendingWrite.{PendingWrite}
use Rattle.disk_model.proofs.CaughtUp.{caught_up}
use Rattle.disk_model.proofs.mem_file.catch_up.Goals as goal

pub returns-clause-done : goal.returns-clause-done
returns-clause-done c =
    let loop = c.loop-write in
    let none = drop_all loop.write-index c.args.written.now (omega arith) in
    caught_up loop.synced.items c.args.seen.now loop.invariant.size
    (λ p below. loop.invariant.same p below (λ written. subst (λ (rest : List PendingWrite). IsWritten (map range_of rest) p) none written))
