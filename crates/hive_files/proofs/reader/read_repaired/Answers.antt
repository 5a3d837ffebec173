use Rattle.std.proofs.Common.{ℕ, List, length, take, drop, sym, ap, ◌∙◌, arith}
use Rattle.std.proofs.lemmas.Result.{IfOk-weaker, IfErr-weaker}
use Rattle.disk_model.specs.FileState.{FileState}
use Rattle.disk_model.specs.StoreFiles.{primary_file, log_file}
use Rattle.disk_model.proofs.Unwritten.{reads_on, no_change}
use Rattle.hive_files.specs.declared.reader.TheConstants.{MOST_LOG_BYTES}
use Rattle.hive_files.proofs.Founding.{told_of_log}
use Rattle.hive_files.proofs.reader.read_repaired.Goals as goal

pub returns-in-Err-read_log-clause-fails : goal.returns-in-Err-read_log-clause-fails
returns-in-Err-read_log-clause-fails g c = told_of_log _ _ _ _ (λ none faithful logged.
    let log = (g.D.Disk.state_at c.args.disk.now (g.D.Disk.clock c.args.disk.now) (log_file c.args.hive)).seen in
    none log (c.deref.ensures.value ∙ c.in-Ok.ensures.bytes faithful ∙ ap (λ (f : ℕ). take MOST_LOG_BYTES (g.D.Disk.state_at c.args.disk.now (g.D.Disk.clock c.args.disk.now) f).seen) c.log_number.ensures) logged.whole)
    c.in-Err-read_log.ensures.refused

pub returns-clause-found : goal.returns-clause-found
returns-clause-found g c = IfOk-weaker c.repaired.result _ _ (λ found by faithful.
    let state = g.D.Disk.state_at c.args.disk.now (g.D.Disk.clock c.args.disk.now) in
    let mid = g.D.Disk.state_at c.read_part.new.disk (g.D.Disk.clock c.read_part.new.disk) in
    let primary = (state (primary_file c.args.hive)).seen in
    let log = (state (log_file c.args.hive)).seen in
    let size = c.in-Ok-read_log.log.vector.bins_size in
    let before = c.in-Ok-read_part.ensures.faithful faithful in
    by primary log
    (c.in-Ok-read_log.ensures.log log (c.deref.ensures.value ∙ c.in-Ok.ensures.bytes before ∙ ap (λ (f : ℕ). take MOST_LOG_BYTES (state f).seen) c.log_number.ensures))
    (c.in-Ok-read_part.ensures.bytes faithful ∙ ap (λ (n : ℕ). take n (drop 4096 (mid c.primary_number.result).seen)) c.bins_size-size.ensures.value
    ∙ ap (λ (f : ℕ). take size (drop 4096 (mid f).seen)) c.primary_number.ensures
    ∙ ap (λ (s : FileState). take size (drop 4096 s.seen)) (no_change c.in-Ok.ensures.reads (primary_file c.args.hive)))) c.repaired.ensures.found

pub returns-clause-fails : goal.returns-clause-fails
returns-clause-fails g c = IfErr-weaker c.repaired.result _ _ (λ why by. told_of_log _ _ _ why (λ none faithful logged.
    let state = g.D.Disk.state_at c.args.disk.now (g.D.Disk.clock c.args.disk.now) in
    let mid = g.D.Disk.state_at c.read_part.new.disk (g.D.Disk.clock c.read_part.new.disk) in
    let primary = (state (primary_file c.args.hive)).seen in
    let log = (state (log_file c.args.hive)).seen in
    let size = c.in-Ok-read_log.log.vector.bins_size in
    let before = c.in-Ok-read_part.ensures.faithful faithful in
    none primary log
    (c.in-Ok-read_log.ensures.log log (c.deref.ensures.value ∙ c.in-Ok.ensures.bytes before ∙ ap (λ (f : ℕ). take MOST_LOG_BYTES (state f).seen) c.log_number.ensures))
    (c.in-Ok-read_part.ensures.bytes faithful ∙ ap (λ (n : ℕ). take n (drop 4096 (mid c.primary_number.result).seen)) c.bins_size-size.ensures.value
    ∙ ap (λ (f : ℕ). take size (drop 4096 (mid f).seen)) c.primary_number.ensures
    ∙ ap (λ (s : FileState). take size (drop 4096 s.seen)) (no_change c.in-Ok.ensures.reads (primary_file c.args.hive))) logged) by) c.repaired.ensures.fails

pub returns-in-Err-read_part-clause-reads : goal.returns-in-Err-read_part-clause-reads
returns-in-Err-read_part-clause-reads g c = reads_on _ _ _ _ _ _ c.in-Ok.ensures.reads c.in-Err-read_part.ensures.reads

pub returns-clause-calls : goal.returns-clause-calls
returns-clause-calls g c = IfOk-weaker c.repaired.result _ _ (λ found size faithful.
    let state = g.D.Disk.state_at c.args.disk.now (g.D.Disk.clock c.args.disk.now) in
    let mid = g.D.Disk.state_at c.read_part.new.disk (g.D.Disk.clock c.read_part.new.disk) in
    let primary = (state (primary_file c.args.hive)).seen in
    let before = c.in-Ok-read_part.ensures.faithful faithful in
    let encoding = c.in-Ok.ensures.bytes before ∙ ap (λ (f : ℕ). take MOST_LOG_BYTES (state f).seen) c.log_number.ensures in
    let bins =
    c.in-Ok-read_part.ensures.bytes faithful ∙ ap (λ (n : ℕ). take n (drop 4096 (mid c.primary_number.result).seen)) (c.bins_size-size.ensures.value ∙ sym size)
    ∙ ap (λ (f : ℕ). take found.block.bins_size (drop 4096 (mid f).seen)) c.primary_number.ensures
    ∙ ap (λ (s : FileState). take found.block.bins_size (drop 4096 s.seen)) (no_change c.in-Ok.ensures.reads (primary_file c.args.hive)) in
    omega (arith, c.in-Ok-read_part.ensures.calls, c.in-Ok.ensures.calls, ap (λ (l : List ℕ). length l) encoding, ap (λ (l : List ℕ). length l) bins)) c.repaired.ensures.size

pub returns-clause-reads : goal.returns-clause-reads
returns-clause-reads g c = reads_on _ _ _ _ _ _ c.in-Ok.ensures.reads c.in-Ok-read_part.ensures.reads
