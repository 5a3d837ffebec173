use Rattle.std.proofs.Common.{◌≡◌, ◌≢◌, ℕ, ◌+◌, ◌≤◌, true, false, List, length, take, drop, length-take, inl, inr, refl, sym, ap, subst, ◌∙◌, arith, ◌<◌}
use Rattle.std.proofs.lemmas.Result.{IfErr-weaker, IfOk-weaker}
use Rattle.base_block.specs.declared.block.BaseBlock.{BaseBlock}
use Rattle.base_block.specs.Judgements.{IsPrimary}
use Rattle.disk_model.specs.FileState.{FileState, at_rest}
use Rattle.disk_model.specs.StoreFiles.{primary_file, log_file}
use Rattle.disk_model.proofs.Unwritten.{only_reads, no_change, sync_call, syncs_on}
use Rattle.dirty_vector.specs.Pages.{clean_pages}
use Rattle.hive_files.specs.declared.reader.TheConstants.{MOST_LOG_BYTES}
use Rattle.hive_files.specs.Contents.{PrimaryHasNone, LogContains, LogCoversPrimary, HasBinsData, ShortFileRefused}
use Rattle.hive_files.proofs.Founding.{sector_tells, short_has_none, clean_found, unclean_found, clean_has_none, unclean_has_none, told_on, log_told_on}
use Rattle.hive_files.proofs.Frames.{ok_joined, ok_of_three}
use Rattle.hive_files.proofs.Chunks.{clean_calls, unclean_calls}
use Rattle.base_block.specs.Layout.{is_clean_block}
use Rattle.dirt_log.specs.FileContents.{is_clean_file}
use Rattle.dirt_log.specs.WholeLog.{block_of}
use Rattle.hive_files.proofs.reader.find.Goals as goal

pub returns-in-None-clause-fails : goal.returns-in-None-clause-fails
returns-in-None-clause-fails g c = told_on _ _ _ _ c.short_refused.result (λ f. omega (arith, f, c.in-Ok.ensures.failures, c.in_ok-sync.ensures.failures)) (λ told faithful.
    let old = g.D.Disk.state_at c.args.disk.now (g.D.Disk.clock c.args.disk.now) in
    let mid = g.D.Disk.state_at c.sync.new.self (g.D.Disk.clock c.sync.new.self) in
    let late = g.D.Disk.state_at c.read_part.new.disk (g.D.Disk.clock c.read_part.new.disk) in
    let why = c.short_refused.result in
    let primary = (old (primary_file c.args.hive)).seen in
    let log = (old (log_file c.args.hive)).seen in
    let read = c.short_refused.ensures.faithful faithful in
    let number : c.primary_number-primary.result ≡ primary_file c.args.hive = c.primary_number-primary.ensures in
    let shown : (mid c.primary_number-primary.result).seen ≡ primary = ap (λ (s : FileState). s.seen) (c.in_ok-sync.ensures.synced (c.in-Ok.ensures.faithful read)) ∙ ap (λ (f : ℕ). (old f).seen) number in
    let sector : c.in-Ok.sector.items ≡ take 512 primary = c.in-Ok.ensures.bytes read ∙ ap (λ (l : List ℕ). take 512 l) shown in
    let there : (late (primary_file c.args.hive)).seen ≡ primary = ap (λ (f : ℕ). (late f).seen) (sym number) ∙ ap (λ (s : FileState). s.seen) (no_change c.in-Ok.ensures.reads c.primary_number-primary.result) ∙ shown in
    let apart : log_file c.args.hive ≢ c.primary_number-primary.result = λ same. omega (arith, same, number) in
    let behind : (late (log_file c.args.hive)).seen ≡ log = ap (λ (s : FileState). s.seen) (no_change c.in-Ok.ensures.reads (log_file c.args.hive) ∙ c.in_ok-sync.ensures.others (log_file c.args.hive) apart) in
    short_has_none primary log why (omega (arith, c.in-None.ensures.none, ap (λ (l : List ℕ). length l) (c.deref.ensures.value ∙ sector), length-take 512 primary))
    (subst (λ (l : List ℕ). ShortFileRefused primary l why) behind (subst (λ (p : List ℕ). ShortFileRefused p (late (log_file c.args.hive)).seen why) there (told faithful)))) c.short_refused.ensures.fails

pub returns-then-is_clean-clause-found : goal.returns-then-is_clean-clause-found
returns-then-is_clean-clause-found g c = ok_of_three c.find_own.result _ _ _ _ (λ found bins judged says faithful.
    let old = g.D.Disk.state_at c.args.disk.now (g.D.Disk.clock c.args.disk.now) in
    let mid = g.D.Disk.state_at c.sync.new.self (g.D.Disk.clock c.sync.new.self) in
    let late = g.D.Disk.state_at c.read_part.new.disk (g.D.Disk.clock c.read_part.new.disk) in
    let primary = (old (primary_file c.args.hive)).seen in
    let log = (old (log_file c.args.hive)).seen in
    let read = c.find_own.ensures.faithful faithful in
    let number : c.primary_number-primary.result ≡ primary_file c.args.hive = c.primary_number-primary.ensures in
    let shown : (mid c.primary_number-primary.result).seen ≡ primary = ap (λ (s : FileState). s.seen) (c.in_ok-sync.ensures.synced (c.in-Ok.ensures.faithful read)) ∙ ap (λ (f : ℕ). (old f).seen) number in
    let sector : c.deref.result.now ≡ take 512 primary = c.deref.ensures.value ∙ c.in-Ok.ensures.bytes read ∙ ap (λ (l : List ℕ). take 512 l) shown in
    let tells : (c.in-Some.block ≡ block_of primary) × (512 ≤ length primary) × (is_clean_file primary ≡ is_clean_block c.in-Some.block) = sector_tells primary c.deref.result.now c.in-Some.block sector c.in-Some.ensures.some.0 c.in-Some.ensures.some.1 in
    let clean : is_clean_file primary ≡ true = tells.2 ∙ sym c.is_clean.ensures ∙ c.if-is_clean.true in
    let there : (late c.primary_number-primary.result).seen ≡ primary = ap (λ (s : FileState). s.seen) (no_change c.in-Ok.ensures.reads c.primary_number-primary.result) ∙ shown in
    clean_found primary log found clean says.2 (says.0 ∙ tells.0) (subst (λ (b : BaseBlock). IsPrimary b) (sym says.0) judged)
    (subst (λ (b : BaseBlock). HasBinsData primary b.bins_size found.bins.items) (sym says.0) (subst (λ (p : List ℕ). HasBinsData p c.in-Some.block.bins_size found.bins.items) there (bins faithful)))
    (says.1 ∙ ap (λ (b : BaseBlock). clean_pages b.bins_size) (sym says.0))) c.find_own.ensures.bins c.find_own.ensures.judged c.find_own.ensures.found

pub returns-then-is_clean-clause-fails : goal.returns-then-is_clean-clause-fails
returns-then-is_clean-clause-fails g c = IfErr-weaker c.find_own.result _ _ (λ why fails. told_on _ _ _ _ why (λ f. omega (arith, f, c.in-Ok.ensures.failures, c.in_ok-sync.ensures.failures)) (λ none faithful.
    let old = g.D.Disk.state_at c.args.disk.now (g.D.Disk.clock c.args.disk.now) in
    let mid = g.D.Disk.state_at c.sync.new.self (g.D.Disk.clock c.sync.new.self) in
    let late = g.D.Disk.state_at c.read_part.new.disk (g.D.Disk.clock c.read_part.new.disk) in
    let primary = (old (primary_file c.args.hive)).seen in
    let log = (old (log_file c.args.hive)).seen in
    let read = c.find_own.ensures.faithful faithful in
    let number : c.primary_number-primary.result ≡ primary_file c.args.hive = c.primary_number-primary.ensures in
    let shown : (mid c.primary_number-primary.result).seen ≡ primary = ap (λ (s : FileState). s.seen) (c.in_ok-sync.ensures.synced (c.in-Ok.ensures.faithful read)) ∙ ap (λ (f : ℕ). (old f).seen) number in
    let sector : c.deref.result.now ≡ take 512 primary = c.deref.ensures.value ∙ c.in-Ok.ensures.bytes read ∙ ap (λ (l : List ℕ). take 512 l) shown in
    let tells : (c.in-Some.block ≡ block_of primary) × (512 ≤ length primary) × (is_clean_file primary ≡ is_clean_block c.in-Some.block) = sector_tells primary c.deref.result.now c.in-Some.block sector c.in-Some.ensures.some.0 c.in-Some.ensures.some.1 in
    let clean : is_clean_file primary ≡ true = tells.2 ∙ sym c.is_clean.ensures ∙ c.if-is_clean.true in
    let there : (late c.primary_number-primary.result).seen ≡ primary = ap (λ (s : FileState). s.seen) (no_change c.in-Ok.ensures.reads c.primary_number-primary.result) ∙ shown in
    clean_has_none primary log c.in-Some.block why clean tells.0 (subst (λ (p : List ℕ). PrimaryHasNone c.in-Some.block p why) there (none faithful))) fails) c.find_own.ensures.fails

pub returns-clause-found : goal.returns-clause-found
returns-clause-found g c = ok_joined c.find_repaired.result _ _ _ (λ found by says faithful.
    let old = g.D.Disk.state_at c.args.disk.now (g.D.Disk.clock c.args.disk.now) in
    let mid = g.D.Disk.state_at c.sync.new.self (g.D.Disk.clock c.sync.new.self) in
    let late = g.D.Disk.state_at c.read_part.new.disk (g.D.Disk.clock c.read_part.new.disk) in
    let primary = (old (primary_file c.args.hive)).seen in
    let log = (old (log_file c.args.hive)).seen in
    let read = c.find_repaired.ensures.faithful faithful in
    let number : c.primary_number-primary.result ≡ primary_file c.args.hive = c.primary_number-primary.ensures in
    let shown : (mid c.primary_number-primary.result).seen ≡ primary = ap (λ (s : FileState). s.seen) (c.in_ok-sync.ensures.synced (c.in-Ok.ensures.faithful read)) ∙ ap (λ (f : ℕ). (old f).seen) number in
    let sector : c.deref.result.now ≡ take 512 primary = c.deref.ensures.value ∙ c.in-Ok.ensures.bytes read ∙ ap (λ (l : List ℕ). take 512 l) shown in
    let tells : (c.in-Some.block ≡ block_of primary) × (512 ≤ length primary) × (is_clean_file primary ≡ is_clean_block c.in-Some.block) = sector_tells primary c.deref.result.now c.in-Some.block sector c.in-Some.ensures.some.0 c.in-Some.ensures.some.1 in
    let clean : is_clean_file primary ≡ false = tells.2 ∙ sym c.is_clean.ensures ∙ c.if-is_clean.false in
    let there : (late (primary_file c.args.hive)).seen ≡ primary = ap (λ (f : ℕ). (late f).seen) (sym number) ∙ ap (λ (s : FileState). s.seen) (no_change c.in-Ok.ensures.reads c.primary_number-primary.result) ∙ shown in
    let apart : log_file c.args.hive ≢ c.primary_number-primary.result = λ same. omega (arith, same, number) in
    let behind : (late (log_file c.args.hive)).seen ≡ log = ap (λ (s : FileState). s.seen) (no_change c.in-Ok.ensures.reads (log_file c.args.hive) ∙ c.in_ok-sync.ensures.others (log_file c.args.hive) apart) in
    unclean_found primary log found clean says tells.1 (subst (λ (l : List ℕ). LogContains primary l found) behind (subst (λ (p : List ℕ). LogContains p (late (log_file c.args.hive)).seen found) there (by faithful)))) c.find_repaired.ensures.found c.find_repaired.ensures.clean

pub returns-clause-fails : goal.returns-clause-fails
returns-clause-fails g c = IfErr-weaker c.find_repaired.result _ _ (λ why fails. log_told_on _ _ _ _ why (λ f. omega (arith, f, c.in-Ok.ensures.failures, c.in_ok-sync.ensures.failures)) (λ told none faithful.
    let old = g.D.Disk.state_at c.args.disk.now (g.D.Disk.clock c.args.disk.now) in
    let mid = g.D.Disk.state_at c.sync.new.self (g.D.Disk.clock c.sync.new.self) in
    let late = g.D.Disk.state_at c.read_part.new.disk (g.D.Disk.clock c.read_part.new.disk) in
    let primary = (old (primary_file c.args.hive)).seen in
    let log = (old (log_file c.args.hive)).seen in
    let read = c.find_repaired.ensures.faithful faithful in
    let number : c.primary_number-primary.result ≡ primary_file c.args.hive = c.primary_number-primary.ensures in
    let shown : (mid c.primary_number-primary.result).seen ≡ primary = ap (λ (s : FileState). s.seen) (c.in_ok-sync.ensures.synced (c.in-Ok.ensures.faithful read)) ∙ ap (λ (f : ℕ). (old f).seen) number in
    let sector : c.deref.result.now ≡ take 512 primary = c.deref.ensures.value ∙ c.in-Ok.ensures.bytes read ∙ ap (λ (l : List ℕ). take 512 l) shown in
    let tells : (c.in-Some.block ≡ block_of primary) × (512 ≤ length primary) × (is_clean_file primary ≡ is_clean_block c.in-Some.block) = sector_tells primary c.deref.result.now c.in-Some.block sector c.in-Some.ensures.some.0 c.in-Some.ensures.some.1 in
    let clean : is_clean_file primary ≡ false = tells.2 ∙ sym c.is_clean.ensures ∙ c.if-is_clean.false in
    let there : (late (primary_file c.args.hive)).seen ≡ primary = ap (λ (f : ℕ). (late f).seen) (sym number) ∙ ap (λ (s : FileState). s.seen) (no_change c.in-Ok.ensures.reads c.primary_number-primary.result) ∙ shown in
    let apart : log_file c.args.hive ≢ c.primary_number-primary.result = λ same. omega (arith, same, number) in
    let behind : (late (log_file c.args.hive)).seen ≡ log = ap (λ (s : FileState). s.seen) (no_change c.in-Ok.ensures.reads (log_file c.args.hive) ∙ c.in_ok-sync.ensures.others (log_file c.args.hive) apart) in
    unclean_has_none primary log why clean told (λ logged. none faithful (subst (λ (l : List ℕ). LogCoversPrimary (late (primary_file c.args.hive)).seen l) (sym behind) (subst (λ (p : List ℕ). LogCoversPrimary p log) (sym there) logged)))) fails) c.find_repaired.ensures.fails

pub returns-then-is_clean-clause-synced : goal.returns-then-is_clean-clause-synced
returns-then-is_clean-clause-synced g c = λ faithful.
    let late = c.find_own.ensures.faithful faithful in
    let synced = sync_call c.sync.result c.primary_number-primary.result _ _ _ _ c.sync.ensures.time c.sync.ensures.others c.sync.ensures.synced c.sync.ensures.failed (c.read_part.ensures.faithful late) in
    syncs_on _ _ _ _ _ _ (syncs_on _ _ _ _ _ _ synced (only_reads _ _ _ _ c.read_part.ensures.reads)) (only_reads _ _ _ _ c.find_own.ensures.reads)

pub returns-clause-synced : goal.returns-clause-synced
returns-clause-synced g c = λ faithful.
    let late = c.find_repaired.ensures.faithful faithful in
    let synced = sync_call c.sync.result c.primary_number-primary.result _ _ _ _ c.sync.ensures.time c.sync.ensures.others c.sync.ensures.synced c.sync.ensures.failed (c.read_part.ensures.faithful late) in
    syncs_on _ _ _ _ _ _ (syncs_on _ _ _ _ _ _ synced (only_reads _ _ _ _ c.read_part.ensures.reads)) (c.find_repaired.ensures.synced faithful)

pub returns-clause-log_rest : goal.returns-clause-log_rest
returns-clause-log_rest g c = IfOk-weaker c.find_repaired.result _ _ (λ found rest faithful unclean.
    let old = g.D.Disk.state_at c.args.disk.now (g.D.Disk.clock c.args.disk.now) in
    let log = log_file c.args.hive in
    let apart : log ≢ c.primary_number-primary.result = λ same. omega (arith, same, c.primary_number-primary.ensures) in
    rest faithful ∙ ap (λ (s : FileState). at_rest s.seen) (no_change c.in-Ok.ensures.reads log ∙ c.in_ok-sync.ensures.others log apart)) c.find_repaired.ensures.rest

pub returns-then-is_clean-clause-calls : goal.returns-then-is_clean-clause-calls
returns-then-is_clean-clause-calls g c = ok_joined c.find_own.result _ _ _ (λ found says calls faithful.
    let old = g.D.Disk.state_at c.args.disk.now (g.D.Disk.clock c.args.disk.now) in
    let sector : length c.in-Ok.sector.items ≡ 512 = omega (arith, c.in-Ok.ensures.few, c.in-Some.ensures.some.1, ap (λ (l : List ℕ). length l) c.deref.ensures.value) in
    omega (
      arith,
      calls,
      c.in-Ok.ensures.calls,
      c.sync.ensures.time.clock,
      sector,
      ap (λ (b : BaseBlock). b.bins_size) says.0,
      clean_calls (old (primary_file c.args.hive)).seen (old (log_file c.args.hive)).seen found says.2,
    )) c.find_own.ensures.found c.find_own.ensures.calls

pub returns-clause-calls : goal.returns-clause-calls
returns-clause-calls g c = ok_joined c.find_repaired.result _ _ _ (λ found clean calls faithful.
    let old = g.D.Disk.state_at c.args.disk.now (g.D.Disk.clock c.args.disk.now) in
    let mid = g.D.Disk.state_at c.sync.new.self (g.D.Disk.clock c.sync.new.self) in
    let late = g.D.Disk.state_at c.read_part.new.disk (g.D.Disk.clock c.read_part.new.disk) in
    let primary = (old (primary_file c.args.hive)).seen in
    let log = (old (log_file c.args.hive)).seen in
    let read = c.find_repaired.ensures.faithful faithful in
    let number : c.primary_number-primary.result ≡ primary_file c.args.hive = c.primary_number-primary.ensures in
    let shown : (mid c.primary_number-primary.result).seen ≡ primary = ap (λ (s : FileState). s.seen) (c.in_ok-sync.ensures.synced (c.in-Ok.ensures.faithful read)) ∙ ap (λ (f : ℕ). (old f).seen) number in
    let there : (late (primary_file c.args.hive)).seen ≡ primary = ap (λ (f : ℕ). (late f).seen) (sym number) ∙ ap (λ (s : FileState). s.seen) (no_change c.in-Ok.ensures.reads c.primary_number-primary.result) ∙ shown in
    let apart : log_file c.args.hive ≢ c.primary_number-primary.result = λ same. omega (arith, same, number) in
    let behind : (late (log_file c.args.hive)).seen ≡ log = ap (λ (s : FileState). s.seen) (no_change c.in-Ok.ensures.reads (log_file c.args.hive) ∙ c.in_ok-sync.ensures.others (log_file c.args.hive) apart) in
    let encoding = ap (λ (l : List ℕ). length (take MOST_LOG_BYTES l)) behind in
    let part = ap (λ (l : List ℕ). length (take found.block.bins_size (drop 4096 l))) there in
    let sector : length c.in-Ok.sector.items ≡ 512 = omega (arith, c.in-Ok.ensures.few, c.in-Some.ensures.some.1, ap (λ (l : List ℕ). length l) c.deref.ensures.value) in
    omega (arith, calls faithful, encoding, part, c.in-Ok.ensures.calls, c.sync.ensures.time.clock, sector, unclean_calls primary log found clean)) c.find_repaired.ensures.clean c.find_repaired.ensures.calls

pub returns-then-is_clean-clause-others : goal.returns-then-is_clean-clause-others
returns-then-is_clean-clause-others g c = λ f not.
    no_change c.find_own.ensures.reads f ∙ no_change c.in-Ok.ensures.reads f ∙ c.in_ok-sync.ensures.others f (λ same. not (inl (same ∙ c.primary_number-primary.ensures)))

pub returns-clause-others : goal.returns-clause-others
returns-clause-others g c = λ f not.
    c.find_repaired.ensures.others f (λ same. not (inr same)) ∙ no_change c.in-Ok.ensures.reads f ∙ c.in_ok-sync.ensures.others f (λ same. not (inl (same ∙ c.primary_number-primary.ensures)))
