use Rattle.std.proofs.Common.{◌<◌, ◌≡◌, sym, ap, subst, arith}
use Rattle.std.proofs.lemmas.Result.{IfErr-weaker}
use Rattle.disk_model.specs.FileState.{FileState}
use Rattle.disk_model.specs.StoreFiles.{journal_file}
use Rattle.recovery.specs.Reading.{IsOnlyStore}
use Rattle.recovery.specs.Recovered.{seen_in}
use Rattle.store_hive.specs.LedTrees.{named_by}
use Rattle.store_hive.proofs.Told.{hive_refused, journal_apart, led_refused}
use Rattle.store_hive.proofs.recovered_tree.read_hive.Goals as goal

pub led_tree-requires-clause-only : goal.led_tree-requires-clause-only
led_tree-requires-clause-only g c = λ f.
    subst (λ (s : FileState). IsOnlyStore s.seen (named_by c.args.owner.now)) (sym (c.held_tree.ensures.others journal_file (journal_apart c.args.hive))) (c.requires.only (c.held_tree.ensures.faithful f))

pub returns-in-Ok-clause-fails : goal.returns-in-Ok-clause-fails
returns-in-Ok-clause-fails g c =
    let D = g.D.Disk in
    let old = D.state_at c.args.disk.now (D.clock c.args.disk.now) in
    let mid = D.state_at c.held_tree.new.disk (D.clock c.held_tree.new.disk) in
    let last = c.led_tree.new.disk in
    let same : old journal_file ≡ mid journal_file = sym (c.held_tree.ensures.others journal_file (journal_apart c.args.hive)) in
    IfErr-weaker c.led_tree.result _ _ (λ why fails.
    led_refused (D.failures c.held_tree.new.disk < D.failures last) (D.failures c.args.disk.now < D.failures last) (D.faithful last) (λ rose. omega (arith, rose, c.held_tree.ensures.failures)) (named_by c.args.owner.now) c.args.hive (seen_in old) (mid journal_file).seen c.in-Ok.held
    (λ f. record { same = ap (λ (s : FileState). s.seen) same; holds = c.in-Ok.ensures.held (c.led_tree.ensures.faithful f) }) why fails) c.led_tree.ensures.fails

pub returns-in-Err-clause-fails : goal.returns-in-Err-clause-fails
returns-in-Err-clause-fails g c =
    let D = g.D.Disk in
    let old = D.state_at c.args.disk.now (D.clock c.args.disk.now) in
    let mid = D.state_at c.held_tree.new.disk (D.clock c.held_tree.new.disk) in
    let last = c.told_of_hive.new.disk in
    let same : old journal_file ≡ mid journal_file = sym (c.held_tree.ensures.others journal_file (journal_apart c.args.hive)) in
    hive_refused (D.failures c.args.disk.now < D.failures c.held_tree.new.disk) (D.failures c.held_tree.new.disk < D.failures last) (D.failures c.args.disk.now < D.failures last) (D.faithful c.held_tree.new.disk) (D.faithful last)
    (λ rose. omega (arith, rose, c.told_of_hive.ensures.failures)) (λ rose. omega (arith, rose, c.held_tree.ensures.failures)) c.told_of_hive.ensures.faithful (named_by c.args.owner.now) c.requires.store c.args.hive c.requires.there (seen_in old) (mid journal_file).seen
    (ap (λ (s : FileState). s.seen) same) c.in-Err.why c.told_of_hive.result c.in-Err.ensures.fails c.told_of_hive.ensures.told
