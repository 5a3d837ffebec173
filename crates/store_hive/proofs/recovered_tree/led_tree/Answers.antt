use Rattle.std.proofs.Common.{◌<◌, refl}
use Rattle.disk_model.specs.StoreFiles.{journal_file}
use Rattle.store_hive.specs.LedTrees.{named_by}
use Rattle.store_hive.proofs.Told.{led_to, scan_refused}
use Rattle.store_hive.proofs.recovered_tree.led_tree.Goals as goal

pub returns-in-Ok-clause-led : goal.returns-in-Ok-clause-led
returns-in-Ok-clause-led g c = λ f files beside.
    let D = g.D.Disk in
    let then = D.state_at c.args.disk.now (D.clock c.args.disk.now) in
    let now = D.state_at c.scan_store.new.disk (D.clock c.scan_store.new.disk) in
    let begins = c.new-replay.ensures in
    led_to c.new-replay.result c.scan_store.new.sink c.args.hive c.args.held begins.hive begins.number begins.tree (named_by c.args.owner.now) files (then journal_file).seen beside
    (D.faithful c.scan_store.new.disk) then now refl c.in-Ok.journal c.in-Ok.ensures.scanned c.in-Ok.ensures.took c.requires.store c.requires.there c.last_number.result c.last_number.ensures f

pub returns-in-Err-clause-fails : goal.returns-in-Err-clause-fails
returns-in-Err-clause-fails g c =
    let D = g.D.Disk in
    let then = D.state_at c.args.disk.now (D.clock c.args.disk.now) in
    let begins = c.new-replay.ensures in
    scan_refused c.new-replay.result c.scan_store.new.sink c.args.hive c.args.held begins.hive begins.number begins.tree (named_by c.args.owner.now) c.requires.store c.requires.there
    (D.failures c.args.disk.now < D.failures c.scan_store.new.disk) (D.faithful c.scan_store.new.disk) (then journal_file).seen (λ f. c.requires.only (c.scan_store.ensures.faithful f)) c.in-Err.why c.in-Err.ensures.fails
