use Rattle.std.proofs.Common.{◌≡◌, ◌<◌, ℕ, subst, arith}
use Rattle.std.proofs.lemmas.Result.{IfErr-weaker, IfOk-weaker}
use Rattle.disk_model.specs.FileState.{FileState}
use Rattle.disk_model.proofs.Unwritten.{no_change}
use Rattle.recovery.specs.Recovered.{seen_in}
use Rattle.store_hive.specs.LedTrees.{named_by}
use Rattle.store_hive.specs.RecoveredHives.{RecoversHive}
use Rattle.store_hive.proofs.Told.{named_refused}
use Rattle.store_hive.proofs.recovered_tree.named_tree.Goals as goal

pub returns-then-hive-owner-clause-recovers : goal.returns-then-hive-owner-clause-recovers
returns-then-hive-owner-clause-recovers g c =
    let D = g.D.Disk in
    let old = D.state_at c.args.disk.now (D.clock c.args.disk.now) in
    let then = D.state_at c.owner.new.disk (D.clock c.owner.new.disk) in
    let same : then ≡ old = (λ i f. no_change c.owner.ensures.no_change f i) in
    let store = named_by c.in-Ok.owner in
    IfOk-weaker c.tree_in.result _ _ (λ tree recovers. (store, c.if-hive-owner.true, λ f. subst (λ (s : ℕ → FileState). RecoversHive (seen_in s) store c.args.hive tree) same (recovers f))) c.tree_in.ensures.recovers

pub returns-then-hive-owner-clause-fails : goal.returns-then-hive-owner-clause-fails
returns-then-hive-owner-clause-fails g c =
    let D = g.D.Disk in
    let old = D.state_at c.args.disk.now (D.clock c.args.disk.now) in
    let then = D.state_at c.owner.new.disk (D.clock c.owner.new.disk) in
    let same : then ≡ old = (λ i f. no_change c.owner.ensures.no_change f i) in
    let last = c.tree_in.new.disk in
    IfErr-weaker c.tree_in.result _ _ (λ why fails.
    named_refused (D.failures c.owner.new.disk < D.failures last) (D.failures c.args.disk.now < D.failures last) (D.faithful last) (λ rose. omega (arith, rose, c.owner.ensures.failures)) old then same c.args.hive why fails) c.tree_in.ensures.fails
