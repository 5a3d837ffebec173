use Rattle.std.proofs.Common.{◌≡◌, ◌<◌, ℕ, ap, subst, arith}
use Rattle.std.proofs.lemmas.Result.{IfErr-weaker, IfOk-weaker}
use Rattle.commit_journal.specs.Store.{Store}
use Rattle.disk_model.specs.FileState.{FileState}
use Rattle.disk_model.proofs.Unwritten.{no_change}
use Rattle.recovery.specs.Recovered.{seen_in}
use Rattle.store_hive.specs.LedTrees.{named_by}
use Rattle.store_hive.specs.RecoveredHives.{RecoversHive}
use Rattle.store_hive.proofs.Told.{header_refused, outcomes_refused}
use Rattle.store_hive.proofs.recovered_tree.outcome_tree.Goals as goal

pub returns-in-Err-clause-fails : goal.returns-in-Err-clause-fails
returns-in-Err-clause-fails g c =
    let D = g.D.Disk in
    header_refused (D.failures c.args.disk.now < D.failures c.owner.new.disk) (D.faithful c.owner.new.disk) (seen_in (D.state_at c.args.disk.now (D.clock c.args.disk.now))) c.in-Err.why c.in-Err.ensures.fails

pub returns-then-all_hives-owner-clause-recovers : goal.returns-then-all_hives-owner-clause-recovers
returns-then-all_hives-owner-clause-recovers g c =
    let D = g.D.Disk in
    let old = D.state_at c.args.disk.now (D.clock c.args.disk.now) in
    let then = D.state_at c.owner.new.disk (D.clock c.owner.new.disk) in
    let same : then ≡ old = (λ i f. no_change c.owner.ensures.no_change f i) in
    let store = named_by c.in-Ok.owner in
    IfOk-weaker c.tree_in.result _ _ (λ tree recovers. (store, λ f. subst (λ (s : ℕ → FileState). RecoversHive (seen_in s) store store.hives tree) same (recovers f))) c.tree_in.ensures.recovers

pub returns-then-all_hives-owner-clause-fails : goal.returns-then-all_hives-owner-clause-fails
returns-then-all_hives-owner-clause-fails g c =
    let D = g.D.Disk in
    let old = D.state_at c.args.disk.now (D.clock c.args.disk.now) in
    let then = D.state_at c.owner.new.disk (D.clock c.owner.new.disk) in
    let same : then ≡ old = (λ i f. no_change c.owner.ensures.no_change f i) in
    let last = c.tree_in.new.disk in
    IfErr-weaker c.tree_in.result _ _ (λ why fails.
    outcomes_refused (D.failures c.owner.new.disk < D.failures last) (D.failures c.args.disk.now < D.failures last) (D.faithful last) (λ rose. omega (arith, rose, c.owner.ensures.failures)) old then same c.in-Ok.owner.hives
    (λ f store s is decodes. ap (λ (x : Store). x.hives) (c.in-Ok.ensures.only (c.tree_in.ensures.faithful f) store s is decodes)) why fails) c.tree_in.ensures.fails
