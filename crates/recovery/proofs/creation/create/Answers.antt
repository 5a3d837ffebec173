use Rattle.std.proofs.Common.{sym, subst}
use Rattle.std.proofs.lemmas.Result.{on_ok_weaker}
use Rattle.disk_model.specs.Crash.{LeavesHonest}
use Rattle.commit_journal.specs.declared.store_layout.Layout.TheVariants.{WithOutcomes}
use Rattle.engine_invariant.specs.Prefixes.{IsPrimaryOf}
use Rattle.recovery.proofs.Creations.{trees_many}
use Rattle.recovery.proofs.creation.create.Goals as goal

pub returns-clause-recovers : goal.returns-clause-recovers
returns-clause-recovers g c =
    let D = g.D.Disk in
    let new = D.state_at c.create_in.new.disk (D.clock c.create_in.new.disk) in
    on_ok_weaker c.create_in.result (λ r f files left. (r f).left files (subst (λ n. LeavesHonest (IsPrimaryOf n) new files) (sym (trees_many WithOutcomes c.args.trees.now)) left)) c.create_in.ensures.recovers

pub returns-clause-seen : goal.returns-clause-seen
returns-clause-seen g c = on_ok_weaker c.create_in.result (λ r f. (r f).seen) c.create_in.ensures.recovers
