use Rattle.std.proofs.Common.{rules}
use Rattle.store_driver.proofs.Later.{later_same}
use Rattle.store_model.specs.Machine.{named_trees, outcome_bytes}
use Rattle.store_values.specs.Changes.{ChangeIsPlanned}
use Rattle.store_values.proofs.Ended.{commit_ends}
use Rattle.store_values.proofs.run.make.Goals as goal

pub returns-in_default-clause-later : goal.returns-in_default-clause-later
returns-in_default-clause-later g c = later_same g.D.Disk.faithful g.D.Disk.failures c.args.engine.now

pub returns-in-Err-clause-later : goal.returns-in-Err-clause-later
returns-in-Err-clause-later g c = later_same g.D.Disk.faithful g.D.Disk.failures c.args.engine.now

pub returns-in-Ok-planned-clause-ends : goal.returns-in-Ok-planned-clause-ends
returns-in-Ok-planned-clause-ends g c =
    let is : ChangeIsPlanned (named_trees c.args.engine.now.machine) (outcome_bytes c.args.engine.now.machine) c.args.moment c.args.change c.in-Ok-planned.plan = search rules in
    commit_ends c.from_u64_pair-id.result c.args.moment c.args.change c.args.engine.now.machine c.commit.new.engine.machine c.in-Ok-planned.plan c.into_ops.result.items c.commit.result is c.into_ops.ensures c.commit.ensures.committed c.commit.ensures.refused
