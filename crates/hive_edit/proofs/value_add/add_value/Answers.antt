use Rattle.base_block.specs.declared.block.TheConstants.{MINOR_VERSION}
use Rattle.hive_edit.proofs.value_add.add_value.Goals as goal

pub returns-clause-done : goal.returns-clause-done
returns-clause-done c = λ is hive tree encodes absent. c.add_to_key.ensures.done is c.args.root hive tree c.args.path.now (c.in-Some.ensures MINOR_VERSION tree encodes) absent
