use Rattle.std.proofs.Common.{subst}
use Rattle.base_block.specs.declared.block.TheConstants.{MINOR_VERSION}
use Rattle.hive_load.specs.Limits.{BinsEncodeTreeInLimits, LoadRefused}
use Rattle.hive_edit.proofs.LoadedTrees.{no_memory}
use Rattle.hive_edit.proofs.image_edit.load_tree.Goals as goal

pub returns-in-Ok : goal.returns-in-Ok
returns-in-Ok c = subst (λ bytes. BinsEncodeTreeInLimits bytes c.args.root MINOR_VERSION c.in-Ok.tree) c.image.ensures (c.in-Ok.ensures.stands, c.in-Ok.ensures.within)

pub returns-in-Err : goal.returns-in-Err
returns-in-Err c = no_memory c.args.image.now.bytes c.args.root MINOR_VERSION c.in-Err.why c.requires.0 c.requires.1 (subst (λ bytes. LoadRefused bytes c.args.root MINOR_VERSION c.in-Err.why) c.image.ensures c.in-Err.ensures.refused)
