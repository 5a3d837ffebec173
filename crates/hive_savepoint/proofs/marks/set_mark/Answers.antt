use Rattle.std.proofs.Common.{true, refl}
use Rattle.hive_cells.proofs.Bits.{put_one}
use Rattle.hive_savepoint.proofs.marks.set_mark.Goals as goal

pub returns-clause-here : goal.returns-clause-here
returns-clause-here c = (put_one c.args.words.now c.args.page true refl c.requires).here

pub returns-clause-others : goal.returns-clause-others
returns-clause-others c = (put_one c.args.words.now c.args.page true refl c.requires).others
