use Rattle.std.proofs.Common.{sym, subst}
use Rattle.hive_records.specs.Images.{BinsEncodeTree}
use Rattle.hive_flush.proofs.change_replay.after_op.Goals as goal

pub returns-clause-encodes : goal.returns-clause-encodes
returns-clause-encodes c = λ done. subst (BinsEncodeTree c.edit_on.new.image.bytes c.args.root 5) (sym c.in_ok-tree.ensures) (c.in_ok-edit.ensures.encodes done)
