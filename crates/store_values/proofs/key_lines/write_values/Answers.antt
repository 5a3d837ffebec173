use Rattle.std.proofs.Common.{sym, ◌∙◌}
use Rattle.reg_names.specs.Names.{folded_path}
use Rattle.reg_tree.specs.Maps.{row}
use Rattle.reply_lines.proofs.Written.{appends_both}
use Rattle.key_walk.proofs.Rows.{next_rows}
use Rattle.store_values.specs.Answers.{value_line}
use Rattle.store_values.specs.Listed.{values_at}
use Rattle.store_values.proofs.Lists.{value_index}
use Rattle.store_values.proofs.key_lines.write_values.Goals as goal

pub loop-index-preserved : goal.loop-index-preserved
loop-index-preserved g c =
    let tree = c.args.tree.now in
    let path = folded_path c.args.path.now in
    appends_both _ _ _ _ _ _ c.loop-index.invariant c.in_ok-write_value.ensures (next_rows value_line (values_at tree path) c.loop-index.index c.in-Ok.value.now (sym (value_index (row tree path) c.loop-index.index) ∙ c.in-Ok.ensures.ok))
