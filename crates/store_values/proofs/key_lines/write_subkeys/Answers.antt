use Rattle.std.proofs.Common.{sym, ◌∙◌}
use Rattle.reg_names.specs.Names.{folded_path}
use Rattle.reg_tree.specs.Maps.{row, subkeys}
use Rattle.reply_lines.proofs.Written.{appends_both}
use Rattle.key_walk.proofs.Rows.{next_rows}
use Rattle.store_values.specs.Answers.{subkey_line}
use Rattle.store_values.specs.Listed.{subkeys_at}
use Rattle.store_values.proofs.Lists.{name_index}
use Rattle.store_values.proofs.key_lines.write_subkeys.Goals as goal

pub loop-index-preserved : goal.loop-index-preserved
loop-index-preserved g c =
    let tree = c.args.tree.now in
    let path = folded_path c.args.path.now in
    appends_both _ _ _ _ _ _ c.loop-index.invariant c.in_ok-write_subkey.ensures (next_rows subkey_line (subkeys_at tree path) c.loop-index.index c.in-Ok.name.now (sym (name_index (subkeys tree path) (row tree path) c.loop-index.index) ∙ c.in-Ok.ensures.ok))
