use Rattle.std.proofs.Common.{refl}
use Rattle.reply_lines.proofs.Written.{appends_both}
use Rattle.key_walk.proofs.Rows.{on_ok}
use Rattle.reg_export.proofs.json_sink.write_key.Goals as goal

pub returns : goal.returns
returns g c = on_ok c.write_values.result (λ values. appends_both _ _ _ _ _ _ (appends_both _ _ _ _ _ _ (appends_both _ _ _ _ _ _ c.in_ok-write_key_fields.ensures c.in_ok-write_own_fields.ensures refl) c.in_ok-write_all.ensures.bytes refl) values refl) c.write_values.ensures
