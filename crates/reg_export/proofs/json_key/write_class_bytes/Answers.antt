use Rattle.std.proofs.Common.{refl}
use Rattle.reply_lines.proofs.Written.{appends_both}
use Rattle.key_walk.proofs.Rows.{on_ok}
use Rattle.reg_export.proofs.json_key.write_class_bytes.Goals as goal

pub returns : goal.returns
returns g c = on_ok c.write_all-2.result (λ end. appends_both _ _ _ _ _ _ (appends_both _ _ _ _ _ _ c.in_ok-write_all.ensures.bytes c.in_ok-write_hex.ensures refl) end refl) c.write_all-2.ensures.bytes
