use Rattle.std.proofs.Common.{List, ℕ, ◌++◌, ap, codes}
use Rattle.reply_lines.proofs.Written.{appends_both}
use Rattle.key_walk.proofs.Rows.{on_ok}
use Rattle.value_syntax.specs.Printed.{datum_text}
use Rattle.store_values.proofs.key_lines.write_datum_line.Goals as goal

pub returns : goal.returns
returns g c =
    on_ok c.write_all.result (λ ended. appends_both _ _ _ _ _ _ c.in_ok-write_datum.ensures ended (ap (λ (bytes : List ℕ). datum_text c.args.value.now.kind bytes ++ codes "\n") c.bytes.ensures)) c.write_all.ensures.bytes
