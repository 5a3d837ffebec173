use Rattle.std.proofs.Common.{List, ℕ, ◌++◌, ap, refl, codes}
use Rattle.reply_lines.proofs.Written.{appends_both}
use Rattle.reply_lines.specs.Replies.{name_text}
use Rattle.key_walk.proofs.Rows.{on_ok}
use Rattle.store_values.specs.Answers.{datum_line}
use Rattle.store_values.proofs.key_lines.write_value.Goals as goal

pub returns : goal.returns
returns g c =
    let value = c.args.value.now in
    on_ok c.write_datum_line.result (λ ended. appends_both _ _ _ _ _ _
    (appends_both _ _ _ _ _ _ (appends_both _ _ _ _ _ _ c.in_ok-write_all.ensures.bytes c.in_ok-write_name.ensures refl) c.in_ok-write_all-2.ensures.bytes refl) ended
    (ap (λ (name : List ℕ). ((codes "value " ++ name_text name) ++ codes " ") ++ datum_line value) c.units.ensures)) c.write_datum_line.ensures
