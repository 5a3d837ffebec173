use Rattle.std.proofs.Common.{List, ℕ, ap, ◌∙◌, ◌++◌, refl, codes}
use Rattle.reply_lines.specs.Replies.{data_text}
use Rattle.reply_lines.proofs.Written.{appends_both}
use Rattle.key_walk.proofs.Rows.{on_ok}
use Rattle.reg_export.specs.TypeNames.{type_name}
use Rattle.reg_export.specs.Meanings.{meaning_of}
use Rattle.reg_export.specs.Fields.{name_field}
use Rattle.reg_export.specs.TsvTexts.{tsv_meaning}
use Rattle.reg_export.proofs.tsv_sink.write_value_fields.Goals as goal

pub returns : goal.returns
returns g c =
    let value = c.args.value.now in
    let head : List ℕ = codes "\t" ++ name_field value.name ++ codes "\t" ++ type_name value.kind ++ codes "\t" in
    on_ok c.write_meaning.result (λ meaning. appends_both _ _ _ _ _ _ (appends_both _ _ _ _ _ _ (appends_both _ _ _ _ _ _ c.in_ok-write_name_and_type.ensures c.in_ok-write_data.ensures refl) c.in_ok-write_all.ensures.bytes refl) meaning
    (ap (λ m. ((head ++ data_text c.bytes-bytes.result.now) ++ codes "\t") ++ tsv_meaning m) c.data_meaning.ensures
    ∙ ap (λ (bytes : List ℕ). ((head ++ data_text bytes) ++ codes "\t") ++ tsv_meaning (meaning_of value.kind bytes)) c.bytes-bytes.ensures)) c.write_meaning.ensures
