use Rattle.std.proofs.Common.{List, ℕ, ap, ◌∙◌, ◌++◌, refl, codes}
use Rattle.hex.specs.Hex.{encode_lower}
use Rattle.reply_lines.proofs.Written.{appends_both}
use Rattle.key_walk.proofs.Rows.{on_ok}
use Rattle.reg_export.specs.TypeNames.{type_name}
use Rattle.reg_export.specs.Meanings.{meaning_of}
use Rattle.reg_export.specs.JsonTexts.{json_string, json_meaning}
use Rattle.reg_export.proofs.json_value.write_fields.Goals as goal

pub returns : goal.returns
returns g c =
    let value = c.args.value.now in
    let head : List ℕ = codes ",\"name\":" ++ json_string value.name ++ codes ",\"type\":\"" ++ type_name value.kind ++ codes "\",\"data\":\"" in
    on_ok c.write_meaning.result (λ meaning. appends_both _ _ _ _ _ _ (appends_both _ _ _ _ _ _ (appends_both _ _ _ _ _ _ c.in_ok-write_name_and_type.ensures c.in_ok-write_hex.ensures refl) c.in_ok-write_all.ensures.bytes refl) meaning
    (ap (λ m. ((head ++ encode_lower c.bytes-bytes.result.now) ++ codes "\"") ++ json_meaning m) c.data_meaning.ensures
    ∙ ap (λ (bytes : List ℕ). ((head ++ encode_lower bytes) ++ codes "\"") ++ json_meaning (meaning_of value.kind bytes)) c.bytes-bytes.ensures)) c.write_meaning.ensures
