use Rattle.std.proofs.Common.{List, ℕ, ap, ◌∙◌, ◌++◌, codes, refl}
use Rattle.std.specs.Fmt.{decimal}
use Rattle.reply_lines.proofs.Written.{appends_both}
use Rattle.key_walk.proofs.Rows.{on_ok}
use Rattle.reg_export.specs.JsonTexts.{json_class, json_descriptor}
use Rattle.reg_export.proofs.json_key.write_own_fields.Goals as goal

pub returns : goal.returns
returns g c =
    let row = c.args.key.now in
    let class = c.class.result.now in
    let bytes = c.bytes.result.now in
    let text : ℕ → List ℕ → List ℕ → List ℕ = λ flags its_class descriptor. codes ",\"flags\":" ++ decimal flags ++ json_class its_class ++ json_descriptor descriptor in
    let front = appends_both _ _ _ _ _ _ c.in_ok-write.ensures.bytes c.in_ok-write_class.ensures refl in
    on_ok c.write_descriptor.result (λ end. appends_both _ _ _ _ _ _ front end
    (ap (λ (n : ℕ). text n class bytes) c.flags.ensures
    ∙ ap (λ (b : List ℕ). text row.flags b bytes) c.class.ensures
    ∙ ap (λ (b : List ℕ). text row.flags row.class b) (c.bytes.ensures ∙ c.descriptor.ensures))) c.write_descriptor.ensures
