use Rattle.std.proofs.Common.{◌++◌, ◌∷◌, [], List, ℕ, sym, ap, subst, ◌∙◌}
use Rattle.std.specs.List.{flat_map}
use Rattle.hex.specs.Hex.{encode_lower}
use Rattle.key_walk.proofs.Rows.{on_ok}
use Rattle.reg_export.specs.Encodings.{Prints}
use Rattle.reg_export.specs.RegTexts.{at_columns, byte_list, next_byte}
use Rattle.reg_export.specs.SinkLaws.{prints_both, prints_nothing}
use Rattle.reg_export.proofs.Lists.{no_items}
use Rattle.reg_export.proofs.reg_data.write_bytes.Goals as goal

pub returns-in_default : goal.returns-in_default
returns-in_default g c =
    let known = g.W.Write.contents c.args.writer.now in
    subst (λ (bytes : List ℕ). Prints c.args.encoding known known (byte_list c.args.column bytes)) (sym (no_items c.args.bytes.now c.in_default.ensures.cases)) (prints_nothing c.args.encoding known)

pub returns : goal.returns
returns g c =
    let first = c.in-Some.first.now in
    let rest = c.in-Some.rest.now in
    on_ok c.write_next_bytes.result (λ more. prints_both c.args.encoding _ _ _ _ _ _ c.in_ok-write_digits.ensures more
    (ap (λ column. encode_lower (first ∷ []) ++ flat_map next_byte (at_columns column rest)) c.column_after.ensures ∙ ap (byte_list c.args.column) (sym c.in-Some.ensures.cases.0))) c.write_next_bytes.ensures
