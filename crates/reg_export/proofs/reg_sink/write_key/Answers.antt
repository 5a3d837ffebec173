use Rattle.std.proofs.Common.{◌++◌, [], ap, refl, codes}
use Rattle.std.specs.List.{flat_map}
use Rattle.std.specs.FinMap as finite
use Rattle.key_walk.specs.KeyPaths.{names_on}
use Rattle.key_walk.proofs.Rows.{on_ok}
use Rattle.reg_export.specs.RegTexts.{line, reg_path, reg_value_line}
use Rattle.reg_export.specs.SinkLaws.{prints_both}
use Rattle.reg_export.proofs.reg_sink.write_key.Goals as goal

pub returns : goal.returns
returns g c = on_ok c.write_text.result (λ end. prints_both c.args.encoding _ _ _ _ _ _ (prints_both c.args.encoding _ _ _ _ _ _ c.in_ok-write_key_line.ensures c.in_ok-write_values.ensures refl) end
    (ap (λ vs. line (codes "[" ++ reg_path c.args.prefix.now (names_on c.args.path.now) ++ codes "]") ++ flat_map reg_value_line (finite.values vs) ++ line []) c.values.ensures)) c.write_text.ensures
