use Rattle.std.proofs.Common.{List, ℕ, ap, ◌++◌, codes}
use Rattle.hex.specs.Hex.{encode_lower}
use Rattle.key_walk.proofs.Rows.{on_ok}
use Rattle.reg_export.specs.SinkLaws.{prints_both}
use Rattle.reg_export.proofs.reg_data.write_number.Goals as goal

pub returns : goal.returns
returns g c = on_ok c.write_digits.result (λ digits. prints_both c.args.encoding _ _ _ _ _ _ c.in_ok-write_text.ensures digits (ap (λ (bytes : List ℕ). codes "dword:" ++ encode_lower bytes) c.to_be_bytes.ensures)) c.write_digits.ensures
