use Rattle.std.proofs.Common.{sym, subst}
use Rattle.std.specs.Io.KnownBytes.{Appends}
use Rattle.hex.specs.Hex.{encode_lower}
use Rattle.reply_lines.proofs.Written.{appends_no_digits}
use Rattle.reg_export.proofs.Lists.{none_of}
use Rattle.reg_export.proofs.json_value.write_hex.Goals as goal

pub returns-then-is_empty : goal.returns-then-is_empty
returns-then-is_empty g c =
    let known = g.W.Write.contents c.args.writer.now in
    subst (λ bytes. Appends known known (encode_lower bytes)) (sym (none_of c.args.bytes.now (sym c.if-is_empty.ensures))) (appends_no_digits known)
