use Rattle.std.proofs.Common.{refl, sym, subst}
use Rattle.std.specs.Io.KnownBytes.{Appends}
use Rattle.hex.specs.Hex.{encode_lower}
use Rattle.reply_lines.proofs.Written.{appends_both, appends_no_digits}
use Rattle.reg_export.proofs.Lists.{none_of}
use Rattle.value_syntax.proofs.printer.write_bytes.Goals as goal

pub returns-then-is_empty : goal.returns-then-is_empty
returns-then-is_empty g c =
    let known = g.W.Write.contents c.write_all.new.self in
    let none = subst (λ bytes. Appends known known (encode_lower bytes)) (sym (none_of c.args.bytes.now (sym c.if-is_empty.ensures))) (appends_no_digits known) in
    appends_both _ _ _ _ _ _ (appends_both _ _ _ _ _ _ c.in_ok-write_hex_word.ensures c.in_ok-write_all.ensures.bytes refl) none refl
