use Rattle.std.proofs.Common.{List, ℕ, subst}
use Rattle.hive_check.specs.BlockTexts.{written_line}
use Rattle.std.specs.Io.KnownBytes.{Appends}
use Rattle.hive_check.proofs.Texts.{moment_written, on_ok}
use Rattle.hive_check.proofs.block_text.write_moment.Goals as goal

pub returns-in-Some : goal.returns-in-Some
returns-in-Some g c =
    let contents = g.W.Write.contents in
    on_ok c.write_written.result
    (λ written. moment_written c.args.time c.in-Some.text.bytes _ _ c.in-Some.ensures
    (subst (λ (text : List ℕ). Appends (contents c.args.writer.now) (contents c.write_written.new.writer) (written_line text)) c.as_str.ensures.value written))
    c.write_written.ensures
