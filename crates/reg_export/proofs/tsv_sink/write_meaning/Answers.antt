use Rattle.std.proofs.Common.{sym, subst, ap, ◌∙◌}
use Rattle.std.specs.Io.KnownBytes.{Appends}
use Rattle.key_walk.proofs.Rows.{on_ok}
use Rattle.reg_export.specs.ByteUnits.{units_of}
use Rattle.reg_export.specs.Meanings.{meant}
use Rattle.reg_export.specs.TsvTexts.{tsv_meaning}
use Rattle.reg_export.proofs.Texts.{tsv_parted}
use Rattle.reg_export.proofs.tsv_sink.write_meaning.Goals as goal

pub returns-in-Texts : goal.returns-in-Texts
returns-in-Texts g c = on_ok c.write_byte_units-in-Texts.result (subst (Appends (g.W.Write.contents c.args.writer.now) (g.W.Write.contents c.write_byte_units-in-Texts.new.writer))
    (sym (tsv_parted (units_of c.in-Texts.bytes.now)) ∙ ap (λ m. tsv_meaning (meant m)) (sym c.in-Texts.is))) c.write_byte_units-in-Texts.ensures
