use Rattle.std.specs.Prelude.{codes}
use Rattle.std.proofs.lemmas.Result.{on_ok_weaker}
use Rattle.reply_lines.proofs.Written.{appends_more}
use Rattle.store_check.specs.StoreTexts.{pages_text}
use Rattle.store_check.proofs.hive_lines.write_half_written.Goals as goal

pub returns : goal.returns
returns g c =
    let contents = g.W.Write.contents in
    on_ok_weaker c.write_pages.result (λ on. appends_more (contents c.args.writer.now) (contents c.write_all.new.self) (contents c.write_pages.new.writer) (codes ", half written") (pages_text c.args.pages) c.in_ok-write_all.ensures.bytes on) c.write_pages.ensures
