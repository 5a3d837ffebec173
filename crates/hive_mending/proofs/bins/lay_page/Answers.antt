use Rattle.hive_mending.proofs.Mended.{page_laid}
use Rattle.hive_mending.proofs.bins.lay_page.Goals as goal

pub returns-clause-page : goal.returns-clause-page
returns-clause-page c =
    (page_laid c.args.bytes.now c.put_u32.new.bytes c.put_u32-2.new.bytes c.put_u32-3.new.bytes c.put_free.new.bytes c.args.at
    c.put_u32.ensures.put c.put_u32.ensures.others c.put_u32-2.ensures.put c.put_u32-2.ensures.others c.put_u32-3.ensures.put c.put_u32-3.ensures.others
    c.put_free.ensures.size c.put_free.ensures.free c.put_free.ensures.others).0
