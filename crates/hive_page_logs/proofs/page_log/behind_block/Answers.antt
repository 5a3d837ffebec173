use Rattle.hive_page_logs.proofs.Read.{size_right}
use Rattle.hive_page_logs.proofs.page_log.behind_block.Goals as goal

pub marked_pages-requires-clause-size : goal.marked_pages-requires-clause-size
marked_pages-requires-clause-size c = size_right c.args.block.now c.requires.sound
