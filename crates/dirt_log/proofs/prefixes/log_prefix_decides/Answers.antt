use Rattle.dirt_log.proofs.Needed.{block_same, marked_same, bitmap_same, whole_same, bytes_same}
use Rattle.dirt_log.proofs.prefixes.log_prefix_decides.Goals as goal

pub returns-clause-block : goal.returns-clause-block
returns-clause-block c = block_same

pub returns-clause-marked : goal.returns-clause-marked
returns-clause-marked c = marked_same

pub returns-clause-bitmap : goal.returns-clause-bitmap
returns-clause-bitmap c = λ log n h. bitmap_same log _ n h

pub returns-clause-whole : goal.returns-clause-whole
returns-clause-whole c = whole_same

pub returns-clause-pages : goal.returns-clause-pages
returns-clause-pages c = bytes_same
