use Rattle.hive_records.specs.Lists.{subkeys_at}
use Rattle.hive_load_parts.specs.CellReads.{marks_of}
use Rattle.hive_lookup.proofs.Unread.{refused_unread}
use Rattle.hive_lookup.proofs.lists.subkey_offsets.Goals as goal

pub returns-in-Ok : goal.returns-in-Ok
returns-in-Ok c = λ cells shows. (c.in-Ok.ensures.reads cells shows).0

pub returns : goal.returns
returns c = λ cells shows. refused_unread (subkeys_at c.args.count c.args.at) cells (marks_of c.in_ok-seen.seen) (marks_of c.subkey_list.new.seen) c.in-Err.refusal c.in_ok-seen.ensures.unset (c.in-Err.ensures.reads cells shows)
