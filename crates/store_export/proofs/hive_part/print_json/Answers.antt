use Rattle.std.proofs.Common.{rules}
use Rattle.store_export.proofs.FilePrints.{printed_by}
use Rattle.store_export.proofs.hive_part.print_json.Goals as goal

pub returns : goal.returns
returns g c = λ tree encodes. printed_by c.walk_part.result c.printed.result (λ done took. let lines = took.0 in let stays = took.2 in search rules) (c.walk_part.ensures tree encodes) c.printed.ensures
