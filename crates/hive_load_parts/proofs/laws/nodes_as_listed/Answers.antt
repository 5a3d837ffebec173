use Rattle.hive_load_parts.proofs.Listed.{listed_rows, listed_more, listed_names}
use Rattle.hive_load_parts.proofs.laws.nodes_as_listed.Goals as goal

pub returns : goal.returns
returns c = record {
  rows = λ nodes keys h. listed_rows nodes keys h;
  more = λ nodes keys at parts below node h is. listed_more nodes keys at parts below node h is;
  names = λ nodes keys h. listed_names nodes keys h;
}
