use Rattle.crash_model.proofs.ClausesSuffice.{journal_step, trim_step, flusher_step, may_follow, trim_test, last_naming, may_absorb, absorbed}
use Rattle.crash_model.proofs.clauses_suffice.Goals as goal

pub returns : goal.returns
returns g c = record {
  journal = λ r most hives answer old new kept step. journal_step r most hives answer old new kept step;
  trim = λ r most hives answer old new kept step. trim_step r most hives answer old new kept step;
  flusher = λ r most hives answer hive memory old new kept step. flusher_step r most hives answer hive memory old new kept step;
  may_follow = λ r most hives s kept. may_follow r most hives s kept;
  trim_test = λ r most hives s kept. trim_test r most hives s kept;
  last_naming = λ life i hi m is k. last_naming life i hi m is k;
  may_absorb = λ r s i memory upto fits low high. may_absorb r 0 0 s i memory upto fits low high;
  absorb = λ r s i memory upto t fits low high h. absorbed r 0 0 s i memory upto t fits low high h;
}
