use Rattle.std.proofs.Common.{inr}
use Rattle.std.proofs.lemmas.Result.{IfOk-weaker}
use Rattle.reg_names.specs.Names.{folded, folded_path}
use Rattle.store_values.specs.FileAnswers.{NotInFile, LacksValue}
use Rattle.store_values.proofs.FileLookups.{if_some_all, missing_told}
use Rattle.store_values.proofs.file_read.get_file_value.Goals as goal

pub returns-in-Err : goal.returns-in-Err
returns-in-Err g c = record {
  reports = IfOk-weaker c.print_missing.result _ _ (λ status told.
      if_some_all (g.R.Read.remaining c.args.reader.now) (λ file refused. inr refused)
      (missing_told (λ file. NotInFile file c.args.hive (λ split cells root. LacksValue split cells root (folded_path c.args.path.now) (folded c.args.name.now)))
      (g.R.Read.remaining c.args.reader.now) c.in-Err.error _ _ status c.in-Err.ensures.missing told)) c.print_missing.ensures;
}
