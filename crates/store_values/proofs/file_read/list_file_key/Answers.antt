use Rattle.std.proofs.Common.{ℕ, List, inl, inr, subst}
use Rattle.std.specs.FinMap as finite
use Rattle.std.specs.Io.KnownBytes.{Appends}
use Rattle.std.proofs.lemmas.Result.{IfOk-weaker}
use Rattle.reg_names.specs.Names.{folded_path}
use Rattle.store_values.specs.Answers.{key_lines}
use Rattle.store_values.specs.FileAnswers.{NotInFile, LacksKey}
use Rattle.store_values.proofs.FileLookups.{if_some_all, missing_told}
use Rattle.store_values.proofs.file_read.list_file_key.Goals as goal

pub returns-in-Err : goal.returns-in-Err
returns-in-Err g c = record {
  reports = IfOk-weaker c.print_missing.result _ _ (λ status told.
      if_some_all (g.R.Read.remaining c.args.reader.now) (λ file refused. inr refused)
      (missing_told (λ file. NotInFile file c.args.hive (λ split cells root. LacksKey split cells root (folded_path c.args.path.now)))
      (g.R.Read.remaining c.args.reader.now) c.in-Err.error _ _ status c.in-Err.ensures.missing told)) c.print_missing.ensures;
}

pub returns-in_ok-print_key-in-Ok : goal.returns-in_ok-print_key-in-Ok
returns-in_ok-print_key-in-Ok g c = record {
  reports = if_some_all (g.R.Read.remaining c.args.reader.now) (λ file its. inl (
    c.in-Ok.found.0.items,
    c.in-Ok.found.1,
    its,
    subst (λ (names : List (List ℕ)). Appends (g.W.Write.contents c.args.writer.now) (g.W.Write.contents c.print_key.new.writer) (key_lines names (finite.values c.in-Ok.found.1.values))) c.deref.ensures.value c.in_ok-print_key-in-Ok.ensures.0,
    c.in_ok-print_key-in-Ok.ensures.1,
  )) c.in-Ok.ensures.found;
}
