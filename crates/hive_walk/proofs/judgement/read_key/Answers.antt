use Rattle.std.proofs.Common.{sym, ◌∙◌}
use Rattle.hive_load_parts.specs.CellReads.{marks_of}
use Rattle.key_walk.specs.KeyPaths.{names_on}
use Rattle.hive_walk.proofs.Judged.{read_refused}
use Rattle.hive_walk.proofs.judgement.read_key.Goals as goal

pub returns-in-Err-clause-answers : goal.returns-in-Err-clause-answers
returns-in-Err-clause-answers c = λ cells shows. read_refused c.args.split cells c.args.at (marks_of c.args.seen.now) (marks_of c.key.new.seen) c.in-Err.refusal (names_on c.args.above.now) c.refused_at.result (c.in-Err.ensures.reads cells shows) c.refused_at.ensures

pub returns-clause-answers : goal.returns-clause-answers
returns-clause-answers c = λ cells shows. (c.in-Ok.read.0, sym (c.in_ok-name.ensures ∙ c.name.ensures), c.in-Ok.ensures.reads cells shows, c.in-Ok.ensures.keeps cells shows)
