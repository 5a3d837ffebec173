use Rattle.std.proofs.Common.{◌≡◌, true, false}
use Rattle.script_syntax.proofs.Uuids.{is_read, is_none}
use Rattle.script_syntax.proofs.word_parser.uuid.Goals as goal

pub returns-in-Ok : goal.returns-in-Ok
returns-in-Ok c = is_read c.args.word.now c.in-Ok.id c.in-Ok.ensures.bytes

refused : false ≡ true → ⊥
refused bad = cc

pub returns-in-Err : goal.returns-in-Err
returns-in-Err c = is_none c.args.word.now (λ found. refused (c.in-Err.ensures.ok.1 found))
