use Rattle.std.proofs.Common.{ℕ, List, Err, sym, subst}
use Rattle.reg_names.specs.Names.{folded, folded_path}
use Rattle.key_walk.specs.KeyPaths.{names_on}
use Rattle.key_walk.proofs.Subtrees.{empty_path}
use Rattle.store_export.specs.HivePrints.{AnswersPart}
use Rattle.store_export.proofs.FilePrints.{printed_below, step_refused}
use Rattle.store_export.proofs.hive_part.+print_below.Goals as goal

pub returns-in_default : goal.returns-in_default
returns-in_default g t c =
    subst (λ (path : List (List ℕ)). AnswersPart c.args.request.now c.args.image.now.bytes c.args.minor c.args.key (names_on c.args.way.now) (folded_path path) (g.W.Write.contents c.args.writer.now) (g.W.Write.contents c.print_part.new.writer) c.print_part.result)
    (sym (empty_path c.args.path.now c.in_default.ensures.cases)) c.print_part.ensures

pub returns-in-Ok : goal.returns-in-Ok
returns-in-Ok g t c =
    subst (λ (path : List (List ℕ)). AnswersPart c.args.request.now c.args.image.now.bytes c.args.minor c.args.key (names_on c.args.way.now) (folded_path path) (g.W.Write.contents c.args.writer.now) (g.W.Write.contents c.print_below.new.writer) c.print_below.result)
    (sym c.in-Some.ensures.cases.0)
    (printed_below c.args.request.now c.args.image.now.bytes c.args.minor _ _ c.args.key (names_on c.args.way.now) (folded c.in-Some.name.now) (folded_path c.in-Some.rest.now) c.in-Ok.subkey c.in-Ok.spelled c.print_below.result c.in-Ok.ensures c.print_below.ensures)

pub returns-in-Err : goal.returns-in-Err
returns-in-Err g t c =
    let known = g.W.Write.contents c.args.writer.now in
    subst (λ (path : List (List ℕ)). AnswersPart {T = Unit {0}} c.args.request.now c.args.image.now.bytes c.args.minor c.args.key (names_on c.args.way.now) (folded_path path) known known (Err c.of_lookup.result))
    (sym c.in-Some.ensures.cases.0)
    (step_refused c.args.request.now c.args.image.now.bytes c.args.minor known c.args.key (names_on c.args.way.now) (Unit {0}) (folded c.in-Some.name.now) (folded_path c.in-Some.rest.now) c.in-Err.error c.of_lookup.result c.in-Err.ensures c.of_lookup.ensures)
