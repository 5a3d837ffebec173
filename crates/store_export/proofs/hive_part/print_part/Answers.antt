use Rattle.std.proofs.Common.{ℕ, List, sym, subst}
use Rattle.key_walk.specs.KeyPaths.{names_on}
use Rattle.hive_records.specs.Images.{BinsEncodeTree}
use Rattle.store_export.proofs.FilePrints.{part_printed, part_refused}
use Rattle.store_export.proofs.hive_part.print_part.Goals as goal

pub returns-in-Ok : goal.returns-in-Ok
returns-in-Ok g c =
    let (tree, encodes, short) = c.in-Ok.ensures.encodes in
    part_printed c.args.request.now c.args.image.now.bytes c.args.minor _ _ c.args.at (names_on c.args.way.now) tree c.prefix.result.now c.print_keys.result encodes short c.prefix.ensures
    (c.print_keys.ensures tree (subst (λ (v : List ℕ × (ℕ × ℕ)). BinsEncodeTree v.0 v.1.0 v.1.1 tree) (sym c.in-Ok.ensures.judged) encodes))

pub returns-in-Err : goal.returns-in-Err
returns-in-Err g c =
    part_refused c.args.request.now c.args.image.now.bytes c.args.minor (g.W.Write.contents c.args.writer.now) c.args.at (names_on c.args.way.now) (Unit {0}) c.in-Err.error c.of_image.result c.in-Err.ensures.refused c.of_image.ensures
