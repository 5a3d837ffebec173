use Rattle.std.proofs.Common.{refl, arith}
use Rattle.hive_tree_model.specs.Trees.{tree_of}
use Rattle.hive_records.specs.Images.{splits}
use Rattle.key_walk.specs.KeyPaths.{names_on}
use Rattle.hive_walk.proofs.Judged.{part_refused}
use Rattle.hive_walk.proofs.ShortPaths.{short_below, sound_on_more}
use Rattle.hive_walk.proofs.sound_image.SoundImage.part_judged.Goals as goal

pub invariant_of-result : goal.invariant_of-result
invariant_of-result c =
    let shown = c.tiles.ensures.shown in
    let (parts, below, sound) = c.in-Ok.ensures.stands shown.0 shown.1 in
    (shown.0, shown.1, parts, below, sound_on_more (splits c.args.minor) shown.0 _ 512 c.args.at parts below (omega arith) sound, (c.tiles.ensures.tiles, shown.0, shown.1, (parts, below, sound.whole, refl, sound.apart)))

pub returns-in-Ok-clause-encodes : goal.returns-in-Ok-clause-encodes
returns-in-Ok-clause-encodes c =
    let shown = c.tiles.ensures.shown in
    let (parts, below, sound) = c.in-Ok.ensures.stands shown.0 shown.1 in
    let depth = c.depth_of-levels.ensures in
    let short = c.requires in (
      tree_of parts below,
      (c.tiles.ensures.tiles, shown.0, shown.1, (parts, below, sound.whole, refl, sound.apart)),
      short_below (splits c.args.minor) shown.0 (names_on c.args.path.now) _ c.args.at parts below (omega (arith, depth, short)) sound,
    )

pub returns-in-Err-clause-refused : goal.returns-in-Err-clause-refused
returns-in-Err-clause-refused c =
    let depth = c.depth_of-levels.ensures in
    part_refused c.args.image.now.bytes c.args.at c.args.minor _ (names_on c.args.path.now) c.in-Err.error (omega (arith, depth)) c.in-Err.ensures.refused
