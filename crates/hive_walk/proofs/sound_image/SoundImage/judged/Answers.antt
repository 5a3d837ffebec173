use Rattle.std.proofs.Common.{refl}
use Rattle.hive_tree_model.specs.Trees.{tree_of}
use Rattle.hive_records.specs.Images.{splits}
use Rattle.hive_walk.proofs.Judged.{whole_refused}
use Rattle.hive_walk.proofs.ShortPaths.{short_paths}
use Rattle.hive_walk.proofs.sound_image.SoundImage.judged.Goals as goal

pub invariant_of-result : goal.invariant_of-result
invariant_of-result c =
    let shown = c.tiles.ensures.shown in
    let (parts, below, sound) = c.in-Ok.ensures.stands shown.0 shown.1 in
    (shown.0, shown.1, parts, below, sound, (c.tiles.ensures.tiles, shown.0, shown.1, (parts, below, sound.whole, refl, sound.apart)))

pub returns-in-Ok-clause-encodes : goal.returns-in-Ok-clause-encodes
returns-in-Ok-clause-encodes c =
    let shown = c.tiles.ensures.shown in
    let (parts, below, sound) = c.in-Ok.ensures.stands shown.0 shown.1 in (
      tree_of parts below,
      (c.tiles.ensures.tiles, shown.0, shown.1, (parts, below, sound.whole, refl, sound.apart)),
      short_paths (splits c.args.minor) shown.0 c.args.root parts below sound,
    )

pub returns-in-Err-clause-refused : goal.returns-in-Err-clause-refused
returns-in-Err-clause-refused c = whole_refused c.args.image.now.bytes c.args.root c.args.minor c.in-Err.error c.in-Err.ensures.refused
