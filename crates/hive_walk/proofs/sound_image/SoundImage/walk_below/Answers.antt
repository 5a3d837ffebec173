use Rattle.std.proofs.Common.{ℕ, List, subst}
use Rattle.hive_tree_model.specs.Trees.{tree_of}
use Rattle.hive_records.specs.Images.{splits, BinsEncodeTree}
use Rattle.key_walk.specs.KeyPaths.{names_on}
use Rattle.key_walk.specs.KeyRows.{NamedRow}
use Rattle.key_walk.proofs.Rows.{on_ok}
use Rattle.hive_walk.proofs.Walked.{part_rows, only_ok, only_err}
use Rattle.hive_walk.proofs.sound_image.SoundImage.walk_below.Goals as goal

pub returns-clause-took : goal.returns-clause-took
returns-clause-took g c =
    let (cells, shows, parts, below, sound, encodes) = c.self.invariant in
    on_ok c.walk_judged.result (λ took. (
      tree_of parts below,
      subst (λ (v : List ℕ × (ℕ × ℕ)). BinsEncodeTree v.0 v.1.0 v.1.1 (tree_of parts below)) c.self.view_is encodes,
      subst (λ (rows : List NamedRow). g.S.KeySink.Took c.args.sink.now c.walk_judged.new.sink rows) (part_rows (splits c.self.inside.minor) cells 512 c.self.inside.root parts below sound (names_on c.args.path.now)) took,
    )) (only_ok _ _ c.walk_judged.result (c.walk_judged.ensures cells shows parts below sound))

pub returns-clause-refused : goal.returns-clause-refused
returns-clause-refused g c =
    let (cells, shows, parts, below, sound, encodes) = c.self.invariant in
    only_err _ _ c.walk_judged.result (c.walk_judged.ensures cells shows parts below sound)
