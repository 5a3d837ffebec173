use Rattle.std.proofs.Common.{ℕ, List, OnOk, IfErr, subst}
use Rattle.reg_tree.specs.Maps.{TreeMap}
use Rattle.hive_records.specs.Images.{BinsEncodeTree}
use Rattle.key_walk.specs.KeyRows.{tree_rows}
use Rattle.hive_walk.specs.Walks.{HasShortPaths}
use Rattle.hive_walk.proofs.Walked.{no_fault}
use Rattle.hive_walk.proofs.sound_image.walk_hive.Goals as goal

pub returns-in-Ok-clause-took : goal.returns-in-Ok-clause-took
returns-in-Ok-clause-took g c =
    subst (λ (v : List ℕ × (ℕ × ℕ)). OnOk c.walk.result ((tree : TreeMap) × BinsEncodeTree v.0 v.1.0 v.1.1 tree × HasShortPaths tree × g.S.KeySink.Took c.args.sink.now c.walk.new.sink (tree_rows tree))) c.in-Ok.ensures.judged c.walk.ensures.took

pub returns-in-Ok-clause-refused : goal.returns-in-Ok-clause-refused
returns-in-Ok-clause-refused g c =
    no_fault c.args.image.now.bytes c.args.root c.args.minor c.walk.result c.walk.ensures.refused
    (subst (λ (v : List ℕ × (ℕ × ℕ)). IfErr c.walk.result (λ _. (tree : TreeMap) × BinsEncodeTree v.0 v.1.0 v.1.1 tree)) c.in-Ok.ensures.judged c.walk.ensures.encodes)
