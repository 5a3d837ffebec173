use Rattle.std.proofs.Common.{◌≤◌, Ok, is_ok, sym, ap, subst, ◌∙◌}
use Rattle.base_block.specs.declared.block.TheConstants.{MINOR_VERSION}
use Rattle.refusals.specs.declared.limits.TheConstants.{MOST_WEIGHT}
use Rattle.reg_tree.specs.Maps.{TreeMap, weight}
use Rattle.reg_tree.specs.Operations.{tree_after}
use Rattle.hive_records.specs.Images.{BinsEncodeTree}
use Rattle.hive_load.specs.Limits.{BinsEncodeTreeInLimits}
use Rattle.hive_savepoint.specs.Savepoints.{SavedBytes}
use Rattle.hive_edit.proofs.CellChanges.{on_ok}
use Rattle.hive_edit.proofs.LoadedTrees.{judged_legal, legal_change, legal_here}
use Rattle.hive_edit.proofs.image_edit.edit.Goals as goal

pub edit_in_place-requires : goal.edit_in_place-requires
edit_in_place-requires c =
    let tree = c.in_ok-tree.tree in
    let encodes = c.in_ok-tree.ensures in
    record { stands = (tree, encodes, judged_legal tree c.args.op.now (legal_here c.args.image.now.bytes c.args.root.now c.args.op.now c.requires.stands tree encodes.0), c.of-presence.ensures) }

pub returns-in-Ok-Done-clause-stands : goal.returns-in-Ok-Done-clause-stands
returns-in-Ok-Done-clause-stands c = λ tree encodes.
    subst (λ bytes. BinsEncodeTree bytes c.args.root.now MINOR_VERSION (tree_after tree c.args.op.now c.args.moment)) (sym (ap (λ (s : SavedBytes). s.bytes) c.release.ensures.now))
    (c.edit_in_place.ensures.done (c.in-Ok-Done.is ∙ ap Ok c.in-Ok-Done.field-0-is) tree encodes)

pub rebuild-requires-clause-light : goal.rebuild-requires-clause-light
rebuild-requires-clause-light c =
    let tree = c.in_ok-tree.tree in
    let encodes = c.in_ok-tree.ensures in
    subst (λ t. weight t ≤ MOST_WEIGHT) (sym c.in_ok-after.ensures)
    (c.weights_stay.ensures.one tree (c.one_tree.ensures.is c.args.image.now.bytes c.args.root.now MINOR_VERSION tree encodes.0) c.args.op.now c.args.moment encodes.1.light
    (ap is_ok (legal_here c.args.image.now.bytes c.args.root.now c.args.op.now c.requires.stands tree encodes.0)))

pub returns-in-Ok-Rebuild-clause-stands : goal.returns-in-Ok-Rebuild-clause-stands
returns-in-Ok-Rebuild-clause-stands c =
    let bytes = c.args.image.now.bytes in
    let root = c.args.root.now in
    let op = c.args.op.now in
    let mine = c.in_ok-tree.tree in
    let encoded = c.in_ok-tree.ensures in
    on_ok c.rebuild.result (BinsEncodeTree c.rebuild.new.image.bytes c.rebuild.new.root MINOR_VERSION c.in_ok-after.after)
    ((tree : TreeMap) → BinsEncodeTreeInLimits bytes root MINOR_VERSION tree → BinsEncodeTree c.rebuild.new.image.bytes c.rebuild.new.root MINOR_VERSION (tree_after tree op c.args.moment))
    (λ made tree encodes.
    subst (λ t. BinsEncodeTree c.rebuild.new.image.bytes c.rebuild.new.root MINOR_VERSION t)
    (c.in_ok-after.ensures ∙ legal_change mine op c.args.moment (legal_here bytes root op c.requires.stands mine encoded.0)
    ∙ ap (λ t. tree_after t op c.args.moment) (c.one_tree.ensures.one bytes root MINOR_VERSION mine tree encoded.0 encodes.0)) made) c.rebuild.ensures.stands
