use Rattle.hive_flush.specs.HiveStates.{tree_after_changes}
use Rattle.crash_model.specs.Changes.{ops_on}
use Rattle.change_codec.specs.ModelChanges.{timed_elements}
use Rattle.hive_flush.proofs.Legal.{legal_within}
use Rattle.hive_flush.proofs.application.legal_is_light.Goals as goal

pub returns : goal.returns
returns c = λ hive changes legal.
    let tree = c.args.tree.now in
    legal_within c.weights_stay.ensures.one c.trees_stay.ensures.one (ops_on hive (timed_elements changes)) tree (tree_after_changes hive changes tree) c.root.ensures.tree c.requires legal
