use Rattle.std.proofs.Common.{◌≡◌, ◌+◌, List, ◌∷◌, drop, sym, ap, ◌∙◌}
use Rattle.std.proofs.lemmas.List.{drop_more}
use Rattle.crash_model.specs.Changes.{applied, ops_on}
use Rattle.reg_tree.specs.declared.element.Element.{Element}
use Rattle.change_codec.specs.ModelChanges.{tree_rules, timed_elements}
use Rattle.hive_flush.proofs.Replayed.{change_here}
use Rattle.hive_flush.proofs.change_replay.replay_changes.Goals as goal

pub loop-change-preserved : goal.loop-change-preserved
loop-change-preserved c =
    let hive = c.args.hive in
    let changes = c.args.changes.now in
    let change = c.change-item.result in
    let rest = drop (c.loop-change.change-index + 1) changes in
    let next : drop c.loop-change.change-index changes ≡ change ∷ rest = drop_more changes c.loop-change.change-index change c.loop-change-test.true ∙ ap (λ (x : Element). x ∷ rest) (sym c.change-item.is) in
    let before : applied tree_rules (ops_on hive (timed_elements (change ∷ rest))) c.loop-change.made.tree ≡ applied tree_rules (ops_on hive (timed_elements changes)) c.args.start.tree =
    sym (ap (λ (l : List Element). applied tree_rules (ops_on hive (timed_elements l)) c.loop-change.made.tree) next) ∙ c.loop-change.invariant.tree in
    record {
      tree = sym (change_here hive change rest c.loop-change.made.tree c.in_ok-made.made.tree c.in_ok-made.ensures.tree) ∙ before;
      encodes = c.in_ok-made.ensures.encodes;
      saved = c.after_change.ensures.saved ∙ c.loop-change.invariant.saved;
    }
