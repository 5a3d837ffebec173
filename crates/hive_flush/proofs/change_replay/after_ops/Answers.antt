use Rattle.std.proofs.Common.{◌≡◌, ◌+◌, List, ◌∷◌, drop, map, sym, ap, ◌∙◌}
use Rattle.std.proofs.lemmas.List.{drop_more}
use Rattle.crash_model.specs.Changes.{applied, on_hive}
use Rattle.reg_tree.specs.declared.op.Op.{Op}
use Rattle.change_codec.specs.ModelChanges.{tree_rules, timed}
use Rattle.hive_savepoint.specs.Savepoints.{SavedBytes}
use Rattle.hive_flush.specs.declared.change_replay.Replay.{Replay}
use Rattle.hive_flush.proofs.Editing.{encodes_same}
use Rattle.hive_flush.proofs.Replayed.{op_here, op_elsewhere}
use Rattle.hive_flush.proofs.change_replay.after_ops.Goals.{then-hive+in_ok-made, else-hive}
use Rattle.hive_flush.proofs.change_replay.after_ops.Goals as goal

pub loop-op-preserved : goal.loop-op-preserved
loop-op-preserved c =
    let hive = c.args.hive in
    let moment = c.args.moment in
    let ops = c.args.ops.now in
    let op = c.op-item.result in
    let old = c.loop-op in
    let rest = drop (old.op-index + 1) ops in
    let next : drop old.op-index ops ≡ op ∷ rest = drop_more ops old.op-index op c.loop-op-test.true ∙ ap (λ (x : Op). x ∷ rest) (sym c.op-item.is) in
    let before : applied tree_rules (on_hive hive (map (timed moment) (op ∷ rest))) old.made.tree ≡ applied tree_rules (on_hive hive (map (timed moment) ops)) c.args.start.tree =
    sym (ap (λ (l : List Op). applied tree_rules (on_hive hive (map (timed moment) l)) old.made.tree) next) ∙ old.invariant.tree in
    elim c.if-hive.branch [
      | then-hive+in_ok-made w ↦ record {
        tree = sym (op_here hive moment op rest old.made.tree c.if-hive.made.tree (sym c.hive.ensures ∙ w.if-hive.true) (ap (λ (r : Replay). r.tree) w.made-is ∙ w.in_ok-made.ensures.tree)) ∙ before;
        encodes = encodes_same w.in_ok-made.made c.if-hive.made w.after_op.new.image c.if-hive.image c.args.root w.made-is w.image-is w.in_ok-made.ensures.encodes;
        saved = ap (λ (i : SavedBytes). i.saved) w.image-is ∙ w.after_op.ensures.saved ∙ old.invariant.saved;
      }
      | else-hive w ↦ record {
        tree = ap (λ (r : Replay). applied tree_rules (on_hive hive (map (timed moment) rest)) r.tree) w.made-is
            ∙ sym (op_elsewhere hive moment op rest old.made.tree (λ e. w.if-hive.false (c.hive.ensures ∙ e))) ∙ before;
        encodes = encodes_same old.made c.if-hive.made old.image c.if-hive.image c.args.root w.made-is w.image-is old.invariant.encodes;
        saved = ap (λ (i : SavedBytes). i.saved) w.image-is ∙ old.invariant.saved;
      }
    ]
