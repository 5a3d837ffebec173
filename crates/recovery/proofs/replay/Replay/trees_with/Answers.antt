use Rattle.std.proofs.Common.{◌≡◌, ◌∙◌, ◌∷◌, [], List, get_or, length, sym, ap, subst, arith, length-append, slice_get, Some}
use Rattle.reg_tree.specs.Maps.{TreeMap}
use Rattle.reg_tree.specs.Sequences.{AreTrees}
use Rattle.crash_model.specs.Changes.{replay}
use Rattle.change_codec.specs.ModelChanges.{tree_rules}
use Rattle.engine_invariant.proofs.HiveLists.{each_pushed}
use Rattle.commit_journal.specs.Numbered.{NumberedChange}
use Rattle.recovery.specs.Replays.{ops_lacked}
use Rattle.recovery.proofs.Together.{trees_pushed}
use Rattle.recovery.proofs.replay.Replay.trees_with.Goals as goal

pub loop-hive-init : goal.loop-hive-init
loop-hive-init c = record {
  many = ap (λ (l : List TreeMap). length l) c.in_ok-made.ensures.items;
  room = omega (arith, c.in_ok-made.ensures.capacity, c.args.self.now.all, c.len.ensures);
  are = subst AreTrees (sym c.in_ok-made.ensures.items) (λ i tree is. absurd cc);
  each = λ i was is at got. absurd (cc (ap (λ (l : List TreeMap). slice_get l i) (sym c.in_ok-made.ensures.items) ∙ got));
}

pub loop-hive-preserved : goal.loop-hive-preserved
loop-hive-preserved c =
    let l = c.loop-hive in
    let i = l.invariant in
    let s = c.args.self.now in
    let change : NumberedChange = (c.args.number, c.args.change.now) in
    record {
      many = ap (λ (l : List TreeMap). length l) c.push_reserved.ensures.items ∙ length-append l.made.items (c.in_ok-tree.tree ∷ []) ∙ omega (arith, i.many);
      room = omega (arith, i.room, c.push_reserved.ensures.capacity);
      are = subst AreTrees (sym c.push_reserved.ensures.items) (trees_pushed l.made.items c.in_ok-tree.tree i.are c.in_ok-tree.ensures.tree);
      each = λ j was is at got.
          each_pushed l.made.items c.in_ok-tree.tree (λ k t. (w : TreeMap) → slice_get s.trees.items k ≡ Some w → replay tree_rules (ops_lacked k (get_or s.numbers.items k 0) (change ∷ [])) w ≡ Some t)
          (λ k t there w before. i.each k w t before there)
          (subst (λ n. (w : TreeMap) → slice_get s.trees.items n ≡ Some w → replay tree_rules (ops_lacked n (get_or s.numbers.items n 0) (change ∷ [])) w ≡ Some c.in_ok-tree.tree) (sym i.many) c.in_ok-tree.ensures.made)
          j is (ap (λ (x : List TreeMap). slice_get x j) (sym c.push_reserved.ensures.items) ∙ got) was at;
    }
