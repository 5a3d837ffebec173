use Rattle.std.proofs.Common.{◌≡◌, ◌∙◌, ◌+◌, suc, ◌++◌, ◌∷◌, [], List, map, take, sym, ap, subst, arith}
use Rattle.std.proofs.lemmas.List.{map-append}
use Rattle.reg_tree.specs.Maps.{TreeMap}
use Rattle.reg_tree.specs.Sequences.{AreTrees}
use Rattle.commit_journal.proofs.Namings.{at_place, take_more}
use Rattle.hive_flush.specs.HiveStates.{memory_of}
use Rattle.hive_flush.specs.declared.hive.HiveFile.{HiveFile}
use Rattle.recovery.proofs.Together.{trees_pushed}
use Rattle.recovery.proofs.replay.trees_of.Goals as goal

pub loop-hive-preserved : goal.loop-hive-preserved
loop-hive-preserved c =
    let l = c.loop-hive in
    let i = l.invariant in
    let hives = c.args.hives.now in
    let hive = c.hive-item.result in
    let next : l.hive-index + 1 ≡ suc l.hive-index = omega arith in
    let more : take (l.hive-index + 1) hives ≡ take l.hive-index hives ++ hive ∷ [] = ap (λ n. take n hives) next ∙ take_more l.hive-index hives hive (at_place hives l.hive-index hive (omega (arith, c.loop-hive-test.true)) c.hive-item.is) in
    let tree : c.in_ok-tree.tree ≡ (memory_of hive).0 = c.in_ok-tree.ensures ∙ c.tree.ensures in
    record {
      trees = c.push_reserved.ensures.items ∙ ap (λ (ts : List TreeMap). ts ++ c.in_ok-tree.tree ∷ []) i.trees ∙ ap (λ (t : TreeMap). map (λ (h : HiveFile). (memory_of h).0) (take l.hive-index hives) ++ t ∷ []) tree
          ∙ sym (ap (map (λ (h : HiveFile). (memory_of h).0)) more ∙ map-append (λ (h : HiveFile). (memory_of h).0) (take l.hive-index hives) (hive ∷ []));
      room = omega (arith, i.room, c.push_reserved.ensures.capacity);
      are = subst AreTrees (sym c.push_reserved.ensures.items) (trees_pushed l.trees.items c.in_ok-tree.tree i.are c.root.ensures.tree);
    }
