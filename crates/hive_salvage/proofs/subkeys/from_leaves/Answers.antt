use Rattle.std.proofs.Common.{◌≡◌, ◌+◌, ◌*◌, ℕ, subst, ◌∙◌, arith}
use Rattle.hive_cells.specs.Tiles.{u32_at}
use Rattle.hive_load_parts.specs.CellReads.{marks_of}
use Rattle.key_walk.specs.KeyPaths.{names_on}
use Rattle.hive_salvage.specs.Events.{Tells}
use Rattle.hive_salvage.specs.Salvage.{LeafIs, LeavesAre}
use Rattle.hive_salvage.proofs.Telling.{both, steps_next}
use Rattle.hive_salvage.proofs.subkeys.from_leaves.Goals as goal

pub loop-leaf-preserved : goal.loop-leaf-preserved
loop-leaf-preserved g c = record {
  covers = c.in-Ok.ensures.covers ∙ c.loop-leaf.invariant.covers;
  few = omega (arith, c.loop-leaf.invariant.few, c.in-Ok.ensures.few);
  steps = both _ g.met.S.SalvageSink.took_more _ _ _ _ _ _ _ c.loop-leaf.invariant.steps c.in-Ok.ensures.kept (λ cells shows first last before here.
      steps_next (λ leaf. LeafIs cells (names_on c.args.path.now) leaf (u32_at c.args.list.now.elements.now (c.args.list.now.stride * leaf))) c.loop-leaf.leaf _ _ _ first last before
      (subst (λ (at : ℕ). LeafIs cells (names_on c.args.path.now) c.loop-leaf.leaf at ((marks_of c.loop-leaf.seen, c.loop-leaf.siblings.items), c.loop-leaf.listed) ((marks_of c.from_leaf.new.seen, c.from_leaf.new.siblings.items), c.loop-leaf.listed + c.in-Ok.count) last) c.u32_at-at.ensures (here c.loop-leaf.listed)));
}

pub returns-clause-kept : goal.returns-clause-kept
returns-clause-kept g c =
    let all : c.loop-leaf.leaf ≡ c.args.list.now.count = omega (arith, c.loop-leaf-test.false, c.loop-leaf.auto.leaf-end) in
    subst (λ (n : ℕ). Tells g.S.SalvageSink.Took c.args.sink.now c.loop-leaf.sink c.args.image.now.bytes (λ cells told. LeavesAre cells (names_on c.args.path.now) c.args.list.now n ((marks_of c.args.seen.now, c.args.siblings.now.items), 0) ((marks_of c.loop-leaf.seen, c.loop-leaf.siblings.items), c.loop-leaf.listed) told)) all c.loop-leaf.invariant.steps
