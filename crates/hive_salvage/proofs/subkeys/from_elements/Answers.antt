use Rattle.std.proofs.Common.{◌≡◌, ◌*◌, ℕ, refl, subst, ◌∙◌, arith}
use Rattle.hive_cells.specs.Tiles.{u32_at}
use Rattle.hive_load_parts.specs.CellReads.{marks_of}
use Rattle.key_walk.specs.KeyPaths.{names_on}
use Rattle.hive_salvage.specs.Events.{Tells}
use Rattle.hive_salvage.specs.Salvage.{ListNames, SubkeyIs}
use Rattle.hive_salvage.proofs.Telling.{silent, both, steps_next}
use Rattle.hive_salvage.proofs.subkeys.from_elements.Goals as goal

pub loop-place-init : goal.loop-place-init
loop-place-init g c = record {
  covers = refl;
  steps = silent _ _ _ _ (g.met.S.SalvageSink.took_none _) (λ cells shows. (refl, refl));
}

pub loop-place-preserved : goal.loop-place-preserved
loop-place-preserved g c = record {
  covers = c.in-Ok.ensures.covers ∙ c.loop-place.invariant.covers;
  steps = both _ g.met.S.SalvageSink.took_more _ _ _ _ _ _ _ c.loop-place.invariant.steps c.in-Ok.ensures.kept (λ cells shows first last before here.
      steps_next (λ place. SubkeyIs cells (names_on c.args.path.now) c.args.leaf place (u32_at c.args.list.now.elements.now (c.args.list.now.stride * place))) c.loop-place.place _ _ _ first last before
      (subst (λ (at : ℕ). SubkeyIs cells (names_on c.args.path.now) c.args.leaf c.loop-place.place at (marks_of c.loop-place.seen, c.loop-place.siblings.items) (marks_of c.keep_subkey.new.seen, c.keep_subkey.new.siblings.items) last) c.u32_at-at.ensures here));
}

pub returns-clause-kept : goal.returns-clause-kept
returns-clause-kept g c =
    let all : c.loop-place.place ≡ c.args.list.now.count = omega (arith, c.loop-place-test.false, c.loop-place.auto.place-end) in
    subst (λ (n : ℕ). Tells g.S.SalvageSink.Took c.args.sink.now c.loop-place.sink c.args.image.now.bytes (λ cells told. ListNames cells (names_on c.args.path.now) c.args.leaf c.args.list.now n (marks_of c.args.seen.now, c.args.siblings.now.items) (marks_of c.loop-place.seen, c.loop-place.siblings.items) told)) all c.loop-place.invariant.steps
