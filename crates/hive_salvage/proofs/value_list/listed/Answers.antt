use Rattle.std.proofs.Common.{◌≡◌, ◌*◌, ℕ, refl, subst, ap, ◌∙◌, arith}
use Rattle.std.specs.FinMap as finite
use Rattle.hive_cells.specs.Tiles.{u32_at}
use Rattle.hive_load_parts.specs.CellReads.{marks_of}
use Rattle.key_walk.specs.KeyPaths.{names_on}
use Rattle.hive_salvage.specs.Events.{Tells}
use Rattle.hive_salvage.specs.Readings.{ValueIs, ValuesAre}
use Rattle.hive_salvage.proofs.Telling.{silent, both, steps_next}
use Rattle.hive_salvage.proofs.value_list.listed.Goals as goal

pub loop-place-init : goal.loop-place-init
loop-place-init g c = record {
  covers = refl;
  steps = silent _ _ _ _ (g.met.S.SalvageSink.took_none _) (λ cells shows. (ap (λ v. (marks_of c.args.seen.now, v)) c.new-values.ensures, refl));
}

pub loop-place-preserved : goal.loop-place-preserved
loop-place-preserved g c = record {
  covers = c.in-Ok.ensures.covers ∙ c.loop-place.invariant.covers;
  steps = both _ g.met.S.SalvageSink.took_more _ _ _ _ _ _ _ c.loop-place.invariant.steps c.in-Ok.ensures.kept (λ cells shows first last before here.
      steps_next (λ place. ValueIs c.args.split cells (names_on c.args.path.now) place (u32_at c.args.list.now (4 * place))) c.loop-place.place _ _ _ first last before
      (subst (λ (at : ℕ). ValueIs c.args.split cells (names_on c.args.path.now) c.loop-place.place at (marks_of c.loop-place.seen, c.loop-place.values) (marks_of c.keep_value.new.seen, c.keep_value.new.values) last) c.u32_at-at.ensures here));
}

pub returns-clause-kept : goal.returns-clause-kept
returns-clause-kept g c =
    let all : c.loop-place.place ≡ c.args.room = omega (arith, c.loop-place-test.false, c.loop-place.auto.place-end) in
    subst (λ (n : ℕ). Tells g.S.SalvageSink.Took c.args.sink.now c.loop-place.sink c.args.image.now.bytes (λ cells told. ValuesAre c.args.split cells (names_on c.args.path.now) c.args.list.now n (marks_of c.args.seen.now, finite.empty) (marks_of c.loop-place.seen, c.loop-place.values) told)) all c.loop-place.invariant.steps
