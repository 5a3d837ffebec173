use Rattle.std.proofs.Common.{◌∙◌, inl, inr, sym, subst, arith, refl, map}
use Rattle.std.proofs.lemmas.Bool.{cases_eq}
use Rattle.engine_invariant.specs.Idle.{HiveIsFlushed}
use Rattle.engine_invariant.specs.Prefixes.{view_of}
use Rattle.engine.specs.EarlierChanges.{changes_before}
use Rattle.engine.proofs.parts.Parts.first_with_work.Goals as goal

pub loop-hive-preserved : goal.loop-hive-preserved
loop-hive-preserved g c = λ i low high.
    let s = c.args.self.now in
    elim (cases_eq i c.loop-hive.hive) as (λ z. HiveIsFlushed s.store.machine s.base (changes_before s.earlier) (map view_of s.hives.items) i) [
      | inl e ↦ subst (λ n. HiveIsFlushed s.store.machine s.base (changes_before s.earlier) (map view_of s.hives.items) n) (c.from.ensures ∙ sym e) (c.if-has_work.ensures.0 refl)
      | inr ne ↦ c.loop-hive.invariant i low (omega (arith, high, ne))
    ]

pub returns-clause-none : goal.returns-clause-none
returns-clause-none g c = λ i low high. c.loop-hive.invariant i low (omega (arith, high, c.loop-hive-test.false))
