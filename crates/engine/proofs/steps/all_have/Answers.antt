use Rattle.std.proofs.Common.{◌≡◌, ◌∙◌, ◌≤◌, inl, inr, get_or, sym, ap, subst, arith, Some, slice_get}
use Rattle.std.proofs.lemmas.Bool.{cases_eq}
use Rattle.std.proofs.lemmas.Option.{same_Some, slice_get_within, slice_get-get_or}
use Rattle.hive_flush.specs.HiveStates.{file_choice}
use Rattle.hive_flush.specs.declared.hive.HiveFile.{HiveFile}
use Rattle.engine.proofs.Sound.{at_place, same_hive}
use Rattle.engine.proofs.steps.all_have.Goals as goal

pub returns-then-applied-last-clause-some : goal.returns-then-applied-last-clause-some
returns-then-applied-last-clause-some c = λ e.
    let place = c.loop-place.place in
    let lt = c.loop-place-test.true in (
      place,
      get_or c.args.last.now place 0,
      c.index-hives-place.result,
      at_place c.args.hives.now place c.index-hives-place.result (omega (arith, lt)) c.index-hives-place.is,
      slice_get-get_or c.args.last.now place 0 (omega (arith, lt, c.requires.many)),
      omega (arith, c.if-applied-last.true, c.applied.ensures),
    )

pub loop-place-preserved : goal.loop-place-preserved
loop-place-preserved c = λ i m hive lt there named.
    let place = c.loop-place.place in
    let within = c.loop-place-test.true in
    let its = at_place c.args.hives.now place c.index-hives-place.result (omega (arith, within)) c.index-hives-place.is in
    let number = slice_get-get_or c.args.last.now place 0 (omega (arith, within, c.requires.many)) in
    elim (cases_eq i place) as (λ z. m ≤ (file_choice hive).now.1) [
      | inl e ↦
          let same = same_hive c.args.hives.now i hive c.index-hives-place.result there (subst (λ n. slice_get c.args.hives.now n ≡ Some c.index-hives-place.result) (sym e) its) in
          let told = same_Some m (get_or c.args.last.now place 0) (sym named ∙ subst (λ n. slice_get c.args.last.now n ≡ Some (get_or c.args.last.now place 0)) (sym e) number) in
          omega (arith, told, c.if-applied-last.false, c.applied.ensures, ap (λ (h : HiveFile). (file_choice h).now.1) same)
      | inr ne ↦ c.loop-place.invariant i m hive (omega (arith, lt, ne)) there named
    ]

pub returns-clause-all : goal.returns-clause-all
returns-clause-all c = λ e i m hive there named. c.loop-place.invariant i m hive (let lt = slice_get_within c.args.hives.now i hive there in omega (arith, lt, c.loop-place-test.false)) there named
