use Rattle.std.proofs.Common.{◌≡◌, ◌+◌, ◌∙◌, ℕ, List, sym, subst, take, get_or, refl, inl, inr, Option}
use Rattle.std.proofs.lemmas.List.{take_all}
use Rattle.reg_names.specs.Names.{folded}
use Rattle.hive_lookup.specs.Records.{AreRecords, offsets_named}
use Rattle.hive_lookup.specs.Lookups.{ListBreaks, one_or_none}
use Rattle.hive_lookup.proofs.Searches.{tells, in_list, none_yet, records_more, named_same, named_first, named_twice}
use Rattle.hive_lookup.proofs.search.one_named.Goals as goal
use Rattle.hive_lookup.proofs.search.one_named.Goals.{then-same+else-is_some, else-same}

pub returns-in-Err : goal.returns-in-Err
returns-in-Err c = λ cells shows.
    tells ⊥ (ListBreaks c.args.kind cells c.args.key (folded c.args.name.now) c.args.listed.now) (get_or c.args.listed.now c.loop-at.at-index 0) c.in-Err.refusal c.refused_at.result c.refused_at.ensures
    (elim (c.in-Err.ensures cells shows) [ inl e ↦ inl e | inr e ↦ inr (inl (in_list c.args.listed.now c.loop-at.at-index c.loop-at-test.true, e)) ])

pub returns-then-is_some : goal.returns-then-is_some
returns-then-is_some c = λ cells shows.
    tells ⊥ (ListBreaks c.args.kind cells c.args.key (folded c.args.name.now) c.args.listed.now) c.args.key c.from.result c.refused_at-then-is_some.result c.refused_at-then-is_some.ensures
    (inr (inr (
      refl,
      c.from.ensures,
      named_twice c.args.kind cells c.args.listed.now c.loop-at.at-index c.loop-at-test.true (folded c.args.name.now) c.loop-at.found (sym c.is_some.ensures ∙ c.if-is_some.true)
          (c.loop-at.invariant cells shows).1 (sym (c.in-Ok.ensures cells shows).1 ∙ c.if-same.true),
    )))

pub loop-at-preserved : goal.loop-at-preserved
loop-at-preserved c = λ cells shows.
    let before = c.loop-at.invariant cells shows in
    let here = c.in-Ok.ensures cells shows in (
      records_more c.args.kind cells c.args.listed.now c.loop-at.at-index c.loop-at-test.true before.0 here.0,
      elim c.if-same.branch [
        | then-same+else-is_some w ↦ subst (λ (f : Option ℕ). offsets_named c.args.kind cells (folded c.args.name.now) (take (c.loop-at.at-index + 1) c.args.listed.now) ≡ one_or_none f) (sym w.found-is)
            (named_first c.args.kind cells c.args.listed.now c.loop-at.at-index c.loop-at-test.true (folded c.args.name.now) (before.1 ∙ none_yet c.loop-at.found (sym w.is_some.ensures ∙ w.if-is_some.false)) (sym here.1 ∙ w.if-same.true))
        | else-same w ↦ subst (λ (f : Option ℕ). offsets_named c.args.kind cells (folded c.args.name.now) (take (c.loop-at.at-index + 1) c.args.listed.now) ≡ one_or_none f) (sym w.found-is)
            (named_same c.args.kind cells c.args.listed.now c.loop-at.at-index c.loop-at-test.true (folded c.args.name.now) c.loop-at.found before.1 (sym here.1 ∙ w.if-same.false))
      ],
    )

pub returns : goal.returns
returns c = λ cells shows. subst (λ (l : List ℕ). AreRecords c.args.kind cells l × (offsets_named c.args.kind cells (folded c.args.name.now) l ≡ one_or_none c.loop-at.found))
    (take_all c.loop-at.at-index c.args.listed.now c.loop-at-test.false) (c.loop-at.invariant cells shows)
