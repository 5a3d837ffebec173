use Rattle.std.proofs.Common.{◌≡◌, ◌∙◌, List, ℕ, subst, get_or, inl, inr}
use Rattle.std.proofs.lemmas.List.{take_all}
use Rattle.hive_lookup.specs.declared.list_kind.ListKind.TheVariants.{Subkeys}
use Rattle.hive_lookup.specs.Records.{record_at, AreRecords}
use Rattle.hive_lookup.specs.Listings.{IsUnreadIn, names_listed}
use Rattle.hive_lookup.proofs.Searches.{tells, in_list, records_more}
use Rattle.hive_lookup.proofs.Naming.{is_ok_if, names_more}
use Rattle.hive_lookup.proofs.names.listed_names.Goals as goal

pub returns-in-Err : goal.returns-in-Err
returns-in-Err c = λ cells shows.
    tells ⊥ (IsUnreadIn cells c.args.listed.now) (get_or c.args.listed.now c.loop-at.at-index 0) c.in-Err.refusal c.refused_at.result c.refused_at.ensures
    (elim (c.in-Err.ensures cells shows) [ inl e ↦ inl e | inr e ↦ inr (in_list c.args.listed.now c.loop-at.at-index c.loop-at-test.true, e) ])

pub loop-at-preserved : goal.loop-at-preserved
loop-at-preserved c = λ cells shows.
    let before = c.loop-at.invariant cells shows in
    let here = c.in-Ok.ensures cells shows in (
      records_more Subkeys cells c.args.listed.now c.loop-at.at-index c.loop-at-test.true before.0 (is_ok_if (record_at Subkeys cells (get_or c.args.listed.now c.loop-at.at-index 0)) here.0 here.1),
      c.in_ok-push.ensures.items ∙ names_more cells c.args.listed.now c.loop-at.at-index c.loop-at-test.true c.loop-at.names.items before.1 c.in-Ok.name here.0 here.1 here.2,
    )

pub returns : goal.returns
returns c = λ cells shows. subst (λ (l : List ℕ). AreRecords Subkeys cells l × (c.loop-at.names.items ≡ names_listed cells l)) (take_all c.loop-at.at-index c.args.listed.now c.loop-at-test.false) (c.loop-at.invariant cells shows)
