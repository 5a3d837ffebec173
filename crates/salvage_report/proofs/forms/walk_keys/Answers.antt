use Rattle.std.proofs.Common.{◌∙◌, ap, rules}
use Rattle.salvage_report.specs.Told.{totals_after}
use Rattle.salvage_report.specs.declared.totals.Totals.{Totals}
use Rattle.salvage_report.proofs.forms.walk_keys.Goals as goal

pub returns-in-Ok : goal.returns-in-Ok
returns-in-Ok g c =
    let t = c.in-Ok.ensures.kept in
    let taken = t.took.0 in
    let keys_stay = t.took.1 in
    let lines = t.took.2 in
    let losses_stay = t.took.3 in (
      t.events,
      (t.so, search rules, t.took.5 ∙ ap (λ (n : Totals). totals_after (c.args.encoding, c.args.path.now) n t.events) c.none.ensures),
      search rules,
    )
