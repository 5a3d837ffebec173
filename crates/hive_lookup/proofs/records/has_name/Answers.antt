use Rattle.std.proofs.Common.{◌∙◌, ap, sym, List, ℕ}
use Rattle.reg_names.specs.Names.{folded}
use Rattle.hive_tree_model.specs.Trees.{same}
use Rattle.hive_lookup.specs.Records.{has_name, record_at}
use Rattle.hive_lookup.proofs.Naming.{is_ok_if}
use Rattle.hive_lookup.proofs.records.has_name.Goals as goal

pub returns-in-Ok : goal.returns-in-Ok
returns-in-Ok c = λ cells shows.
    let here = c.in-Ok.ensures cells shows in (
      is_ok_if (record_at c.args.kind cells c.args.at) here.0 here.1,
      c.eq.ensures ∙ ap (λ (n : List ℕ). same (folded n) (folded c.args.name.now)) here.2 ∙ ap (has_name c.args.kind (folded c.args.name.now)) (sym here.1),
    )
