use Rattle.std.proofs.Common.{◌≡◌, inr, ℕ, List, sym, ◌∙◌, subst}
use Rattle.hive_load.specs.Limits.{BinsEncodeShallowTree}
use Rattle.hive_file_reader.specs.Hives.{lacks_bins, lacks_tiled}
use Rattle.hive_file_reader.proofs.AnyWeight.{data_refused}
use Rattle.hive_file_reader.proofs.file.loaded.Goals as goal

pub returns-in-Err-clause-refused : goal.returns-in-Err-clause-refused
returns-in-Err-clause-refused c = inr (lacks_tiled c.in-Err.why (lacks_bins c.in-Err.why c.in-Err.ensures))

pub returns-in-Ok-load_bins_any_weight-clause-tree : goal.returns-in-Ok-load_bins_any_weight-clause-tree
returns-in-Ok-load_bins_any_weight-clause-tree c =
    let same : c.into_bytes.result.items ≡ c.in-Ok.parts.1.items = c.into_bytes.ensures ∙ c.in-Ok-load_bins_any_weight.ensures.same in
    subst (λ (l : List ℕ). BinsEncodeShallowTree l c.in-Ok.parts.0.root c.in-Ok.parts.0.minor c.in-Ok-load_bins_any_weight.tree) (sym same) c.in-Ok-load_bins_any_weight.ensures.stands

pub returns-in-Err-load_bins_any_weight-clause-refused : goal.returns-in-Err-load_bins_any_weight-clause-refused
returns-in-Err-load_bins_any_weight-clause-refused c =
    data_refused c.args.file.items c.in-Ok.parts.1.items c.in-Ok.parts.0 c.in-Err-load_bins_any_weight.why c.in-Ok.ensures c.in-Err-load_bins_any_weight.ensures.refused
