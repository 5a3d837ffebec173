use Rattle.std.proofs.Common.{◌≡◌, inr, ap, subst, List, ℕ}
use Rattle.hive_cells.specs.Bins.{Bins}
use Rattle.hive_load.specs.Limits.{ShallowBinsRefused}
use Rattle.hive_load.proofs.bins.load_bins_any_weight.Goals as goal

pub returns-in-Err-load_any_weight-clause-refused : goal.returns-in-Err-load_any_weight-clause-refused
returns-in-Err-load_any_weight-clause-refused c =
    let bytes : c.in-Ok.image.bytes ≡ c.args.bins.items = ap (λ (b : Bins). b.bytes) c.in-Ok.ensures.0 in
    subst (λ (l : List ℕ). ShallowBinsRefused l c.args.root c.args.minor c.in-Err-load_any_weight.why) bytes (inr c.in-Err-load_any_weight.ensures.refused)
