use Rattle.std.proofs.Common.{◌++◌, List, ℕ, sym, ap, ◌∙◌, map}
use Rattle.std.specs.FinMap as finite
use Rattle.std.proofs.lemmas.List.{append-nil}
use Rattle.reg_tree_parts.specs.declared.value.Value.{Value}
use Rattle.key_walk.specs.KeyPaths.{names_on}
use Rattle.reg_export.specs.Scans.{scan_with, shown_names}
use Rattle.reg_export.specs.ScanLaws.{scan_both}
use Rattle.reg_export.proofs.name_scan.NameScanKeySink.take.Goals as goal

pub returns : goal.returns
returns c =
    let path = names_on c.args.path.now in
    let names : List (List ℕ) = map (λ (value : Value). value.name) (finite.values c.values.result.now) in
    c.see_values.ensures ∙ ap (λ scan. scan_with scan names) c.see_path.ensures ∙ scan_both c.args.self.now path names
    ∙ ap (λ vs. scan_with c.args.self.now (path ++ map (λ (value : Value). value.name) (finite.values vs))) c.values.ensures
    ∙ ap (scan_with c.args.self.now) (sym (append-nil (shown_names (path, c.args.key.now))))
