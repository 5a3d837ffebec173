use Rattle.std.proofs.Common.{◌++◌, ◌∷◌, [], List, ℕ, sym, ap, ◌∙◌, map, take, take_all, arith}
use Rattle.std.specs.FinMap as finite
use Rattle.std.proofs.lemmas.List.{map-append}
use Rattle.reg_tree_parts.specs.declared.value.Value.{Value}
use Rattle.tree_printer.proofs.ValueLists.{is_there, values_long}
use Rattle.reg_export.specs.Scans.{scan_with}
use Rattle.reg_export.specs.ScanLaws.{scan_both}
use Rattle.reg_export.proofs.Lists.{next_item}
use Rattle.reg_export.proofs.name_scan.NameScan.see_values.Goals as goal

abbrev name_of : Value → List ℕ
name_of value = value.name

pub unreachable-requires : goal.unreachable-requires
unreachable-requires c = is_there (finite.values c.args.values.now) c.loop-index.index (omega (arith, c.loop-index-test.true, c.len-index-end.ensures, values_long c.args.values.now)) c.in_default.ensures

pub loop-index-preserved : goal.loop-index-preserved
loop-index-preserved c =
    let values = finite.values c.args.values.now in
    let now = c.in-Some.value.now in
    c.see.ensures ∙ ap (λ scan. scan_with scan (c.units.result.now ∷ [])) c.loop-index.invariant ∙ scan_both c.args.self.now (map name_of (take c.loop-index.index values)) (c.units.result.now ∷ [])
    ∙ ap (λ (n : List ℕ). scan_with c.args.self.now (map name_of (take c.loop-index.index values) ++ n ∷ [])) c.units.ensures
    ∙ ap (scan_with c.args.self.now) (sym (map-append name_of (take c.loop-index.index values) (now ∷ [])) ∙ ap (map name_of) (next_item values c.loop-index.index now (sym c.in-Some.ensures)))

pub returns : goal.returns
returns c =
    let values = finite.values c.args.values.now in
    c.loop-index.invariant ∙ ap (λ vs. scan_with c.args.self.now (map name_of vs)) (take_all c.loop-index.index values (omega (arith, c.loop-index-test.false, c.len-index-end.ensures, values_long c.args.values.now)))
