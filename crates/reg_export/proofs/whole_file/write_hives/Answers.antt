use Rattle.std.proofs.Common.{◌≡◌, ◌+◌, ◌++◌, ◌∷◌, [], List, ℕ, map, take, sym, ap, ◌∙◌}
use Rattle.std.specs.List.{flat_map}
use Rattle.std.proofs.lemmas.List.{append-nil, map-append, take_more}
use Rattle.std.proofs.lemmas.List.Concat.{flat_map-append}
use Rattle.reg_export.specs.declared.whole_file.HiveKeys.{HiveKeys}
use Rattle.reg_export.specs.RegTexts.{reg_hive_lines}
use Rattle.reg_export.specs.Hives.{keys_of}
use Rattle.reg_export.specs.SinkLaws.{prints_both, prints_nothing}
use Rattle.reg_export.proofs.whole_file.write_hives.Goals as goal

pub loop-hive-init : goal.loop-hive-init
loop-hive-init g c = prints_nothing c.args.encoding (g.W.Write.contents c.args.writer.now)

pub loop-hive-preserved : goal.loop-hive-preserved
loop-hive-preserved g c =
    let hives = c.args.hives.now in
    let i = c.loop-hive.hive-index in
    let hive : HiveKeys = c.hive-item.result in
    let next : take i hives ++ hive ∷ [] ≡ take (i + 1) hives = ap (λ (h : HiveKeys). take i hives ++ h ∷ []) c.hive-item.is ∙ sym (take_more hives i hive c.loop-hive-test.true) in
    let front = flat_map reg_hive_lines (map keys_of (take i hives)) in
    prints_both c.args.encoding _ _ _ _ _ _ c.loop-hive.invariant c.in_ok-write_hive.ensures
    (ap (λ (t : List ℕ). front ++ t) (sym (append-nil (reg_hive_lines (keys_of hive)))) ∙ sym (flat_map-append reg_hive_lines (map keys_of (take i hives)) (keys_of hive ∷ []))
    ∙ ap (flat_map reg_hive_lines) (sym (map-append keys_of (take i hives) (hive ∷ [])) ∙ ap (map keys_of) next))
