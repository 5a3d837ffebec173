use Rattle.std.proofs.Common.{◌≡◌, ◌+◌, ◌++◌, ◌∷◌, [], length, refl, ◌∙◌, ap}
use Rattle.std.specs.Prelude.{replicate}
use Rattle.std.proofs.lemmas.List.{length-replicate, replicate_more}
use Rattle.reg_tree.specs.Fresh.{fresh_tree}
use Rattle.store_model.specs.Machine.{bounds_for, fresh_machine, opened_machine}
use Rattle.commit_journal.specs.Store.{Store}
use Rattle.recovery.specs.Shown.{store_of}
use Rattle.script_loop.proofs.Texts.{if_ok}
use Rattle.script_runner.proofs.store_setup.new_store.Goals as goal

pub returns : goal.returns
returns c =
    let found = c.in_ok-opened.opened.found in
    let hives = (store_of c.in_ok-opened.opened).hives in
    let on_disk = c.in_ok-disk.ensures in
    let one = c.one_is_recovered.ensures _ _ _ _ _ _ _ c.in_ok-opened.ensures on_disk.2 in
    let named = c.in_ok-trees.ensures ∙ ap (λ n. replicate n fresh_tree) c.from.ensures in
    let made = one.2 ∙ ap (λ trees. trees ++ fresh_tree ∷ []) named ∙ replicate_more c.args.hives fresh_tree in
    let many : hives ≡ c.args.hives = ap (λ (s : Store). s.hives) one.0 ∙ on_disk.1 ∙ ap length named ∙ length-replicate c.args.hives fresh_tree in
    if_ok (λ engine. found.number ≡ 0 → engine.machine ≡ opened_machine (bounds_for hives) found.trees 0 [] 0) (λ engine. engine.machine ≡ fresh_machine (bounds_for c.args.hives)) c.begun.result
    (λ engine is. is one.1 ∙ ap (λ trees. opened_machine (bounds_for hives) trees 0 [] 0) made ∙ ap (λ n. opened_machine (bounds_for n) (replicate (c.args.hives + 1) fresh_tree) 0 [] 0) many)
    c.begun.ensures

pub begun-requires : goal.begun-requires
begun-requires c = c.if-not-is_whole.ensures.0 refl
