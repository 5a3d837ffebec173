use Rattle.std.proofs.Common.{◌≡◌, true, false, Some, sym, ap, subst, ◌∙◌, get_or, arith}
use Rattle.std.specs.Prelude.{Contains}
use Rattle.std.specs.Option.{option_map}
use Rattle.std.specs.List.{list_any}
use Rattle.conflicts.specs.Holders.{blocks, is_some_that}
use Rattle.conflicts.proofs.Members.{none_empty}
use Rattle.conflicts.proofs.Looks.{look, found_one, none_yet, none_met, all_taken, lent_entry}
use Rattle.conflicts.proofs.table.ClaimTable.is_blocked.Goals as goal

pub loop-number-init : goal.loop-number-init
loop-number-init c = λ n h. absurd (none_empty n h)

pub returns-then-meets : goal.returns-then-meets
returns-then-meets c =
    let look_is : is_some_that (blocks (Some c.args.owner.0) c.args.claim.now) (look c.self.inside.kept.entries (get_or c.deref-number-items.result.now c.loop-number.number-index 0)) ≡ true =
    sym (c.meets.ensures ∙ ap (is_some_that (blocks (Some c.args.owner.0) c.args.claim.now)) (lent_entry c.get.result ∙ ap (option_map (λ k. k.entry)) c.get.ensures.value)) ∙ c.if-meets.true in
    sym (ap (list_any (blocks (Some c.args.owner.0) c.args.claim.now)) (sym c.self.view_is) ∙ found_one (blocks (Some c.args.owner.0) c.args.claim.now) c.self.inside.kept.entries _ look_is)

pub loop-number-preserved : goal.loop-number-preserved
loop-number-preserved c =
    let look_is : is_some_that (blocks (Some c.args.owner.0) c.args.claim.now) (look c.self.inside.kept.entries (get_or c.deref-number-items.result.now c.loop-number.number-index 0)) ≡ false =
    sym (c.meets.ensures ∙ ap (is_some_that (blocks (Some c.args.owner.0) c.args.claim.now)) (lent_entry c.get.result ∙ ap (option_map (λ k. k.entry)) c.get.ensures.value)) ∙ c.if-meets.false in
    none_yet (blocks (Some c.args.owner.0) c.args.claim.now) c.self.inside.kept.entries c.deref-number-items.result.now c.loop-number.number-index c.loop-number-test.true c.loop-number.invariant look_is

pub returns : goal.returns
returns c =
    sym (ap (list_any (blocks (Some c.args.owner.0) c.args.claim.now)) (sym c.self.view_is)
    ∙ none_met _ _ _ c.self.inside.kept.entries c.self.invariant.in_indexes (omega (arith, c.self.inside.added.small, c.self.inside.added.ok)) (Some c.args.owner.0) c.args.claim.now c.in_ok-numbers.numbers.items c.in_ok-numbers.ensures.complete
    (λ n h. c.loop-number.invariant n (subst (λ xs. Contains xs n) (sym (all_taken c.loop-number.number-index c.deref-number-items.result.now c.loop-number-test.false ∙ c.deref-number-items.ensures.value)) h)))
