use Rattle.std.proofs.Common.{map, ap, ◌∙◌, arith}
use Rattle.std.specs.Option.{option_map}
use Rattle.conflicts.specs.Holders.{with_holder, holders_of}
use Rattle.conflicts.proofs.Looks.{looked, all_holders, holders_turn, all_taken, lent_entry, covered}
use Rattle.conflicts.proofs.table.ClaimTable.holders.Goals as goal

pub loop-number-preserved : goal.loop-number-preserved
loop-number-preserved c =
    holders_turn c.self.inside.kept.entries c.deref-number-items.result.now c.loop-number.number-index (option_map (λ o. o.0) c.args.asker) c.args.claim.now (map (λ o. o.0) c.loop-number.found.items) _ c.loop-number-test.true c.loop-number.invariant
    (c.in_ok-list_holder.ensures ∙ ap (λ o. with_holder (map (λ o. o.0) c.loop-number.found.items) o (option_map (λ o. o.0) c.args.asker) c.args.claim.now) (lent_entry c.get.result ∙ ap (option_map (λ k. k.entry)) c.get.ensures.value))

pub returns : goal.returns
returns c =
    c.loop-number.invariant
    ∙ ap (λ ns. holders_of (looked c.self.inside.kept.entries ns) (option_map (λ o. o.0) c.args.asker) c.args.claim.now) (all_taken c.loop-number.number-index c.deref-number-items.result.now c.loop-number-test.false ∙ c.deref-number-items.ensures.value)
    ∙ all_holders c.self.inside.kept.entries c.in_ok-numbers.numbers.items (option_map (λ o. o.0) c.args.asker) c.args.claim.now c.self.invariant.in_indexes.rises c.in_ok-numbers.ensures.rises (covered _ _ _ c.self.inside.kept.entries c.self.invariant.in_indexes (omega (arith, c.self.inside.added.small, c.self.inside.added.ok)) (option_map (λ o. o.0) c.args.asker) c.args.claim.now c.in_ok-numbers.numbers.items c.in_ok-numbers.ensures.complete)
    ∙ ap (λ hs. holders_of hs (option_map (λ o. o.0) c.args.asker) c.args.claim.now) c.self.view_is
