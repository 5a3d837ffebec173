use Rattle.std.proofs.Common.{◌≡◌, ◌⊎◌, true, false, Some, vec_len, rules, inl, refl, sym, ap, subst, ◌∙◌, arith}
use Rattle.std.specs.Prelude.{Contains}
use Rattle.std.specs.Option.{option_map}
use Rattle.std.specs.List.{list_any}
use Rattle.conflicts.specs.Holders.{HeldClaim, same_held_claim, blocks, is_some_that, holds_claim}
use Rattle.conflicts.specs.IndexKeys.{IndexKey}
use Rattle.conflicts.proofs.IndexKeyRanges.{forward_text}
use Rattle.conflicts.proofs.Apart.{own_apart}
use Rattle.conflicts.proofs.Looks.{look, found_one, none_before, none_left_over, none_same, lent_entry}
use Rattle.conflicts.proofs.table.ClaimTable.has.Goals as goal

pub range-index_key-items-requires : goal.range-index_key-items-requires
range-index_key-items-requires c =
    rw (c.new.ensures.start, c.new.ensures.end) (forward_text (c.in_ok-from.from.0, c.in_ok-from.from.1) (c.in_ok-copy.field-0, 18446744073709551615) c.in_ok-from.ensures.number (c.in_ok-copy.ensures ∙ c.deref.ensures.value) refl)

pub loop-index_key-init : goal.loop-index_key-init
loop-index_key-init c = λ index_key h.
    inl (subst (λ xs. Contains xs index_key) (sym (rw (c.new.ensures.start, c.new.ensures.end) at (c.range-index_key-items.ensures.between (search rules))) ∙ sym c.into_iter-index_key-iterator.ensures.into_iter_gives) h)

pub returns-then-is_kept-clause-told : goal.returns-then-is_kept-clause-told
returns-then-is_kept-clause-told c =
    let one : HeldClaim = record { owner = c.args.owner.0; claim = c.args.claim.now } in
    let look_is : is_some_that (same_held_claim one) (look c.self.inside.kept.entries c.in-Some.index_key.now.1) ≡ true = sym (c.is_kept.ensures ∙ ap (is_some_that (same_held_claim one)) (lent_entry c.get.result ∙ ap (option_map (λ k. k.entry)) c.get.ensures.value)) ∙ c.if-is_kept.true in
    sym (ap (λ hs. holds_claim hs one) (sym c.self.view_is) ∙ found_one (same_held_claim one) c.self.inside.kept.entries c.in-Some.index_key.now.1 look_is)

pub returns-then-is_kept-clause-apart : goal.returns-then-is_kept-clause-apart
returns-then-is_kept-clause-apart c = λ _.
    let one : HeldClaim = record { owner = c.args.owner.0; claim = c.args.claim.now } in
    let look_is : is_some_that (same_held_claim one) (look c.self.inside.kept.entries c.in-Some.index_key.now.1) ≡ true = sym (c.is_kept.ensures ∙ ap (is_some_that (same_held_claim one)) (lent_entry c.get.result ∙ ap (option_map (λ k. k.entry)) c.get.ensures.value)) ∙ c.if-is_kept.true in
    ap (list_any (blocks (Some one.owner) one.claim)) (sym c.self.view_is) ∙ own_apart _ c.self.invariant.apart one (found_one (same_held_claim one) c.self.inside.kept.entries c.in-Some.index_key.now.1 look_is)

pub loop-index_key-preserved : goal.loop-index_key-preserved
loop-index_key-preserved c =
    let one : HeldClaim = record { owner = c.args.owner.0; claim = c.args.claim.now } in
    let look_is : is_some_that (same_held_claim one) (look c.self.inside.kept.entries c.in-Some.index_key.now.1) ≡ false = sym (c.is_kept.ensures ∙ ap (is_some_that (same_held_claim one)) (lent_entry c.get.result ∙ ap (option_map (λ k. k.entry)) c.get.ensures.value)) ∙ c.if-is_kept.false in
    none_before (same_held_claim one) c.self.inside.kept.entries _ c.next.new.self c.in-Some.index_key.now
    (λ s d. subst (λ xs. Contains xs s ⊎ (is_some_that (same_held_claim one) (look c.self.inside.kept.entries s.1) ≡ false)) c.in-Some.ensures.steps (c.loop-index_key.invariant s d)) look_is

pub returns-clause-told : goal.returns-clause-told
returns-clause-told c =
    let one : HeldClaim = record { owner = c.args.owner.0; claim = c.args.claim.now } in
    let from : IndexKey = (c.in_ok-from.from.0, c.in_ok-from.from.1) in
    let to : IndexKey = (c.in_ok-copy.field-0, 18446744073709551615) in
    sym (ap (λ hs. holds_claim hs one) (sym c.self.view_is)
    ∙ none_same (vec_len c.self.inside.added) c.self.inside.index c.self.inside.owned.keys c.self.inside.kept.entries c.self.invariant.in_indexes (omega (arith, c.self.inside.added.small, c.self.inside.added.ok)) one from to c.in_ok-from.ensures.text c.in_ok-from.ensures.number (c.in_ok-copy.ensures ∙ c.deref.ensures.value) refl
    (none_left_over (same_held_claim one) c.self.inside.kept.entries _ c.loop-index_key.index_key-iterator c.loop-index_key.invariant c.in-None.ensures.steps.0))
