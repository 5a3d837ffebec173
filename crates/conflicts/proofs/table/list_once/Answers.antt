use Rattle.std.proofs.Common.{◌≡◌, cond, map, sym, ◌∙◌, ap}
use Rattle.conflicts.specs.Holders.{blocks, with_number}
use Rattle.std.specs.Option.{option_map}
use Rattle.conflicts.proofs.Once.{listed_more, listed_already}
use Rattle.conflicts.proofs.table.list_once.Goals.{else-not-is_listed-via-then-not-is_listed+else-blocks, else-not-is_listed-via-else-not-is_listed}
use Rattle.conflicts.proofs.table.list_once.Goals as goal

pub returns-in_ok-push : goal.returns-in_ok-push
returns-in_ok-push c =
    let was = map (λ o. o.0) c.args.found.now.items in
    listed_more (λ o. o.0) c.args.found.now.items _ c.owner-owner.result c.is_listed.result (rw (← c.deref.ensures.value) c.is_listed.ensures) c.if-not-is_listed.true c.in_ok-push.ensures.items
    ∙ ap (with_number was) c.owner-owner.ensures ∙ ap (λ b. cond b (with_number was c.args.entry.now.owner) was) (sym c.if-blocks.true ∙ c.blocks-then-not-is_listed.ensures)

pub returns-else-not-is_listed : goal.returns-else-not-is_listed
returns-else-not-is_listed c =
    let was = map (λ o. o.0) c.args.found.now.items in
    let stands = blocks (option_map (λ o. o.0) c.args.asker) c.args.claim.now c.args.entry.now in
    elim c.else-not-is_listed.branch [
      | else-not-is_listed-via-then-not-is_listed+else-blocks w ↦ ap (λ b. cond b (with_number was c.args.entry.now.owner) was) (sym w.if-blocks.false ∙ w.blocks-then-not-is_listed.ensures)
      | else-not-is_listed-via-else-not-is_listed w ↦ listed_already (λ o. o.0) c.args.found.now.items c.owner-owner.result c.is_listed.result (rw (← c.deref.ensures.value) c.is_listed.ensures) w.if-not-is_listed.false stands
          ∙ ap (λ n. cond stands (with_number was n) was) c.owner-owner.ensures
    ]
