use Rattle.std.proofs.Common.{◌==◌, ◌||◌, refl, sym, ◌∙◌, ap}
use Rattle.std.specs.Prelude.{slice_index_or}
use Rattle.std.proofs.lemmas.Bool.{ne_eqb}
use Rattle.std.proofs.lemmas.List.{take_all}
use Rattle.transactions.specs.Tables.{is_listed}
use Rattle.transactions.proofs.SlotsInTurn.{numbers, listed_more, listed_at}
use Rattle.transactions.proofs.table.Holders.has.Goals as goal

pub loop-owner-init : goal.loop-owner-init
loop-owner-init c = refl

pub loop-owner-preserved : goal.loop-owner-preserved
loop-owner-preserved c =
    let owners = c.deref-owner-items.result.now in
    listed_more owners c.loop-owner.owner-index c.args.slot (record { 0 = 0 }) c.loop-owner-test.true
    ∙ ap (λ b. b || (slice_index_or owners c.loop-owner.owner-index (record { 0 = 0 })).0 == c.args.slot) c.loop-owner.invariant
    ∙ ne_eqb _ _ c.if-owner-slot.false

pub returns-then-owner-slot : goal.returns-then-owner-slot
returns-then-owner-slot c =
    sym (listed_at c.deref-owner-items.result.now c.loop-owner.owner-index c.args.slot (record { 0 = 0 }) c.loop-owner-test.true c.if-owner-slot.true)
    ∙ ap (λ listed. is_listed listed c.args.slot) (ap numbers c.deref-owner-items.ensures.value ∙ c.self.view_is)

pub returns : goal.returns
returns c =
    sym c.loop-owner.invariant
    ∙ ap (λ listed. is_listed listed c.args.slot) (ap numbers (take_all c.loop-owner.owner-index c.deref-owner-items.result.now c.loop-owner-test.false) ∙ ap numbers c.deref-owner-items.ensures.value ∙ c.self.view_is)
