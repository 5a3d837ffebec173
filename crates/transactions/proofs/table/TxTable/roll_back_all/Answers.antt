use Rattle.transactions.specs.Tables.{is_listed, rolled_back_if}
use Rattle.store_model.specs.Transactions.{at}
use Rattle.std.proofs.Common.{refl, ◌∙◌, ap}
use Rattle.std.proofs.lemmas.List.{take_all}
use Rattle.transactions.proofs.SlotsInTurn.{rolled_start, rolled_more, rest_more, numbers}
use Rattle.transactions.proofs.table.TxTable.roll_back_all.Goals as goal

pub loop-owner-init : goal.loop-owner-init
loop-owner-init c = (refl, rolled_start c.deref-owner-items.result.now c.args.self.now.tx_slots)

pub loop-owner-preserved : goal.loop-owner-preserved
loop-owner-preserved c = (rest_more c.args.self.now c.loop-owner.self c.roll_back_at.new.self c.loop-owner.invariant.0 c.roll_back_at.ensures.rest, rolled_more c.deref-owner-items.result.now c.loop-owner.owner-index _ c.args.self.now.tx_slots c.loop-owner.self.tx_slots c.roll_back_at.new.self.tx_slots c.loop-owner-test.true c.loop-owner.invariant.1 c.roll_back_at.ensures.put)

pub returns-clause-rest : goal.returns-clause-rest
returns-clause-rest c = c.loop-owner.invariant.0

pub returns-clause-rolled_back : goal.returns-clause-rolled_back
returns-clause-rolled_back c = λ slot. c.loop-owner.invariant.1 slot
    ∙ ap (λ list. rolled_back_if (is_listed list slot) (at c.args.self.now.tx_slots slot))
    (ap numbers (take_all c.loop-owner.owner-index c.deref-owner-items.result.now c.loop-owner-test.false) ∙ ap numbers c.deref-owner-items.ensures.value ∙ c.holders.view_is)
