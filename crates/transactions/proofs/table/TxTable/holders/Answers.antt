use Rattle.std.proofs.Common.{◌≡◌, None, ◌∙◌, subst, ap, map}
use Rattle.conflicts.specs.Claims.{claim_of}
use Rattle.conflicts.specs.Holders.{holders_of}
use Rattle.store_model.specs.Transactions.{at}
use Rattle.transactions.specs.Entries.{tx_slots_of}
use Rattle.transactions.specs.Tables.{Table, holds_if, is_listed}
use Rattle.transactions.proofs.Holding.{all_holders}
use Rattle.transactions.proofs.table.TxTable.holders.Goals as goal

pub returns : goal.returns
returns c = λ slot.
    subst (λ (t : Table). is_listed (map (λ o. o.0) c.in_ok-holders.field-0.items) slot ≡ holds_if (claim_of c.args.op.now) (at t.tx_slots slot)) c.self.view_is
    (all_holders (tx_slots_of c.self.inside.tx_slots.slots) c.self.inside.claims c.self.invariant.claimed (claim_of c.args.op.now) (map (λ o. o.0) c.in_ok-holders.field-0.items) (c.in_ok-holders.ensures ∙ ap (holders_of c.self.inside.claims None) c.claims.ensures) slot)
