use Rattle.std.proofs.Common.{◌≡◌, ◌+◌, length}
use Rattle.std.specs.Option.{option_map}
use Rattle.transactions.specs.Entries.{transaction_of}
use Rattle.std.proofs.Common.{◌≡◌, ◌+◌, arith, refl, sym, ◌∙◌, ap, subst, length}
use Rattle.std.specs.Option.{option_map}
use Rattle.std.proofs.lemmas.List.{length-map}
use Rattle.transactions.specs.Entries.{transaction_of}
use Rattle.transactions.specs.Tables.{Table}
use Rattle.transactions.proofs.SlotsInTurn.{GoneBelow, gone_start, gone_kept, gone_more, gone_all, rest_more}
use Rattle.transactions.proofs.table.TxTable.end_session.Goals as goal
use Rattle.transactions.proofs.table.TxTable.end_session.Goals.{then-is_of, else-is_of}

pub loop-slot-init : goal.loop-slot-init
loop-slot-init c = (refl, gone_start c.args.session c.args.self.now.tx_slots)

pub loop-slot-preserved : goal.loop-slot-preserved
loop-slot-preserved c = elim c.if-is_of.branch [
  | then-is_of w ↦ subst (λ (t : Table). (t ≡ record c.args.self.now { tx_slots = t.tx_slots }) × GoneBelow c.args.session (c.loop-slot.slot + 1) c.args.self.now.tx_slots t.tx_slots) (sym w.self-is) (
    rest_more c.args.self.now c.loop-slot.self w.vacate.new.self c.loop-slot.invariant.0 w.vacate.ensures.rest,
    gone_more c.args.session c.loop-slot.slot c.args.self.now.tx_slots c.loop-slot.self.tx_slots w.vacate.new.self.tx_slots (sym c.is_of.ensures ∙ w.if-is_of.true) w.vacate.ensures.put c.loop-slot.invariant.1,
  )
  | else-is_of w ↦ subst (λ (t : Table). (t ≡ record c.args.self.now { tx_slots = t.tx_slots }) × GoneBelow c.args.session (c.loop-slot.slot + 1) c.args.self.now.tx_slots t.tx_slots) (sym w.self-is)
      (c.loop-slot.invariant.0, gone_kept c.args.session c.loop-slot.slot c.args.self.now.tx_slots c.loop-slot.self.tx_slots (sym c.is_of.ensures ∙ w.if-is_of.false) c.loop-slot.invariant.1)
]

pub returns-clause-rest : goal.returns-clause-rest
returns-clause-rest c = c.loop-slot.invariant.0

pub returns-clause-gone : goal.returns-clause-gone
returns-clause-gone c = gone_all c.args.session c.loop-slot.slot c.args.self.now.tx_slots c.loop-slot.self.tx_slots
    (omega (arith, c.loop-slot-test.false, c.capacity-slot-end.ensures.slots, ap (λ (t : Table). length t.tx_slots) (sym c.self.view_is) ∙ length-map c.self.inside.tx_slots.slots (option_map transaction_of)))
    c.loop-slot.invariant.1
