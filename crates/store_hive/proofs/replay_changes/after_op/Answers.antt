use Rattle.std.proofs.Common.{inl, inr, subst, refl}
use Rattle.reg_tree.specs.Judgement.{IsWritten, changed, legal_in}
use Rattle.recovery.proofs.Replays.{legal_is, opened_is, refused_is}
use Rattle.store_hive.proofs.replay_changes.after_op.Goals as goal

pub returns-in-Ok-Some-clause-made : goal.returns-in-Ok-Some-clause-made
returns-in-Ok-Some-clause-made c =
    let tree = c.args.tree.now in
    let op = c.args.op.now in
    legal_is tree op c.args.moment c.in-Ok-Some.made (subst (IsWritten (legal_in tree op) (changed tree op c.args.moment)) c.in-Ok-Some.field-0-is c.in-Ok-Some.ensures.ok)

pub returns-in-Ok-None-clause-fails : goal.returns-in-Ok-None-clause-fails
returns-in-Ok-None-clause-fails c =
    let tree = c.args.tree.now in
    let op = c.args.op.now in
    inl (refl, opened_is tree op c.args.moment (subst (IsWritten (legal_in tree op) (changed tree op c.args.moment)) c.in-Ok-None.field-0-is c.in-Ok-None.ensures.ok))

pub returns-in-Err-clause-fails : goal.returns-in-Err-clause-fails
returns-in-Err-clause-fails c = elim (c.in-Err.ensures.refused) [
  | inl illegal ↦ elim (c.as_journal_damage.ensures.either) [ inl hungry ↦ inr hungry | inr damaged ↦ inl (damaged, refused_is c.args.tree.now c.args.op.now c.args.moment _ illegal) ]
  | inr hungry ↦ inr (c.as_journal_damage.ensures.memory hungry)
]
