use Rattle.std.proofs.Common.{rules, ◌≡◌, ◌≢◌, inl, inr, subst}
use Rattle.base_block.specs.declared.block.BaseBlock.{BaseBlock}
use Rattle.salvage_report.specs.OpenedHives.{IsDecided}
use Rattle.salvage_report.proofs.damaged_hive.judged_block.Goals as goal

pub returns-then-ne-clause-refused : goal.returns-then-ne-clause-refused
returns-then-ne-clause-refused c =
    let other : c.in-Some.block.signature.0 ≢ 0x6667_6572 = search rules in
    inr (inl (subst (λ (b : BaseBlock). b.signature.0 ≢ 0x6667_6572) c.in-Some.ensures.some.0 other, c.from-then-ne.ensures))

pub returns-in-Some-decided_fault-clause-refused : goal.returns-in-Some-decided_fault-clause-refused
returns-in-Some-decided_fault-clause-refused c =
    inr (inr (subst (λ (b : BaseBlock). IsDecided b c.in-Some-decided_fault.why) c.in-Some.ensures.some.0 c.in-Some-decided_fault.ensures))

pub returns-in-None-decided_fault-clause-signature : goal.returns-in-None-decided_fault-clause-signature
returns-in-None-decided_fault-clause-signature c = search rules
