use Rattle.std.proofs.Common.{Some, refl, sym, ◌∙◌}
use Rattle.conflicts.specs.Holders.{HeldClaim}
use Rattle.conflicts.proofs.Apart.{no_holders, some_holders, there_already, not_there}
use Rattle.conflicts.proofs.table.ClaimTable.claim.Goals as goal

pub returns-then-branch-clause-ok : goal.returns-then-branch-clause-ok
returns-then-branch-clause-ok c =
    let one : HeldClaim = record { owner = c.args.owner.0; claim = c.args.claim.now } in
    (no_holders c.args.self.now (Some one.owner) one.claim (c.in_ok-has.ensures.apart c.if-branch.true), there_already c.args.self.now one (sym c.in_ok-has.ensures.told ∙ c.if-branch.true))

pub returns-then-branch-2-clause-ok : goal.returns-then-branch-2-clause-ok
returns-then-branch-2-clause-ok c = (some_holders c.args.self.now (Some c.args.owner.0) c.args.claim.now (sym c.in_ok-is_blocked.ensures ∙ c.if-branch-2.true), refl)

pub returns-clause-ok : goal.returns-clause-ok
returns-clause-ok c =
    let one : HeldClaim = record { owner = c.args.owner.0; claim = c.args.claim.now } in
    (no_holders c.args.self.now (Some one.owner) one.claim (sym c.in_ok-is_blocked.ensures ∙ c.if-branch-2.false), c.in_ok-put.ensures.ok ∙ not_there c.args.self.now one (sym c.in_ok-has.ensures.told ∙ c.if-branch.false))
