use Rattle.std.proofs.Common.{◌≡◌, ◌⊎◌, ◌<◌, ℕ, rules, subst, IfErr}
use Rattle.refusals.specs.declared.refusal.Refusal.TheVariants.{DiskFault}
use Rattle.recovery.specs.Created.{IsNoCopy}
use Rattle.store_backup.proofs.copy.write_copy.Goals as goal

pub returns-clause-refused : goal.returns-clause-refused
returns-clause-refused g c =
    let D = g.D.Disk in
    let snapshot = c.args.snapshot.now in
    let named : c.in-Ok.named ≡ snapshot.hives = search rules in
    subst (λ (hives : ℕ). IfErr c.create_at.result (λ why. ((why ≡ DiskFault) × (D.failures c.args.disk.now < D.failures c.create_at.new.disk)) ⊎ (IsNoCopy snapshot.layout hives snapshot.number snapshot.trees why × (c.create_at.new.disk ≡ c.args.disk.now)))) named c.create_at.ensures.refused
