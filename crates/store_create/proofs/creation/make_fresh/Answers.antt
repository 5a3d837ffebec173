use Rattle.std.proofs.Common.{◌≡◌, ◌<◌, List, OnOk, subst}
use Rattle.refusals.specs.declared.refusal.Refusal.TheVariants.{NoMemory}
use Rattle.reg_tree.specs.Maps.{TreeMap}
use Rattle.recovery.specs.Created.{IsRefusedFor}
use Rattle.store_create.specs.Creations.{IsNewStore}
use Rattle.store_create.proofs.Fresh.{refused_for_memory}
use Rattle.store_create.proofs.Creations.{new_where_made, not_made_as}
use Rattle.store_create.proofs.creation.make_fresh.Goals as goal

pub returns-clause-made : goal.returns-clause-made
returns-clause-made g c =
    let D = g.D.Disk in
    let new = D.state_at c.create.new.disk (D.clock c.create.new.disk) in
    subst (λ (trees : List TreeMap). OnOk c.create.result (D.faithful c.create.new.disk → IsNewStore c.args.id trees new)) c.in_ok-trees.ensures
    (new_where_made c.create.result (D.faithful c.create.new.disk) c.args.id c.in_ok-trees.trees new c.create.ensures.made c.create.ensures.recovers c.create.ensures.seen)

pub returns-clause-refused : goal.returns-clause-refused
returns-clause-refused g c =
    let D = g.D.Disk in
    not_made_as c.create.result (D.failures c.args.disk.now < D.failures c.create.new.disk) (c.create.new.disk ≡ c.args.disk.now) (IsRefusedFor c.in_ok-trees.trees) (λ why. why ≡ NoMemory)
    (λ why refused. refused_for_memory c.args.hives why (subst (λ (trees : List TreeMap). IsRefusedFor trees why) c.in_ok-trees.ensures refused)) c.create.ensures.refused
