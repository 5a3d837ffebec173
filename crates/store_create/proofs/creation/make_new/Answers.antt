use Rattle.std.proofs.Common.{◌≡◌, ◌<◌, replicate, refl}
use Rattle.std.proofs.lemmas.Result.{on_ok_weaker}
use Rattle.refusals.specs.declared.refusal.Refusal.TheVariants.{NoMemory}
use Rattle.reg_tree.specs.Fresh.{fresh_tree}
use Rattle.store_create.specs.Creations.{IsNewStore, IsNotMade}
use Rattle.store_create.proofs.Creations.{told_of}
use Rattle.store_create.proofs.creation.make_new.Goals as goal

pub returns-clause-made : goal.returns-clause-made
returns-clause-made g c =
    let D = g.D.Disk in
    let made = c.make_fresh-made in
    let trees = replicate c.args.hives fresh_tree in
    told_of c.write_outcome.result made.result (g.W.Write.contents c.args.writer.now) (g.W.Write.contents c.write_outcome.new.writer)
    (λ any. (any ≡ trees) × (D.faithful made.new.disk → IsNewStore c.args.id any (D.state_at made.new.disk (D.clock made.new.disk))))
    (IsNotMade (D.failures c.args.disk.now < D.failures made.new.disk) (made.new.disk ≡ c.args.disk.now) (λ why. why ≡ NoMemory))
    c.write_outcome.ensures.outcome (on_ok_weaker made.result (λ stands. (trees, (refl, stands))) made.ensures.made) made.ensures.refused
