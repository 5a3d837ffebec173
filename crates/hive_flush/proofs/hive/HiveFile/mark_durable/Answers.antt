use Rattle.std.proofs.Common.{◌≡◌, ℕ, List, ap, subst, sym, ◌∙◌, Some}
use Rattle.hive_flush_model.specs.Plans.{PlanFitsImage}
use Rattle.hive_flush_model.specs.StoredTrees.{tree_under}
use Rattle.hive_savepoint.specs.Savepoints.{SavedBytes}
use Rattle.hive_writer.specs.WriterSteps.{plan_of}
use Rattle.base_block.specs.declared.block.BaseBlock.{BaseBlock}
use Rattle.hive_writer.specs.declared.writer.HiveWriter.{HiveWriter}
use Rattle.hive_flush.proofs.Encoding.{encodes_as}
use Rattle.hive_flush.proofs.hive.HiveFile.mark_durable.Goals as goal

pub returns-clause-fits : goal.returns-clause-fits
returns-clause-fits c = λ stands memory tree number.
    let writer = c.plan.new.self in
    let pages = c.clear.new.self in
    let lent = c.bytes.result.now in
    let after : lent ≡ c.bytes.follows.lender-at-none.bytes = c.bytes.ensures.all ∙ sym (ap (λ (s : SavedBytes). s.bytes) c.bytes.follows.holds-at-none) in
    subst (λ (l : List ℕ). PlanFitsImage stands memory l pages (plan_of writer l pages)) after
    (c.plan_fits.ensures.ready stands memory (subst (λ (l : List ℕ). tree_under stands writer.block l ≡ Some memory.0) (sym after) tree) number)

pub invariant_of-self-clause-encodes : goal.invariant_of-self-clause-encodes
invariant_of-self-clause-encodes c =
    let f = c.args.self.now in
    let block : c.plan.new.self.block ≡ c.next_block.result = ap (λ (w : HiveWriter). w.block) c.plan.ensures in
    encodes_as f.image.bytes f.writer.block.root f.writer.block.minor c.bytes.follows.lender-at-none c.plan.new.self.block f.tree (ap (λ (s : SavedBytes). s.bytes) c.bytes.follows.holds-at-none)
    (ap (λ (b : BaseBlock). b.root) (block ∙ c.next_block.ensures)) (ap (λ (b : BaseBlock). b.minor) (block ∙ c.next_block.ensures) ∙ sym f.planned.version) f.encodes
