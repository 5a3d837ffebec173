use Rattle.std.proofs.Common.{◌≡◌, List, ℕ, ap, subst, ◌∙◌}
use Rattle.dirty_vector.specs.Changes.{ChangesAreMarked}
use Rattle.hive_cells.specs.Bins.{Bins}
use Rattle.hive_savepoint.specs.Savepoints.{SavedBytes}
use Rattle.hive_writer.specs.declared.writer.HiveWriter.{HiveWriter}
use Rattle.hive_flush.specs.HiveStates.{memory_of, durable_of}
use Rattle.hive_flush.proofs.Adopting.{planned_on}
use Rattle.hive_flush.proofs.Encoding.{encodes_as}
use Rattle.hive_flush.proofs.Going.{rests}
use Rattle.hive_flush.proofs.hive.HiveFile.install.Goals as goal

pub returns-clause-on : goal.returns-clause-on
returns-clause-on c = λ primary log on.
    let f = c.args.self.now in
    let bins = c.args.image.bytes in
    let left = c.mark_changes.new.pages in
    let same : c.bytes-2.follows.lender-at-none.bytes ≡ bins = ap (λ (b : Bins). b.bytes) c.bytes-2.follows.holds-at-none in
    let put : c.replace.new.self.bytes ≡ bins = ap (λ (s : SavedBytes). s.bytes) c.replace.ensures ∙ same in
    let last : c.bytes-3.follows.lender-at-none.bytes ≡ bins = ap (λ (s : SavedBytes). s.bytes) c.bytes-3.follows.holds-at-none ∙ put in
    let marks : ChangesAreMarked f.image.bytes f.pages bins left = subst (λ (l : List ℕ). ChangesAreMarked f.image.bytes f.pages l left) c.bytes-2.ensures.all (subst (λ (l : List ℕ). ChangesAreMarked l f.pages c.bytes-2.result.now left) c.bytes.ensures.all c.mark_changes.ensures.marks) in
    planned_on f.writer c.plan_for.new.writer f.image.bytes bins _ c.bytes-3.result.now f.pages left f.held.value f.tree c.args.tree c.args.root _ c.args.time c.args.number primary log
    c.one_tree.ensures.one (rests f.writer.stage (durable_of f) (memory_of f) c.requires.whole c.requires.rest) c.plan_for.ensures f.planned.version c.requires.stands marks last (c.bytes-3.ensures.all ∙ put)
    (λ stands. c.plan_fits.ensures.ready stands (c.args.tree, c.args.number)) on

pub invariant_of-self-clause-encodes : goal.invariant_of-self-clause-encodes
invariant_of-self-clause-encodes c =
    let f = c.args.self.now in
    let same : c.bytes-2.follows.lender-at-none.bytes ≡ c.args.image.bytes = ap (λ (b : Bins). b.bytes) c.bytes-2.follows.holds-at-none in
    let put : c.replace.new.self.bytes ≡ c.args.image.bytes = ap (λ (s : SavedBytes). s.bytes) c.replace.ensures ∙ same in
    encodes_as c.args.image.bytes c.args.root 5 c.bytes-3.follows.lender-at-none c.plan_for.new.writer.block c.args.tree (ap (λ (s : SavedBytes). s.bytes) c.bytes-3.follows.holds-at-none ∙ put)
    (ap (λ (w : HiveWriter). w.block.root) c.plan_for.ensures) (ap (λ (w : HiveWriter). w.block.minor) c.plan_for.ensures ∙ f.planned.version) ∣ c.requires.stands ∣₁
