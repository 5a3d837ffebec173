use Rattle.std.proofs.Common.{◌≡◌, ℕ, List, ◌++◌, length, refl, sym, ap, subst, ◌∙◌}
use Rattle.std.proofs.lemmas.Result.{IfErr-weaker, on_ok_weaker}
use Rattle.dirty_vector.specs.Changes.{ChangesAreMarked}
use Rattle.reg_tree.specs.Maps.{TreeMap, weight}
use Rattle.hive_savepoint.specs.Savepoints.{SavedBytes}
use Rattle.hive_records.specs.Images.{BinsEncodeTree}
use Rattle.hive_writer.specs.declared.writer.HiveWriter.{HiveWriter}
use Rattle.hive_flush.specs.Decoders.{IsRefusedFor}
use Rattle.hive_flush.specs.HiveStates.{FilesMatchWriter, durable_of, memory_of, tree_after_changes}
use Rattle.hive_flush.specs.Times.{time_of, time_after}
use Rattle.hive_flush.proofs.Adopting.{planned_on}
use Rattle.hive_flush.proofs.Encoding.{encodes_as}
use Rattle.hive_flush.proofs.Going.{rests}
use Rattle.hive_flush.proofs.Legal.{legal_told}
use Rattle.hive_flush.proofs.Times.{time_on}
use Rattle.hive_flush.proofs.hive.HiveFile.absorb.Goals as goal

pub edit_batch-requires-clause-encodes : goal.edit_batch-requires-clause-encodes
edit_batch-requires-clause-encodes c =
    let f = c.args.self.now in
    let encodes = c.one_encoding.ensures f.image.bytes f.writer.block.root f.writer.block.minor f.tree c.tiles.ensures.tiles c.tiles.ensures.shown.0 c.tiles.ensures.shown.1 f.encodes in
    subst (BinsEncodeTree f.image.bytes f.writer.block.root 5) (sym c.in_ok-tree.ensures) (subst (λ (m : ℕ). BinsEncodeTree f.image.bytes f.writer.block.root m f.tree) f.planned.version encodes.0)

pub invariant_of-self-in-Done-clause-encodes : goal.invariant_of-self-in-Done-clause-encodes
invariant_of-self-in-Done-clause-encodes c =
    let f = c.args.self.now in
    let encodes = c.in-Ok.ensures.done c.in-Done.is in
    encodes_as c.edit_batch.new.image.bytes f.writer.block.root 5 c.bytes.follows.lender-at-none c.plan_for.new.writer.block c.in-Ok.made.tree (ap (λ (s : SavedBytes). s.bytes) (c.bytes.follows.holds-at-none ∙ c.release.ensures.now))
    (ap (λ (w : HiveWriter). w.block.root) c.plan_for.ensures) (ap (λ (w : HiveWriter). w.block.minor) c.plan_for.ensures ∙ f.planned.version) ∣ encodes ∣₁

pub invariant_of-self-in-Rebuild : goal.invariant_of-self-in-Rebuild
invariant_of-self-in-Rebuild c =
    let f = c.args.self.now in
    let same : c.edit_batch.new.image ≡ f.image = c.in-Ok.ensures.undone c.in-Rebuild.is in
    let bytes : c.edit_batch.new.image.bytes ≡ f.image.bytes = ap (λ (s : SavedBytes). s.bytes) same in
    record {
      sizes = ap (λ (s : SavedBytes). length s.bytes) same ∙ f.sizes;
      savepoint = ap (λ (s : SavedBytes). s.saved) same ∙ f.savepoint ∙ sym bytes;
      planned = f.planned;
      steady = f.steady;
      ahead = f.ahead;
      encodes = encodes_as f.image.bytes f.writer.block.root f.writer.block.minor c.edit_batch.new.image f.writer.block f.tree bytes refl refl f.encodes;
      light = f.light;
    }

pub invariant_of-self-in-Err-1 : goal.invariant_of-self-in-Err-1
invariant_of-self-in-Err-1 c =
    let f = c.args.self.now in
    let same : c.edit_batch.new.image ≡ f.image = c.in-Err.ensures.err in
    let bytes : c.edit_batch.new.image.bytes ≡ f.image.bytes = ap (λ (s : SavedBytes). s.bytes) same in
    record {
      sizes = ap (λ (s : SavedBytes). length s.bytes) same ∙ f.sizes;
      savepoint = ap (λ (s : SavedBytes). s.saved) same ∙ f.savepoint ∙ sym bytes;
      planned = f.planned;
      steady = f.steady;
      ahead = f.ahead;
      encodes = encodes_as f.image.bytes f.writer.block.root f.writer.block.minor c.edit_batch.new.image f.writer.block f.tree bytes refl refl f.encodes;
      light = f.light;
    }

pub returns-in-Done-clause-time : goal.returns-in-Done-clause-time
returns-in-Done-clause-time c =
    let hive = c.args.self.now.writer.hive in
    let before = time_of c.args.self.now in
    ap (λ (w : HiveWriter). w.block.last_written) c.plan_for.ensures ∙ c.last_moment-time-2.ensures ∙ ap (time_after hive c.args.then.now) c.last_moment-time.ensures
    ∙ sym (time_on hive c.args.first.now c.args.then.now before)

pub returns-in-Done-clause-on : goal.returns-in-Done-clause-on
returns-in-Done-clause-on c = λ primary log on.
    let f = c.args.self.now in
    let bins = c.edit_batch.new.image.bytes in
    let left = c.release.new.pages in
    let tree = c.in-Ok.made.tree in
    let saved : c.edit_batch.new.image.saved ≡ f.image.bytes = c.in-Ok.ensures.saved ∙ f.savepoint in
    let last : c.bytes.follows.lender-at-none.bytes ≡ bins = ap (λ (s : SavedBytes). s.bytes) (c.bytes.follows.holds-at-none ∙ c.release.ensures.now) in
    let marks : ChangesAreMarked f.image.bytes f.pages bins left = subst (λ (l : List ℕ). ChangesAreMarked l f.pages bins left) saved c.release.ensures.marks in
    planned_on f.writer c.plan_for.new.writer f.image.bytes bins _ c.bytes.result.now f.pages left f.held.value f.tree tree f.writer.block.root _ _ c.args.upto primary log
    c.one_tree.ensures.one (rests f.writer.stage (durable_of f) (memory_of f) c.requires.whole c.requires.rest) c.plan_for.ensures f.planned.version (c.in-Ok.ensures.done c.in-Done.is) marks last
    (c.bytes.ensures.all ∙ ap (λ (s : SavedBytes). s.bytes) c.release.ensures.now)
    (λ stands. c.plan_fits.ensures.ready stands (tree, c.args.upto)) on

pub returns-in-Rebuild-clause-time : goal.returns-in-Rebuild-clause-time
returns-in-Rebuild-clause-time c =
    let hive = c.args.self.now.writer.hive in
    let before = time_of c.args.self.now in
    on_ok_weaker c.rebuild.result (λ time. time ∙ c.last_moment-time-2.ensures ∙ ap (time_after hive c.args.then.now) c.last_moment-time.ensures
    ∙ sym (time_on hive c.args.first.now c.args.then.now before)) c.rebuild.ensures.time

pub returns-in-Rebuild-clause-legal : goal.returns-in-Rebuild-clause-legal
returns-in-Rebuild-clause-legal c = λ legal.
    let f = c.args.self.now in
    let changes = c.args.first.now ++ c.args.then.now in
    let led : c.in-Ok.made.tree ≡ tree_after_changes f.writer.hive changes f.tree = c.in-Ok.ensures.tree ∙ ap (tree_after_changes f.writer.hive changes) c.in_ok-tree.ensures in
    IfErr-weaker c.rebuild.result _ _ (λ why told. legal_told 16777216 (weight (tree_after_changes f.writer.hive changes f.tree)) why (c.legal_is_light.ensures f.writer.hive changes legal)
    (subst (λ (t : TreeMap). IsRefusedFor (weight t) why) led told)) c.rebuild.ensures.refused

pub returns-in-Rebuild-clause-on : goal.returns-in-Rebuild-clause-on
returns-in-Rebuild-clause-on c = λ primary log on.
    let f = c.args.self.now in
    let same : c.edit_batch.new.image ≡ f.image = c.in-Ok.ensures.undone c.in-Rebuild.is in
    c.rebuild.ensures.on primary log (subst (λ (l : List ℕ). FilesMatchWriter f.writer l f.pages (durable_of f) (memory_of f) primary log) (sym (ap (λ (s : SavedBytes). s.bytes) same)) on)
