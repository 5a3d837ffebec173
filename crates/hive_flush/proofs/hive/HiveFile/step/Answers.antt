use Rattle.std.proofs.Common.{◌≡◌, ℕ, List, sym, ap, subst, ◌∙◌, Some, Ok, Err}
use Rattle.disk_model.specs.declared.progress.Progress.{Progress}
use Rattle.disk_model.specs.declared.progress.Progress.TheVariants as progress
use Rattle.crash_model.specs.StepAnswers.{Says}
use Rattle.crash_model.specs.Promises.{Ends, HiveSays}
use Rattle.reg_tree.specs.Maps.{TreeMap}
use Rattle.disk_model.specs.FileState.{FileState}
use Rattle.disk_model.specs.StoreFiles.{primary_file, log_file}
use Rattle.hive_flush_model.specs.StoredTrees.{TreeDecoder, tree_under}
use Rattle.hive_flush_model.specs.Plans.{PlanFitsImage}
use Rattle.dirty_vector.specs.Pages.{clean_pages}
use Rattle.hive_flush.specs.NextBlocks.{block_again}
use Rattle.hive_savepoint.specs.Savepoints.{SavedBytes}
use Rattle.hive_writer.specs.declared.writer.HiveWriter.{HiveWriter}
use Rattle.hive_writer.specs.WriterSteps.{KeepsBlocks, choice_at, durable_after, plan_of}
use Rattle.hive_flush.specs.HiveStates.{FilesMatchWriter, file_choice, memory_of, durable_of}
use Rattle.hive_flush.proofs.Going.{IsNotDone, LeadsBy, by_plan, went, done, same_on, ready_same, files_done}
use Rattle.base_block.specs.declared.block.BaseBlock.{BaseBlock}
use Rattle.hive_flush.proofs.Encoding.{encodes_as}
use Rattle.hive_flush.proofs.hive.HiveFile.step.Goals as goal

pub mark_durable-requires : goal.mark_durable-requires
mark_durable-requires g c = record { quiet = c.in-Ok-Done.ensures.done (ap (λ (p : Progress). Ok p) c.in-Ok-Done.field-0-is) }

pub unreachable-requires : goal.unreachable-requires
unreachable-requires g c =
    let f = c.args.self.now in
    let m = memory_of f in
    subst (λ (p : Progress). Says (HiveSays m) (Ok p) (choice_at f.writer.stage (durable_of f) m) (choice_at c.step.new.self.stage (durable_after (Ok p) (durable_of f) m) m)) c.in-Ok-Idle.field-0-is
    (c.in-Ok-Idle.ensures.says (durable_of f) m)

pub returns-in-Ok-Done-clause-on : goal.returns-in-Ok-Done-clause-on
returns-in-Ok-Done-clause-on g c = λ faithful on.
    let f = c.args.self.now in
    let still : c.bytes-image.follows.lender-at-none.bytes ≡ f.image.bytes = ap (λ (s : SavedBytes). s.bytes) c.bytes-image.follows.holds-at-none in
    let w = c.step.new.self in
    let settled_is = c.mark_durable.ensures.settled in
    let before : ℕ → FileState = g.D.Disk.state_at c.args.disk.now (g.D.Disk.clock c.args.disk.now) in
    let after : ℕ → FileState = g.D.Disk.state_at c.step.new.disk (g.D.Disk.clock c.step.new.disk) in
    let keeps : KeepsBlocks f.writer w (Ok progress.Done) = subst (λ (p : Progress). KeepsBlocks f.writer w (Ok p)) c.in-Ok-Done.field-0-is c.in-Ok-Done.ensures.keeps in
    let led : LeadsBy f.writer w f.image.bytes f.pages (Ok progress.Done) before after
    = subst (λ (p : Progress). LeadsBy f.writer w f.image.bytes f.pages (Ok p) before after) c.in-Ok-Done.field-0-is
    (by_plan (Ok c.in-Ok-Done.field-0) f.writer w f.image.bytes c.bytes-image.result.now f.pages before after c.requires.whole c.bytes-image.ensures.all (c.in-Ok-Done.ensures.on faithful)) in
    let quiet = c.in-Ok-Done.ensures.done (ap (λ (p : Progress). Ok p) c.in-Ok-Done.field-0-is) in
    let again : HiveWriter = record w { block = block_again w.block } in
    let clean = clean_pages f.pages.bins_size in
    let fits : (stands : TreeDecoder TreeMap) (memory : TreeMap × ℕ) → tree_under stands w.block f.image.bytes ≡ Some memory.0 → w.block.applied.0 ≡ memory.1 → PlanFitsImage stands memory f.image.bytes clean (plan_of again f.image.bytes clean)
    = λ stands memory given. ready_same again c.mark_durable.new.self.writer f.image.bytes c.mark_durable.new.self.image.bytes clean c.mark_durable.new.self.pages memory stands settled_is.writer (settled_is.bins ∙ still) settled_is.pages (c.mark_durable.ensures.fits stands memory)
    (subst (λ (m : ℕ). stands f.image.bytes w.block.root m w.block.store ≡ Some memory.0) (ap (λ (b : BaseBlock). b.minor) keeps.block ∙ f.planned.version) given) in
    same_on again c.mark_durable.new.self.writer f.image.bytes c.mark_durable.new.self.image.bytes clean c.mark_durable.new.self.pages f.tree c.mark_durable.new.self.held.value f.tree c.mark_durable.new.self.tree _ _
    settled_is.writer (settled_is.bins ∙ still) settled_is.pages settled_is.held settled_is.tree
    (done f.writer w f.image.bytes f.pages clean f.held.value f.tree before after (sym f.sizes) keeps quiet led fits on)

pub returns-in-Ok-Done-clause-says : goal.returns-in-Ok-Done-clause-says
returns-in-Ok-Done-clause-says g c =
    let f = c.args.self.now in
    let w = c.step.new.self in
    let m = memory_of f in
    let settled_is = c.mark_durable.ensures.settled in
    let keeps : KeepsBlocks f.writer w (Ok progress.Done) = subst (λ (p : Progress). KeepsBlocks f.writer w (Ok p)) c.in-Ok-Done.field-0-is c.in-Ok-Done.ensures.keeps in
    let ends : Ends (file_choice f) (choice_at w.stage m m) = subst (λ (p : Progress). Says (HiveSays m) (Ok p) (file_choice f) (choice_at w.stage (durable_after (Ok p) (durable_of f) m) m)) c.in-Ok-Done.field-0-is (c.in-Ok-Done.ensures.says (durable_of f) m) in
    (ends.0, ends.1, files_done f.writer w c.mark_durable.new.self.writer c.mark_durable.new.self.held.value f.tree c.mark_durable.new.self.tree keeps settled_is.writer settled_is.held settled_is.tree ∙ ends.2)

pub returns-in-Ok-More-clause-on : goal.returns-in-Ok-More-clause-on
returns-in-Ok-More-clause-on g c = λ faithful on.
    let f = c.args.self.now in
    let still : c.bytes-image.follows.lender-at-none.bytes ≡ f.image.bytes = ap (λ (s : SavedBytes). s.bytes) c.bytes-image.follows.holds-at-none in
    let before : ℕ → FileState = g.D.Disk.state_at c.args.disk.now (g.D.Disk.clock c.args.disk.now) in
    let after : ℕ → FileState = g.D.Disk.state_at c.step.new.disk (g.D.Disk.clock c.step.new.disk) in
    let more : IsNotDone (Ok c.in-Ok-More.field-0) = subst (λ (p : Progress). IsNotDone (Ok p)) (sym c.in-Ok-More.field-0-is) tt in
    subst (λ (l : List ℕ). FilesMatchWriter c.step.new.self l f.pages (f.held.value, c.step.new.self.base.applied.0) (f.tree, c.step.new.self.block.applied.0) (after (primary_file f.writer.hive)) (after (log_file f.writer.hive))) (sym still)
    (went (Ok c.in-Ok-More.field-0) f.writer c.step.new.self f.image.bytes f.pages f.held.value f.tree before after more (λ any. c.requires.whole) f.sizes c.in-Ok-More.ensures.keeps
    (by_plan (Ok c.in-Ok-More.field-0) f.writer c.step.new.self f.image.bytes c.bytes-image.result.now f.pages before after c.requires.whole c.bytes-image.ensures.all (c.in-Ok-More.ensures.on faithful))
    on)

pub returns-in-Err-clause-on : goal.returns-in-Err-clause-on
returns-in-Err-clause-on g c = λ faithful on.
    let f = c.args.self.now in
    let still : c.bytes-image.follows.lender-at-none.bytes ≡ f.image.bytes = ap (λ (s : SavedBytes). s.bytes) c.bytes-image.follows.holds-at-none in
    let before : ℕ → FileState = g.D.Disk.state_at c.args.disk.now (g.D.Disk.clock c.args.disk.now) in
    let after : ℕ → FileState = g.D.Disk.state_at c.step.new.disk (g.D.Disk.clock c.step.new.disk) in
    subst (λ (l : List ℕ). FilesMatchWriter c.step.new.self l f.pages (f.held.value, c.step.new.self.base.applied.0) (f.tree, c.step.new.self.block.applied.0) (after (primary_file f.writer.hive)) (after (log_file f.writer.hive))) (sym still)
    (went (Err c.in-Err.why) f.writer c.step.new.self f.image.bytes f.pages f.held.value f.tree before after tt (λ any. c.requires.whole) f.sizes c.in-Err.ensures.keeps
    (by_plan (Err c.in-Err.why) f.writer c.step.new.self f.image.bytes c.bytes-image.result.now f.pages before after c.requires.whole c.bytes-image.ensures.all (c.in-Err.ensures.on faithful))
    on)

pub invariant_of-self-clause-encodes : goal.invariant_of-self-clause-encodes
invariant_of-self-clause-encodes g c =
    let f = c.args.self.now in
    let w = c.step.new.self in
    encodes_as f.image.bytes f.writer.block.root f.writer.block.minor c.bytes-image.follows.lender-at-none w.block f.tree (ap (λ (s : SavedBytes). s.bytes) c.bytes-image.follows.holds-at-none)
    (ap (λ (b : BaseBlock). b.root) c.step.ensures.keeps.block) (ap (λ (b : BaseBlock). b.minor) c.step.ensures.keeps.block) f.encodes
