use Rattle.std.proofs.Common.{◌≡◌, ◌∙◌, length, ap, sym, subst}
use Rattle.disk_model.specs.MemDisk.{states, earlier}
use Rattle.disk_model.specs.Tear.{IsCrashOf}
use Rattle.crash_lab.specs.LabStates.{files_of}
use Rattle.crash_lab.proofs.power_loss.disk_after_crash.Goals as goal

-- room for the journal changes no file
pub returns : goal.returns
returns c = λ f.
    let left = c.in_ok-left.left in
    let roomy = c.make_journal_room.new.disk in
    let clock : length (earlier roomy.past) ≡ 0 = c.make_journal_room.ensures.clock ∙ c.in_ok-left.ensures.clock in
    let same : files_of roomy f ≡ states left.past left.files.items 0 f = ap (λ k. states roomy.past roomy.files.items k f) clock ∙ c.make_journal_room.ensures.files 0 f in
    subst (IsCrashOf c.args.tear (files_of c.args.disk.now f)) (sym same) (c.in_ok-left.ensures.left f)
