use Rattle.std.proofs.Common.{◌≡◌, None}
use Rattle.script_loop.specs.NewStores.{IsScriptRun}
use Rattle.script_loop.proofs.Texts.{if_ok}
use Rattle.script_loop.proofs.Views.{script_seen}
use Rattle.crash_lab.specs.Experiments.{line_asked}
use Rattle.crash_lab.specs.LabStates.{lab_state_of, IsLimited, IsNew}
use Rattle.crash_lab.specs.Runs.{IsExperiment, TriesLine}
use Rattle.crash_lab.proofs.lab_run.lab.Goals as goal

-- the run is seen as that of the laboratory's state
pub returns : goal.returns
returns g c =
    let known = g.R.Read.remaining c.args.reader.now in
    let before = g.W.Write.contents c.args.writer.now in
    let after = g.W.Write.contents c.run_script.new.writer in
    if_ok
    (IsScriptRun (λ hives laboratory. IsNew hives (lab_state_of laboratory)) (λ limit old new. IsLimited limit (lab_state_of old) (lab_state_of new)) (λ old line text refused new. TriesLine (lab_state_of old) line text refused (lab_state_of new)) (λ line. line_asked line ≡ None) known before after)
    (IsExperiment known before after) c.run_script.result
    (λ status run. script_seen (λ old line text refused new. TriesLine (lab_state_of old) line text refused (lab_state_of new)) TriesLine (λ line. line_asked line ≡ None) (λ line. line_asked line ≡ None) lab_state_of (λ old line text refused new tried. tried) (λ line none. none)
    (λ hives laboratory. IsNew hives (lab_state_of laboratory)) IsNew (λ limit old new. IsLimited limit (lab_state_of old) (lab_state_of new)) IsLimited (λ hives laboratory made. made) (λ limit old new limited. limited) known before after status run)
    c.run_script.ensures
