use Rattle.std.proofs.Common.{◌≡◌, None}
use Rattle.disk_model.specs.declared.mem_disk.MemDisk.{MemDisk}
use Rattle.script_loop.specs.NewStores.{IsScriptRun}
use Rattle.script_loop.proofs.Texts.{if_ok}
use Rattle.script_loop.proofs.Views.{script_seen}
use Rattle.script_runner.specs.Interpreters.{script_of}
use Rattle.script_runner.specs.Plays.{IsPlayed, PlaysLine}
use Rattle.script_runner.specs.Scripts.{Script, fresh_script, limited, line_asked}
use Rattle.script_runner.specs.declared.interpreter.Interpreter.{Interpreter}
use Rattle.script_runner.proofs.runner.play.Goals as goal

-- the run is seen as that of its script
pub returns : goal.returns
returns g c =
    let known = g.R.Read.remaining c.args.reader.now in
    let before = g.W.Write.contents c.args.writer.now in
    let after = g.W.Write.contents c.run_script.new.writer in
    let view : Interpreter MemDisk → Script = script_of in
    if_ok
    (IsScriptRun (λ hives store. view store ≡ fresh_script hives) (λ limit old new. view new ≡ limited limit (view old)) (λ old line text refused new. PlaysLine (view old) line text refused (view new)) (λ line. line_asked line ≡ None) known before after)
    (IsPlayed known before after) c.run_script.result
    (λ status run. script_seen (λ old line text refused new. PlaysLine (view old) line text refused (view new)) PlaysLine (λ line. line_asked line ≡ None) (λ line. line_asked line ≡ None) view (λ old line text refused new played. played) (λ line none. none)
    (λ hives store. view store ≡ fresh_script hives) (λ hives script. script ≡ fresh_script hives) (λ limit old new. view new ≡ limited limit (view old)) (λ limit old new. new ≡ limited limit old) (λ hives store made. made) (λ limit old new limited. limited) known before after status run)
    c.run_script.ensures
