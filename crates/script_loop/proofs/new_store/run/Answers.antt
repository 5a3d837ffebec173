use Rattle.std.proofs.Common.{◌≡◌, ◌∙◌, ℕ, List, Some, None, ap, sym, subst}
use Rattle.std.specs.Prelude.{IfNone, IfSome}
use Rattle.std.specs.Io.KnownBytes.{Appends}
use Rattle.reply_lines.specs.declared.status.Status.TheVariants.{Wrong}
use Rattle.script_loop.specs.Ends.{EndsScript, wrong_text}
use Rattle.script_loop.specs.FirstLines.{hives_asked}
use Rattle.script_loop.specs.NewStores.{IsRunOverNew, IsScriptRun}
use Rattle.script_loop.specs.declared.end_of_script.EndOfScript.TheVariants.{OutOfMemory}
use Rattle.script_loop.proofs.NewRuns.{begins, begins_without_memory, begins_wrong}
use Rattle.script_loop.proofs.Texts.{if_ok}
use Rattle.script_loop.proofs.new_store.run.Goals as goal

pub returns-in-Ok-Some : goal.returns-in-Ok-Some
returns-in-Ok-Some g c =
    let S = g.S.ScriptedStore in
    let A = g.S.Answerer in
    let known = g.R.Read.remaining c.args.reader.now in
    let rest = g.R.Read.remaining c.next_line.new.reader in
    let before = g.W.Write.contents c.args.writer.now in
    let mid = g.W.Write.contents c.write.new.writer in
    let after = g.W.Write.contents c.run_over_new.new.writer in
    let some = subst (λ made. IfSome made (λ store. (hives : ℕ) × (hives_asked c.deref.result.now ≡ Some hives) × S.is_made hives store)) c.in-Ok-Some.field-0-is c.in-Ok-Some.ensures.some in
    let new = c.in-Ok-Some.store in
    if_ok (IsRunOverNew S.is_limited A.answers A.is_none new rest mid after) (IsScriptRun S.is_made S.is_limited A.answers A.is_none known before after) c.run_over_new.result
    (λ status on. begins S.is_made S.is_limited A.answers A.is_none known rest before mid after c.next_line.new.line.items some.0 new status c.in-Ok.ensures.line (ap hives_asked (sym c.deref.ensures.value) ∙ some.1) some.2 c.in_ok-write-in-Ok-Some.ensures on)
    c.run_over_new.ensures

pub returns-in-Ok-None : goal.returns-in-Ok-None
returns-in-Ok-None g c =
    let S = g.S.ScriptedStore in
    let A = g.S.Answerer in
    let known = g.R.Read.remaining c.args.reader.now in
    let before = g.W.Write.contents c.args.writer.now in
    let after = g.W.Write.contents c.wrong-in-Ok-None.new.writer in
    let none : hives_asked c.deref.result.now ≡ None = subst (λ made. IfNone made (hives_asked c.deref.result.now ≡ None)) c.in-Ok-None.field-0-is c.in-Ok-None.ensures.none in
    if_ok (λ status. (status ≡ Wrong) × Appends before after (wrong_text 1)) (IsScriptRun S.is_made S.is_limited A.answers A.is_none known before after) c.wrong-in-Ok-None.result
    (λ status said. begins_wrong S.is_made S.is_limited A.answers A.is_none known (g.R.Read.remaining c.next_line.new.reader) before after c.next_line.new.line.items status c.in-Ok.ensures.line (ap hives_asked (sym c.deref.ensures.value) ∙ none) said.0 said.1)
    c.wrong-in-Ok-None.ensures

pub returns : goal.returns
returns g c =
    let S = g.S.ScriptedStore in
    let A = g.S.Answerer in
    let known = g.R.Read.remaining c.args.reader.now in
    let before = g.W.Write.contents c.args.writer.now in
    let after = g.W.Write.contents c.end-in-Err-begin.new.writer in
    if_ok (λ status. (text : List ℕ) × EndsScript OutOfMemory text status × Appends before after text) (IsScriptRun S.is_made S.is_limited A.answers A.is_none known before after) c.end-in-Err-begin.result
    (λ status said. begins_without_memory S.is_made S.is_limited A.answers A.is_none known before after said.0 status said.1 said.2)
    c.end-in-Err-begin.ensures
