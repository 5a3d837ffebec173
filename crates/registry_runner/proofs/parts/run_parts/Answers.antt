use Rattle.std.proofs.Common.{◌≡◌, ◌∙◌, ◌||◌, ◌++◌, true, List, [], append_assoc, ap, arith, refl, subst, sym}
use Rattle.std.proofs.lemmas.List.{append-nil}
use Rattle.reply_lines.specs.Statuses.{with_refusal}
use Rattle.script_loop.proofs.Running.{refusals_join}
use Rattle.histories.specs.Asked.{asked_in}
use Rattle.engine_invariant.specs.Engines.{EngineView}
use Rattle.histories.specs.Points.{HistoryEntry}
use Rattle.histories.proofs.Asked.{asked_append}
use Rattle.histories.proofs.Leading.{leads_from, leads_join}
use Rattle.registry_runner.specs.Parts.{LiesIn}
use Rattle.registry_runner.specs.Running.{EndsPart, RunsFrom}
use Rattle.registry_runner.specs.declared.parts.PartEnd.{PartEnd}
use Rattle.registry_runner.specs.declared.parts.PartStart.{PartStart}
use Rattle.registry_runner.proofs.Ending.{folded_from, not_folded, prefix_first, prefix_front, with_earlier}
use Rattle.registry_runner.proofs.Folding.{folded_of_store, of_store}
use Rattle.registry_runner.proofs.parts.run_parts.Goals as goal

pub loop-init : goal.loop-init
loop-init g c =
    let E = g.E.StoreEngine in
    let engine = c.args.engine in (
      ([], record { opened = refl; before = omega arith; hives = refl }),
      c.requires.engine,
      c.requires.number,
      refl,
      ([], leads_from (E.state engine) (E.safe engine) (E.faithful engine) c.keeps_a_prefix.ensures, λ whole within status after runs. runs),
    )

pub returns-in-RunEnded-clause-store : goal.returns-in-RunEnded-clause-store
returns-in-RunEnded-clause-store g c = c.run_part-ended.ensures.store ∙ c.loop.invariant.3

pub returns-in-RunEnded-clause-runs : goal.returns-in-RunEnded-clause-runs
returns-in-RunEnded-clause-runs g c =
    let remaining = g.B.Read.remaining in
    let contents = g.W.Write.contents in
    let E = g.E.StoreEngine in
    let l = c.loop in
    let first = c.args.engine in
    let ended = c.run_part-ended.result.0 in
    let begun = (E.state first).machine in
    let here = (E.state l.engine).machine in
    let begun_at = E.state first in
    let here_at = E.state l.engine in
    let ended_at = E.state ended in
    let after = contents c.run_part-ended.new.writer in
    let led = l.invariant.4 in
    let own = c.run_part-ended.ensures.ends in
    let seen = own.2.0 in
    let whole = led.0 ++ own.0 in
    let ends = subst (λ (e : PartEnd). EndsPart whole led.0 l.start true here_at here.opened here.before here.bounds.hives seen (remaining l.reader) (contents l.writer) e (remaining c.run_part-ended.new.reader) after) c.in-RunEnded.is (own.2.2 whole led.0) in (
      whole,
      leads_join begun_at here_at ended_at (E.safe first) (E.safe l.engine) (E.safe ended) (E.faithful first) (E.faithful l.engine) (E.faithful ended) led.0 own.0 led.1 own.1,
      with_earlier (λ status. RunsFrom whole led.0 l.start true here_at here.opened here.before here.bounds.hives (remaining l.reader) (contents l.writer) after status)
          (λ status. RunsFrom whole [] c.args.start true begun_at begun.opened begun.before begun.bounds.hives (remaining c.args.reader.now) (contents c.args.writer.now) after status)
          l.has_refusal c.with_refusal.result c.in-RunEnded.ran (λ status runs. led.2 whole (own.0, refl) status after runs) c.with_refusal.ensures.same c.with_refusal.ensures.status
          (ends (record { lies = record { own = own.0; sees = own.2.1; within = ([], append-nil whole) }; last = refl })),
    )

pub loop-preserved : goal.loop-preserved
loop-preserved g c =
    let remaining = g.B.Read.remaining in
    let contents = g.W.Write.contents in
    let E = g.E.StoreEngine in
    let l = c.loop in
    let first = c.args.engine in
    let ended = c.run_part-ended.result.0 in
    let last = c.fold.new.engine in
    let begun = (E.state first).machine in
    let here = (E.state l.engine).machine in
    let old = (E.state ended).machine in
    let new = (E.state last).machine in
    let begun_at = E.state first in
    let here_at = E.state l.engine in
    let old_at = E.state ended in
    let new_at = E.state last in
    let rest = remaining c.run_part-ended.new.reader in
    let mid = contents c.run_part-ended.new.writer in
    let next = c.in-ToFold.next in
    let is = c.in-Ok.ensures.folded in
    let of = of_store begun.opened begun.before begun.bounds.hives l.invariant.0.0 here old l.invariant.0.1 c.run_part-ended.ensures.owner in
    let start = c.after_fold-start.ensures in
    let led = l.invariant.4 in
    let own = c.run_part-ended.ensures.ends in
    let folding = c.fold.ensures.history in
    let seen = own.2.0 in
    let on = leads_join here_at old_at new_at (E.safe l.engine) (E.safe ended) (E.safe last) (E.faithful l.engine) (E.faithful ended) (E.faithful last) own.0 folding.0 own.1 folding.1 in (
      folded_of_store begun.opened begun.before begun.bounds.hives c.in-Ok.number old new of is,
      is.idle,
      ap (λ (s : PartStart). s.number) start ∙ is.number ∙ sym is.before,
      c.fold.ensures.store ∙ c.run_part-ended.ensures.store ∙ l.invariant.3,
      (
        led.0 ++ (own.0 ++ folding.0),
        leads_join begun_at here_at new_at (E.safe first) (E.safe l.engine) (E.safe last) (E.faithful first) (E.faithful l.engine) (E.faithful last) led.0 (own.0 ++ folding.0) led.1 on,
        λ whole within status after runs.
            let ends = subst (λ (e : PartEnd). EndsPart whole led.0 l.start true here_at here.opened here.before here.bounds.hives seen (remaining l.reader) (contents l.writer) e rest mid) c.in-ToFold.is (own.2.2 whole led.0) in
            let stands : LiesIn true whole led.0 here_at seen = record { own = own.0; sees = own.2.1; within = prefix_front led.0 own.0 folding.0 whole within } in
            subst (λ s. RunsFrom whole [] c.args.start true begun_at begun.opened begun.before begun.bounds.hives (remaining c.args.reader.now) (contents c.args.writer.now) after s) (refusals_join l.has_refusal next.has_refusal status)
            (led.2 whole (prefix_first led.0 (own.0 ++ folding.0) whole within) (with_refusal next.has_refusal status) after
            (folded_from whole led.0 l.start next c.in-Ok.number true here_at here.opened here.before here.bounds.hives seen (remaining l.reader) (contents l.writer) rest mid after status stands folding.0 folding.2 old new new_at
            (ap (λ (p : EngineView). p.machine) own.1.now_is) on.now_is within c.run_part-ended.ensures.owner is ends
            (subst (λ (s : PartStart). RunsFrom whole (led.0 ++ (own.0 ++ folding.0)) s true new_at new.opened new.before new.bounds.hives rest mid after status) start runs))),
      ),
    )

pub returns-in-Err-clause-store : goal.returns-in-Err-clause-store
returns-in-Err-clause-store g c = c.fold.ensures.store ∙ c.run_part-ended.ensures.store ∙ c.loop.invariant.3

pub returns-in-Err-clause-runs : goal.returns-in-Err-clause-runs
returns-in-Err-clause-runs g c =
    let remaining = g.B.Read.remaining in
    let contents = g.W.Write.contents in
    let E = g.E.StoreEngine in
    let l = c.loop in
    let first = c.args.engine in
    let ended = c.run_part-ended.result.0 in
    let last = c.fold.new.engine in
    let begun = (E.state first).machine in
    let here = (E.state l.engine).machine in
    let begun_at = E.state first in
    let here_at = E.state l.engine in
    let old_at = E.state ended in
    let new_at = E.state last in
    let rest = remaining c.run_part-ended.new.reader in
    let mid = contents c.run_part-ended.new.writer in
    let after = contents c.write_refusal-ran.new.writer in
    let next = c.in-ToFold.next in
    let led = l.invariant.4 in
    let own = c.run_part-ended.ensures.ends in
    let folding = c.fold.ensures.history in
    let seen = own.2.0 in
    let whole = led.0 ++ (own.0 ++ folding.0) in
    let on = leads_join here_at old_at new_at (E.safe l.engine) (E.safe ended) (E.safe last) (E.faithful l.engine) (E.faithful ended) (E.faithful last) own.0 folding.0 own.1 folding.1 in
    let ends = subst (λ (e : PartEnd). EndsPart whole led.0 l.start true here_at here.opened here.before here.bounds.hives seen (remaining l.reader) (contents l.writer) e rest mid) c.in-ToFold.is (own.2.2 whole led.0) in
    let last_is : asked_in whole ≡ asked_in (led.0 ++ own.0) = ap asked_in (sym (append_assoc led.0 own.0 folding.0)) ∙ (asked_append (led.0 ++ own.0) folding.0 ∙ (ap (λ (w : List HistoryEntry). asked_in (led.0 ++ own.0) ++ w) folding.2 ∙ append-nil (asked_in (led.0 ++ own.0)))) in
    let stands : LiesIn true whole led.0 here_at seen = record { own = own.0; sees = own.2.1; within = prefix_front led.0 own.0 folding.0 whole ([], append-nil whole) } in (
      whole,
      leads_join begun_at here_at new_at (E.safe first) (E.safe l.engine) (E.safe last) (E.faithful first) (E.faithful l.engine) (E.faithful last) led.0 (own.0 ++ folding.0) led.1 on,
      with_earlier (λ status. RunsFrom whole led.0 l.start true here_at here.opened here.before here.bounds.hives (remaining l.reader) (contents l.writer) after (with_refusal next.has_refusal status))
          (λ status. RunsFrom whole [] c.args.start true begun_at begun.opened begun.before begun.bounds.hives (remaining c.args.reader.now) (contents c.args.writer.now) after status)
          (l.has_refusal || next.has_refusal) c.with_refusal-in-Err.result c.write_refusal-ran.result
          (λ status runs. subst (λ s. RunsFrom whole [] c.args.start true begun_at begun.opened begun.before begun.bounds.hives (remaining c.args.reader.now) (contents c.args.writer.now) after s) (refusals_join l.has_refusal next.has_refusal status)
          (led.2 whole (own.0 ++ folding.0, refl) (with_refusal next.has_refusal status) after runs))
          c.with_refusal-in-Err.ensures.same c.with_refusal-in-Err.ensures.status
          (not_folded whole led.0 l.start next true here_at here.opened here.before here.bounds.hives seen (remaining l.reader) (contents l.writer) rest mid after c.in-Err.why c.write_refusal-ran.result stands last_is ends c.in-Err.ensures.refused c.write_refusal-ran.ensures),
    )
