use Rattle.std.proofs.Common.{◌≡◌, ◌∙◌, ◌+◌, ◌-◌, ◌*◌, ◌++◌, List, length, take, drop, take-append-drop, ap, sym, subst, arith}
use Rattle.std.proofs.lemmas.List.{map-append}
use Rattle.crash_model.specs.Changes as law
use Rattle.crash_model.specs.Promises.{Content, floor}
use Rattle.change_codec.specs.ModelChanges.{TimedOp, timed_element, timed_elements}
use Rattle.commit_journal.specs.OnDisk.{with_elements}
use Rattle.commit_journal.specs.GhostLog.{logged_changes, logged_elements, logged_content}
use Rattle.commit_journal.specs.Extent.{ExtentMatches}
use Rattle.commit_journal.proofs.Batches.{longer_kept, floor_here, floor_none}
use Rattle.commit_journal.proofs.Keepings.{logged_are}
use Rattle.commit_journal.proofs.extent.Extent.with_body.Goals as goal
use Rattle.commit_journal.proofs.extent.Extent.with_body.Goals.{then-self-eq0, else-self-eq0}

pub returns-clause-decodes : goal.returns-clause-decodes
returns-clause-decodes c =
    let me = c.args.self.now in
    let s = logged_content me.below me.ghost_log in
    let all = logged_changes c.args.ghost_log in
    let es = drop c.args.partial_body.start all in
    let d = c.args.partial_body.first - 1 in
    let below : c.if-self-eq0.result ≡ floor d s = elim c.if-self-eq0.branch [
      | then-self-eq0 w ↦ w.result-is ∙ sym (floor_none d me.last me.gate me.used s me.kept w.if-self-eq0.true)
      | else-self-eq0 w ↦ w.result-is ∙ sym (floor_here d me.last me.gate me.used s me.kept (omega (arith, w.if-self-eq0.false)))
    ] in
    let ghost_log : logged_elements c.args.ghost_log ≡ logged_elements me.ghost_log ++ timed_elements es = logged_are c.args.ghost_log ∙ ap timed_elements (sym (take-append-drop c.args.partial_body.start all)) ∙ map-append timed_element (take c.args.partial_body.start all) es
    ∙ ap (λ (l : List (law.Element TimedOp)). l ++ timed_elements es) (sym c.requires.before) in
    λ i. record { below = below i; elements = ghost_log i }

pub invariant_of-result : goal.invariant_of-result
invariant_of-result c =
    let me = c.args.self.now in
    let s = logged_content me.below me.ghost_log in
    let all = logged_changes c.args.ghost_log in
    let es = drop c.args.partial_body.start all in
    let d = c.args.partial_body.first - 1 in
    let below : c.if-self-eq0.result ≡ floor d s = elim c.if-self-eq0.branch [
      | then-self-eq0 w ↦ w.result-is ∙ sym (floor_none d me.last me.gate me.used s me.kept w.if-self-eq0.true)
      | else-self-eq0 w ↦ w.result-is ∙ sym (floor_here d me.last me.gate me.used s me.kept (omega (arith, w.if-self-eq0.false)))
    ] in
    let ghost_log : logged_elements c.args.ghost_log ≡ logged_elements me.ghost_log ++ timed_elements es = logged_are c.args.ghost_log ∙ ap timed_elements (sym (take-append-drop c.args.partial_body.start all)) ∙ map-append timed_element (take c.args.partial_body.start all) es
    ∙ ap (λ (l : List (law.Element TimedOp)). l ++ timed_elements es) (sym c.requires.before) in
    let same : with_elements s d (timed_elements es) ≡ logged_content c.if-self-eq0.result c.args.ghost_log = λ i. record { below = sym below i; elements = sym ghost_log i } in
    let kept = longer_kept me.gate me.last me.used s c.args.partial_body.first c.args.partial_body.size es me.kept (omega (arith, c.requires.some, c.requires.count)) c.requires.number c.requires.ends c.requires.size in
    record {
      kept = subst (λ n. ExtentMatches (me.gate + 1 + c.args.partial_body.size) (d + n) (me.used + 17 * n + (c.args.partial_body.size - 16)) (logged_content c.if-self-eq0.result c.args.ghost_log)) (sym c.requires.count)
          (subst (λ (x : Content TimedOp). ExtentMatches (me.gate + 1 + c.args.partial_body.size) (d + length es) (me.used + 17 * length es + (c.args.partial_body.size - 16)) x) same kept);
    }
