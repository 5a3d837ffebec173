use Rattle.std.proofs.Common.{◌≡◌, ◌∙◌, ◌+◌, ◌-◌, ◌*◌, ◌++◌, List, length, ap, sym, subst, arith}
use Rattle.crash_model.specs.Changes as law
use Rattle.crash_model.specs.Promises.{Content, floor}
use Rattle.change_codec.specs.ModelChanges.{TimedOp, timed_elements}
use Rattle.commit_journal.specs.OnDisk.{with_elements}
use Rattle.commit_journal.specs.GhostLog.{logged_elements, logged_content}
use Rattle.commit_journal.specs.Extent.{ExtentMatches}
use Rattle.commit_journal.proofs.Batches.{room_sum, longer_kept, floor_here, floor_none}
use Rattle.commit_journal.proofs.extent.Extent.with_elements.Goals as goal
use Rattle.commit_journal.proofs.extent.Extent.with_elements.Goals.{then-self-eq0, else-self-eq0}

pub overflow_add-result-2 : goal.overflow_add-result-2
overflow_add-result-2 c = let k = c.args.self.now.kept in omega (arith, room_sum c.args.elements.now, c.requires.room, c.requires.size, k.within)

pub overflow_add-result-5 : goal.overflow_add-result-5
overflow_add-result-5 c = let k = c.args.self.now.kept in omega (arith, room_sum c.args.elements.now, c.requires.room, c.requires.size, k.within)

pub invariant_of-result : goal.invariant_of-result
invariant_of-result c =
    let me = c.args.self.now in
    let s = logged_content me.below me.ghost_log in
    let es = c.args.elements.now in
    let d = c.args.first - 1 in
    let below : c.if-self-eq0.result ≡ floor d s = elim c.if-self-eq0.branch [
      | then-self-eq0 w ↦ w.result-is ∙ sym (floor_none d me.last me.gate me.used s me.kept w.if-self-eq0.true)
      | else-self-eq0 w ↦ w.result-is ∙ sym (floor_here d me.last me.gate me.used s me.kept (omega (arith, w.if-self-eq0.false)))
    ] in
    let ghost_log : logged_elements c.then_all.new.self ≡ logged_elements me.ghost_log ++ timed_elements es = c.then_all.ensures ∙ ap (λ (l : List (law.Element TimedOp)). l ++ timed_elements es) c.same-ghost_log.ensures.ghost_log in
    let same : with_elements s d (timed_elements es) ≡ logged_content c.if-self-eq0.result c.then_all.new.self = λ i. record { below = sym below i; elements = sym ghost_log i } in
    record {
      kept = subst (λ (x : Content TimedOp). ExtentMatches (me.gate + 1 + c.args.size) (d + length es) (me.used + 17 * length es + (c.args.size - 16)) x) same
          (longer_kept me.gate me.last me.used s c.args.first c.args.size es me.kept c.requires.some c.requires.number c.requires.ends c.requires.size);
    }
