use Rattle.std.proofs.Common.{ℕ, List, subst}
use Rattle.std.specs.Prelude.{MatchOption, ◌≤◌, ◌*◌, length}
use Rattle.dirty_vector.specs.Marks.{is_marked, marked_count, IsNthMark}
use Rattle.dirty_vector.proofs.Sets.{nth_kept}
use Rattle.dirty_vector.proofs.vector.DirtyVector.nth_dirty.Goals as goal

pub returns : goal.returns
returns c =
    nth_kept c.self.inside.bins_size c.self.inside.words.items c.args.self.now c.args.index c.nth_mark.result c.self.invariant c.self.view_is
    (subst (λ (ws : List ℕ). MatchOption c.nth_mark.result (marked_count (is_marked ws) (64 * length ws) ≤ c.args.index) (IsNthMark ws c.args.index)) c.as_slice-words.ensures.value c.nth_mark.ensures)
