use Rattle.std.proofs.Common.{◌≡◌, ◌≤◌, ◌<◌, ◌-◌, ℕ, not}
use Rattle.dirty_vector.specs.Marks.{is_marked}
use Rattle.dirty_vector.proofs.marks.first_page.Given as goal

abbrev pub invariant-loop-page : goal.invariant-loop-page
invariant-loop-page l = record { after : l.from ≤ l.page; before : (p : ℕ) → l.from ≤ p → p < l.page → p < l.end → is_marked l.words p ≡ not l.marked }

abbrev pub decreases-loop-page : goal.decreases-loop-page
decreases-loop-page l = l.end - l.page
