use Rattle.std.proofs.Common.{◌≡◌, ◌++◌, take}
use Rattle.commit_journal.specs.GhostLog.{logged_elements}
use Rattle.change_codec.specs.ModelChanges.{timed_elements}
use Rattle.commit_journal.proofs.ghost_log.GhostLog.then_all.Given as goal

abbrev pub invariant-loop-element : goal.invariant-loop-element
invariant-loop-element l = logged_elements l.self ≡ logged_elements l.fn.self ++ timed_elements (take l.element-index l.elements)
