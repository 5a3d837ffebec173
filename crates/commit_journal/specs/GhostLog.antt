-- The elements that a journal was handed or has read.
use Rattle.std.specs.Prelude.{ℕ, List, [], ◌∷◌, ◌++◌}
use Rattle.reg_tree.specs.declared.element.Element.{Element}
use Rattle.crash_model.specs.Changes as law
use Rattle.crash_model.specs.Promises.{Content}
use Rattle.change_codec.specs.ModelChanges.{TimedOp, timed_element}
use Rattle.commit_journal.specs.declared.ghost_log.GhostLog.{GhostLog, Nothing, Then', Same'}

abbrev pub logged_elements : GhostLog → List (law.Element TimedOp)
logged_elements Nothing = []
logged_elements (Then' shape before element) = logged_elements before ++ timed_element element.value ∷ []
logged_elements (Same' shape before) = logged_elements before

-- the same, as changes
abbrev pub logged_changes : GhostLog → List Element
logged_changes Nothing = []
logged_changes (Then' shape before element) = logged_changes before ++ element.value ∷ []
logged_changes (Same' shape before) = logged_changes before

abbrev pub logged_content : ℕ → GhostLog → Content TimedOp
logged_content below ghost_log = record { below = below; elements = logged_elements ghost_log }
