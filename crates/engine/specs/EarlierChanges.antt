-- The changes before an engine's history.
use Rattle.std.specs.Prelude.{List, ◌++◌}
use Rattle.reg_tree.specs.declared.element.Element.{Element}
use Rattle.commit_journal.specs.Journals.{changes_of}
use Rattle.engine.specs.declared.earlier_changes.EarlierChanges.{EarlierChanges, Decoded, Folded'}

-- in their order: those that the journal decoded to at the opening, and those of each history folded since
abbrev pub changes_before : EarlierChanges → List Element
changes_before (Decoded journal) = changes_of journal.value
changes_before (Folded' shape before store) = changes_before before ++ store.value.machine.accepted
