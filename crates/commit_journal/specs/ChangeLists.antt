-- The list of changes into which a scan puts them all.
use Rattle.std.specs.Prelude.{◌≡◌, List, ◌++◌}
use Rattle.commit_journal.specs.Numbered.{NumberedChange, changes_in}
use Rattle.commit_journal.specs.declared.scan.ChangeList.{ChangeList}

-- these changes were appended to the list
abbrev pub Appends : ChangeList → ChangeList → List NumberedChange → Type 0
Appends before after changes = after.changes.items ≡ before.changes.items ++ changes_in changes
