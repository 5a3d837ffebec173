-- The commits of a history.
use Rattle.std.specs.Prelude.{List, [], ◌∷◌, ◌++◌}
use Rattle.commit_outcomes.specs.Units.{unit_name}
use Rattle.commit_outcomes.specs.Commits.{Commit}
use Rattle.transactions.specs.declared.commit_log.CommitLog.{CommitLog, Nothing, Then'}

-- in their order: of each its number and its unit's name
abbrev pub commits_in : CommitLog → List Commit
commits_in Nothing = []
commits_in (Then' shape before number unit) = commits_in before ++ (number.value, unit_name unit.value) ∷ []
