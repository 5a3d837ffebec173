use Rattle.std.proofs.Common.{◌≡◌, ◌<◌, ℕ}
use Rattle.std.specs.Prelude.{slice_index_or}
use mathlib.Core.List.{IsPrefix}
use Rattle.shared_store.proofs.account.seen_by_all.Given as goal

-- what each of the accounts so far had seen begins what is seen of all
abbrev pub invariant-loop-i : goal.invariant-loop-i
invariant-loop-i g l =
    (l.all.book ≡ l.before.book) × IsPrefix l.before.log l.all.log
    × ((k : ℕ) (d : _) → k < l.i → IsPrefix (slice_index_or l.accounts.items k d).seen.log l.all.log)
