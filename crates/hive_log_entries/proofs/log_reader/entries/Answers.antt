use Rattle.std.proofs.Common.{[], List, ℕ, refl, sym, subst}
use Rattle.std.proofs.lemmas.List.{append-nil}
use Rattle.hive_log_entries.specs.Logs.{EntriesAre}
use Rattle.hive_log_entries.proofs.log_reader.entries.Goals as goal

pub returns-in-Err : goal.returns-in-Err
returns-in-Err c =
    let read = c.entries.invariant [] c.entries.at c.in-Err.end (sym c.in-Err.ensures.reading, refl) in
    let P : List (List ℕ) → Type 0 = λ found. EntriesAre c.args.log.now found c.entries.at c.in-Err.end in
    subst P (append-nil c.entries.entries.items) read
