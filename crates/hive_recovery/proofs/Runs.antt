-- Runs of logs, one behind the other.
use Rattle.std.proofs.Common.{◌≡◌, ℕ, Bool, true, false, Option, Some, None, if◌then◌else◌, List, [], ◌∷◌, ◌++◌, refl, sym, ◌∙◌, ap, append_assoc}
use Rattle.std.proofs.lemmas.List.{append-nil}
use Rattle.base_block.specs.declared.fields.SequenceNumber.{SequenceNumber}
use Rattle.hive_recovery.specs.Runs.{IsRunOf, AreRunsOf}
use Rattle.hive_recovery.specs.Sequences.{begins}
use Rattle.hive_recovery.specs.Limits.{starting}
use Rattle.hive_recovery.specs.Sequences.{is_older, left_from}
use Rattle.hive_log_entries.specs.Entries.{number_of}
use Rattle.hive_recovery.specs.declared.log.Log.{Log}
use Rattle.hive_recovery.specs.declared.sequence.LogRun.{LogRun}

-- one run more
pub run_more : (most : Option SequenceNumber) (logs : List Log) (runs : List LogRun) (run : LogRun) (entries part : List (List ℕ)) → AreRunsOf most logs runs entries → IsRunOf most logs run part → AreRunsOf most logs (runs ++ run ∷ []) (entries ++ part)
run_more most logs [] run entries part none one = (part, [], ap (λ begun. begun ++ part) none ∙ sym (append-nil part), one, refl)
run_more most logs (first ∷ rest) run entries part (own, more, same, of_log, others) one =
    (own, more ++ part, ap (λ begun. begun ++ part) same ∙ append_assoc own more part, of_log, run_more most logs rest run more part others one)

-- what is left from a number on are the last entries
pub left_last : (number : ℕ) (entries : List (List ℕ)) → (before : List (List ℕ)) × (entries ≡ before ++ left_from number entries)
left_last number [] = ([], refl)
left_last number (entry ∷ rest) =
    let Left : Bool → Type 0 = λ older. (before : List (List ℕ)) × (entry ∷ rest ≡ before ++ (if older then left_from number rest else entry ∷ rest)) in
    let found = left_last number rest in
    elim (is_older (number_of entry).0 number) as Left [
      | true ↦ (entry ∷ found.0, ap (λ after. entry ∷ after) found.1)
      | false ↦ ([], refl)
    ]

-- what begins with the first number are the last entries
pub starting_last : (first : Option SequenceNumber) (entries : List (List ℕ)) → (before : List (List ℕ)) × (entries ≡ before ++ starting first entries)
starting_last None entries = ([], refl)
starting_last (Some number) entries =
    let left = left_from number.0 entries in
    let Last : Bool → Type 0 = λ there. (before : List (List ℕ)) × (entries ≡ before ++ (if there then left else [])) in
    elim (begins number.0 left) as Last [
      | true ↦ left_last number.0 entries
      | false ↦ (entries, sym (append-nil entries))
    ]
