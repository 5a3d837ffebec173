-- The newest of several logs.
use Rattle.std.proofs.Common.{◌≡◌, ◌<◌, ℕ, suc, ◌+◌, List, ◌∷◌, length, drop, get_or, Option, Some, sym, ◌∙◌, ap, if◌then◌else◌, add-one, drop-cons}
use Rattle.base_block.specs.declared.fields.SequenceNumber.{SequenceNumber}
use Rattle.hive_recovery.specs.Plans.{newest_of, is_newer}
use Rattle.hive_recovery.specs.declared.log.Log.{Log}

-- one log more was compared
pub newest_more : (most : Option SequenceNumber) (logs : List Log) (index : ℕ) (log : Log) (best found total : Option Log) → index < length logs → log ≡ get_or logs index log →
    found ≡ (if is_newer most best log then Some log else best) → newest_of most best (drop index logs) ≡ total → newest_of most found (drop (index + 1) logs) ≡ total
newest_more most logs index log best found total less is made before =
    let rest = drop (suc index) logs in
    ap (λ n. newest_of most found (drop n logs)) (add-one index)
    ∙ ap (λ other. newest_of most other rest) made
    ∙ ap (λ other. newest_of most best (other ∷ rest)) is
    ∙ ap (newest_of most best) (sym (drop-cons logs index log less))
    ∙ before
