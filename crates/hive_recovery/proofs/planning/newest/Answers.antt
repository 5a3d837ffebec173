use Rattle.std.proofs.Common.{ℕ, ◌+◌, Bool, Option, Some, Bor, length, refl, sym, ◌∙◌, ap, subst, if◌then◌else◌}
use Rattle.std.specs.Prelude.{option_map, IfSome}
use Rattle.std.proofs.lemmas.Option.{slice_get_read}
use Rattle.hive_recovery.specs.declared.log.Log.{Log}
use Rattle.hive_recovery.specs.Runs.{IsNumbered}
use Rattle.hive_recovery.proofs.Newest.{newest_more}
use Rattle.hive_recovery.proofs.planning.newest.Goals.{then-is_ahead, else-is_ahead}
use Rattle.hive_recovery.proofs.planning.newest.Goals as goal

pub logs-preserved : goal.logs-preserved
logs-preserved c =
    let logs = c.args.logs.now in
    let log = c.index-logs-index.result in
    let known : Option (Bor Log) → Option Log = λ best. option_map (λ other. other.now) best in
    let pick : Bool → Option Log = λ newer. if newer then Some log else known c.logs.best in
    let There : Option (Bor Log) → ℕ → Type 0 = λ best number. IfSome best (λ other. IsNumbered logs number other.now) in
    elim c.if-is_ahead.branch [
      | then-is_ahead w ↦ (
        newest_more c.args.most logs c.logs.index log (known c.logs.best) (known c.if-is_ahead.best) _ c.logs-test.true c.index-logs-index.is (ap known w.best-is ∙ ap pick w.if-is_ahead.ensures) c.logs.invariant.0,
        subst (λ (number : ℕ). There c.if-is_ahead.best number) (sym w.number-is)
            (subst (λ (best : Option (Bor Log)). There best (c.logs.index + 1)) (sym w.best-is) (c.logs.index, refl, slice_get_read logs (length logs) c.logs.index log refl c.logs-test.true c.index-logs-index.is)),
      )
      | else-is_ahead w ↦ (
        newest_more c.args.most logs c.logs.index log (known c.logs.best) (known c.if-is_ahead.best) _ c.logs-test.true c.index-logs-index.is (ap known w.best-is ∙ ap pick w.if-is_ahead.ensures) c.logs.invariant.0,
        subst (λ (number : ℕ). There c.if-is_ahead.best number) (sym w.number-is)
            (subst (λ (best : Option (Bor Log)). There best c.logs.number) (sym w.best-is) c.logs.invariant.1),
      )
    ]
