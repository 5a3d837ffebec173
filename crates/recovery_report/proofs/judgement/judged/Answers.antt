use Rattle.std.proofs.Common.{List, ℕ, refl, sym, ◌∙◌, subst}
use Rattle.dirt_log.specs.WholeLog.{block_of}
use Rattle.hive_check.specs.Findings.{IsReportOf}
use Rattle.recovery_report.proofs.Held.{numbers_equal, tree_found}
use Rattle.recovery_report.proofs.judgement.judged.Goals as goal

pub returns-in-Whole : goal.returns-in-Whole
returns-in-Whole c =
    let bytes = c.args.bytes.items in
    let Told : List ℕ → Type 0 = λ file. IsReportOf file c.in-Ok.report in
    let told = subst Told c.as_slice.ensures.value c.in-Ok.ensures in (
      record { bytes_are = refl; first = c.requires.1; second = numbers_equal (block_of bytes) c.requires.0 ∙ c.requires.1; clean = refl; found = told },
      tree_found bytes c.in-Ok.report.finding told.1 (sym c.verdict_on-verdict.ensures ∙ c.in-Whole.is),
    )

pub returns-in-NotWhole : goal.returns-in-NotWhole
returns-in-NotWhole c =
    let bytes = c.args.bytes.items in
    let Told : List ℕ → Type 0 = λ file. IsReportOf file c.in-Ok.report in
    let told = subst Told c.as_slice.ensures.value c.in-Ok.ensures in (
      record { bytes_are = refl; first = c.requires.1; second = numbers_equal (block_of bytes) c.requires.0 ∙ c.requires.1; clean = refl; found = told },
      sym c.verdict_on-verdict.ensures ∙ c.in-NotWhole.is,
    )
