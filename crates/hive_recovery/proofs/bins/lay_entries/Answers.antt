use Rattle.std.proofs.Common.{◌∙◌, ℕ, Option, ap, sym, take}
use Rattle.std.proofs.lemmas.List.Sums.{fold_more}
use Rattle.std.proofs.lemmas.List.{take_all}
use Rattle.hive_recovery.specs.Laid.{laid, entry_laid}
use Rattle.hive_recovery.proofs.bins.lay_entries.Goals as goal

pub entries-preserved : goal.entries-preserved
entries-preserved c = λ image held place less.
    let before : ℕ → Option ℕ = laid image (take c.entries.entry-index c.args.entries.now) in
    c.lay_entry.ensures before (c.entries.invariant image held) place less
    ∙ ap (λ entry. entry_laid before entry place) c.entry-item.is
    ∙ ap (λ (made : ℕ → Option ℕ). made place) (sym (fold_more entry_laid image c.args.entries.now c.entries.entry-index c.entry-item.result c.entries-test.true))

pub returns : goal.returns
returns c = λ image held place less.
    c.entries.invariant image held place less
    ∙ ap (λ entries. laid image entries place) (take_all c.entries.entry-index c.args.entries.now c.entries-test.false)
