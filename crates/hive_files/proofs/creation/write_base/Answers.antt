use Rattle.std.proofs.Common.{ℕ, List, length, ap, ◌∙◌, ◌++◌}
use Rattle.std.proofs.lemmas.Result.{on_ok_weaker}
use Rattle.hive_files.proofs.Anew.{appended, cut_away, lengthened}
use Rattle.hive_files.proofs.creation.write_base.Goals as goal

pub returns-clause-seen : goal.returns-clause-seen
returns-clause-seen g c = on_ok_weaker c.cut-2.result (λ cuts faithful.
    let written = c.cut-2.ensures.faithful faithful in
    let emptied = cut_away _ _ (c.in_ok-cut.ensures.cut (c.in_ok-write_at.ensures.faithful written)) in
    let put = appended 0 c.args.sector.now _ _ (c.in_ok-write_at.ensures.written written) (ap (λ (l : List ℕ). length l) emptied) ∙ ap (λ (l : List ℕ). l ++ c.args.sector.now) emptied in
    lengthened c.args.sector.now _ _ c.requires.long put (cuts faithful)) c.cut-2.ensures.cut
