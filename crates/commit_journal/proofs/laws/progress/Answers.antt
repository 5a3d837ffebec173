use Rattle.commit_journal.proofs.Progress.{eight}
use Rattle.commit_journal.proofs.Longer.{with_elements}
use Rattle.commit_journal.proofs.laws.progress.Goals as goal

pub returns : goal.returns
returns c = record {
  on_device = λ journals nearer. eight journals nearer;
  with_elements = λ journals steps. with_elements journals steps;
}
