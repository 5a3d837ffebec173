use Rattle.commit_journal.proofs.HeaderRead.{one_store}
use Rattle.commit_journal.proofs.laws.one_store.Goals as goal

pub returns : goal.returns
returns c = one_store
