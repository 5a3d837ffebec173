use Rattle.commit_journal.proofs.Reading.{extent_decodes}
use Rattle.commit_journal.proofs.Numbers.{prefix_push}
use Rattle.commit_journal.proofs.laws.encoding.Goals as goal

pub returns : goal.returns
returns g c = record { decodes = λ t. extent_decodes t; more = λ t now used durable prefix chunk b. prefix_push t now used durable prefix chunk b }
