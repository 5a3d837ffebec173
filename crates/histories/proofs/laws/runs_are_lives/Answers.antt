use Rattle.histories.proofs.ProgramRuns.{lives_of}
use Rattle.commit_journal.specs.Store.{all_hives}
use Rattle.histories.proofs.laws.runs_are_lives.Goals as goal

pub returns : goal.returns
returns c store machine state runs is many safe seen rest =
    let lives = lives_of (all_hives store) state runs rest in
    let own = c.lives_have_one_store.ensures store machine state lives.0 is many safe seen lives.1 in
    (lives.0, own, lives.2, c.lives_go_on.ensures store machine state lives.0 is many safe seen own)
