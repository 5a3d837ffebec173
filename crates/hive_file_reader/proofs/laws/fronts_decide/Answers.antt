use Rattle.hive_file_reader.proofs.Fronts.{front_has, front_holds, front_refused}
use Rattle.hive_file_reader.proofs.laws.fronts_decide.Goals as goal

pub returns-clause-bins : goal.returns-clause-bins
returns-clause-bins c = λ front file block bins is has. front_has front file bins block is has

pub returns-clause-holds : goal.returns-clause-holds
returns-clause-holds c = λ front file tree is holds. front_holds front file tree is holds

pub returns-clause-refused : goal.returns-clause-refused
returns-clause-refused c = λ hive front file why is refused. front_refused hive front file why is refused
