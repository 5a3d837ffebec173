use Rattle.reg_file.proofs.FileLaws.{read_file, parsed_file, one_file, stopped_file}
use Rattle.reg_file.proofs.laws.files_are_parsed.Goals as goal

pub returns-clause-read : goal.returns-clause-read
returns-clause-read c = read_file

pub returns-clause-parsed : goal.returns-clause-parsed
returns-clause-parsed c = parsed_file

pub returns-clause-one : goal.returns-clause-one
returns-clause-one c = one_file

pub returns-clause-stopped : goal.returns-clause-stopped
returns-clause-stopped c = stopped_file
