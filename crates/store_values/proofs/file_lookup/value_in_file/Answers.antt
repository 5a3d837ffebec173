use Rattle.reg_names.specs.Names.{folded, folded_path}
use Rattle.store_values.specs.FileAnswers.{HasValue, LacksValue}
use Rattle.store_values.proofs.FileLookups.{in_file, not_in_file}
use Rattle.store_values.proofs.file_lookup.value_in_file.Goals as goal

pub returns-in-Ok-value_of_image-clause-found : goal.returns-in-Ok-value_of_image-clause-found
returns-in-Ok-value_of_image-clause-found g c = in_file (λ split cells root. HasValue split cells root (folded_path c.args.path.now) (folded c.args.name.now) c.in-Ok-value_of_image.value)
    (g.R.Read.remaining c.args.reader.now) c.args.hive c.in-Ok.read.0 c.in-Ok.read.1.bytes c.in-Ok.ensures.read.0 c.in-Ok.ensures.read.1 c.in-Ok-value_of_image.ensures

pub returns-clause-missing : goal.returns-clause-missing
returns-clause-missing g c = not_in_file (λ split cells root. LacksValue split cells root (folded_path c.args.path.now) (folded c.args.name.now))
    (g.R.Read.remaining c.args.reader.now) c.args.hive c.in-Ok.read.0 c.in-Ok.read.1.bytes c.in-Err-value_of_image.refusal c.in-Ok.ensures.read.0 c.in-Ok.ensures.read.1 c.in-Err-value_of_image.ensures
