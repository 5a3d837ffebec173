use Rattle.reg_names.specs.Names.{folded_path}
use Rattle.store_values.specs.FileAnswers.{HasKey, LacksKey}
use Rattle.store_values.proofs.FileLookups.{in_file, not_in_file}
use Rattle.store_values.proofs.file_lookup.key_in_file.Goals as goal

pub returns-in-Ok-key_of_image-clause-found : goal.returns-in-Ok-key_of_image-clause-found
returns-in-Ok-key_of_image-clause-found g c = in_file (λ split cells root. HasKey split cells root (folded_path c.args.path.now) c.in-Ok-key_of_image.found.0.items c.in-Ok-key_of_image.found.1)
    (g.R.Read.remaining c.args.reader.now) c.args.hive c.in-Ok.read.0 c.in-Ok.read.1.bytes c.in-Ok.ensures.read.0 c.in-Ok.ensures.read.1 c.in-Ok-key_of_image.ensures

pub returns-clause-missing : goal.returns-clause-missing
returns-clause-missing g c = not_in_file (λ split cells root. LacksKey split cells root (folded_path c.args.path.now))
    (g.R.Read.remaining c.args.reader.now) c.args.hive c.in-Ok.read.0 c.in-Ok.read.1.bytes c.in-Err-key_of_image.refusal c.in-Ok.ensures.read.0 c.in-Ok.ensures.read.1 c.in-Err-key_of_image.ensures
