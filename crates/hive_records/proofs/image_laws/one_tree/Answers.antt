use Rattle.hive_records.proofs.Images.{one_image, image_tree, image_fault}
use Rattle.hive_records.proofs.image_laws.one_tree.Goals as goal

pub returns-clause-one : goal.returns-clause-one
returns-clause-one c = λ bytes root minor t u a b. one_image bytes root minor t u a b

pub returns-clause-is : goal.returns-clause-is
returns-clause-is c = λ bytes root minor tree s. image_tree bytes root minor tree s

pub returns-clause-fault : goal.returns-clause-fault
returns-clause-fault c = λ bytes root minor tree refusal f s. image_fault bytes root minor tree refusal f s
