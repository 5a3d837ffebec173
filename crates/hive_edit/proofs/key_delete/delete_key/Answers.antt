use Rattle.reg_names.specs.Names.{folded_path}
use Rattle.hive_edit.proofs.KeyCounts.{still_encodes}
use Rattle.hive_edit.proofs.key_delete.delete_key.Goals as goal

pub returns-clause-done : goal.returns-clause-done
returns-clause-done c = λ is hive tree encodes legal.
    let found = c.in-Some.ensures 5 tree encodes in
    c.drop_key.ensures.done is hive tree
    (still_encodes c.args.image.now.bytes c.count_key.new.image.bytes c.args.root tree c.tiles.ensures.tiles (λ way to g. c.in_ok-count_key.ensures.found c.args.root tree tree (folded_path c.args.path.now) way to found g) encodes)
