use Rattle.std.proofs.Common.{ℕ, List, ap, subst}
use Rattle.std.proofs.lemmas.List.{take_all}
use Rattle.reg_names.specs.Names.{folded_path}
use Rattle.hive_edit_laws.specs.Found.{KeyFound}
use Rattle.hive_edit_laws.proofs.KeySearch.{root_found}
use Rattle.hive_edit.proofs.keys.find_key.Goals as goal

pub loop-name-init : goal.loop-name-init
loop-name-init c = λ minor tree h. root_found c.args.image.now.bytes c.args.root minor tree h

pub returns : goal.returns
returns c = λ minor tree h. subst (λ (p : List (List ℕ)). KeyFound c.args.image.now.bytes c.args.root minor tree p c.loop-name.at) (ap folded_path (take_all c.loop-name.name-index c.args.names.now c.loop-name-test.false)) (c.loop-name.invariant minor tree h)
