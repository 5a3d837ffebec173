use Rattle.std.proofs.Common.{ap, ◌∙◌}
use Rattle.std.specs.Set.{remove_key}
use Rattle.std.specs.BTreeMap.{is_at}
use Rattle.std.specs.BTreeSet.{insert_key}
use Rattle.conflicts.specs.IndexKeys.{pair_order, text_hash}
use Rattle.conflicts.specs.declared.index_keys.Index.{Index}
use Rattle.conflicts.proofs.Listed.{others_stay}
use Rattle.conflicts.proofs.index_keys.Index.put.Goals as goal

pub returns-in-Err-clause-err : goal.returns-in-Err-clause-err
returns-in-Err-clause-err c =
    let new : Index = record { index_keys = c.insert-2.new.self; hashes = c.remove.new.self } in
    others_stay c.args.self.now new c.args.index_key c.in-Err.ensures.err
    (c.remove.ensures.keys ∙ ap (λ h. remove_key (is_at (pair_order (h, c.args.index_key.1))) c.insert.new.self.keys) (c.hash_of.ensures ∙ ap text_hash c.deref.ensures.value)
    ∙ ap (remove_key (is_at (pair_order (text_hash c.args.index_key.0.items, c.args.index_key.1)))) (c.in_ok-insert.ensures.keys ∙ ap (λ h. insert_key pair_order c.args.self.now.hashes.keys (h, c.args.index_key.1)) (c.hash_of.ensures ∙ ap text_hash c.deref.ensures.value)))
