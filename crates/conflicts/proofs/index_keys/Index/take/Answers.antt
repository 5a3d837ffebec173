use Rattle.std.proofs.Common.{ap, ◌∙◌}
use Rattle.std.specs.Set.{remove_key}
use Rattle.std.specs.BTreeMap.{is_at}
use Rattle.conflicts.specs.IndexKeys.{pair_order, text_hash}
use Rattle.conflicts.proofs.index_keys.Index.take.Goals as goal

pub returns-clause-hashes : goal.returns-clause-hashes
returns-clause-hashes c = c.remove-2.ensures.keys ∙ ap (λ h. remove_key (is_at (pair_order (h, c.args.index_key.now.1))) c.args.self.now.hashes.keys) (c.hash_of.ensures ∙ ap text_hash c.deref.ensures.value)
