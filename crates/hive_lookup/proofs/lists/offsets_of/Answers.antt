use Rattle.std.proofs.Common.{◌∙◌, ap, sym}
use Rattle.hive_records.specs.Lists.{subkeys_at}
use Rattle.hive_lookup.specs.declared.list_kind.ListKind.{ListKind}
use Rattle.hive_lookup.specs.Records.{list_in_node, value_offsets_at}
use Rattle.hive_lookup.proofs.Listed.{list_of_node}
use Rattle.hive_lookup.proofs.lists.offsets_of.Goals as goal

pub returns-in-Subkeys : goal.returns-in-Subkeys
returns-in-Subkeys c = λ cells shows.
    let node = c.in-Ok.ensures cells shows in
    list_of_node c.args.kind cells c.args.key node.0 node.1 (subkeys_at c.in-Ok.node.subkey_count c.in-Ok.node.subkeys)
    ((λ j. subkeys_at (node.2.subkey_count j) (node.2.subkeys j)) ∙ ap (λ (k : ListKind). list_in_node k node.0) (sym c.in-Subkeys.is)) (λ listed. listed.items) c.subkey_offsets.result (c.subkey_offsets.ensures cells shows)

pub returns-in-Values : goal.returns-in-Values
returns-in-Values c = λ cells shows.
    let node = c.in-Ok.ensures cells shows in
    list_of_node c.args.kind cells c.args.key node.0 node.1 (value_offsets_at c.in-Ok.node.value_count c.in-Ok.node.values)
    ((λ j. value_offsets_at (node.2.value_count j) (node.2.values j)) ∙ ap (λ (k : ListKind). list_in_node k node.0) (sym c.in-Values.is)) (λ listed. listed.items) c.value_offsets.result (c.value_offsets.ensures cells shows)
