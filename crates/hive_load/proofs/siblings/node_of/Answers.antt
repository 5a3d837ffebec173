use Rattle.std.proofs.Common.{[], refl, subst}
use Rattle.std.proofs.lemmas.List.Sorted.{IsPermutation-map}
use Rattle.hive_tree_model.specs.Lists.{IsIn}
use Rattle.hive_load.specs.Nodes.{names_of}
use Rattle.hive_load.proofs.Sorting.{Nodes}
use Rattle.reg_tree_parts.specs.Nodes.{subkey_entry, subkey_entries}
use Rattle.hive_load.proofs.Shuffled.{nodes_shuffled, apart_if}
use Rattle.hive_load.proofs.siblings.node_of.Goals as goal

pub new-requires-clause-nodes : goal.new-requires-clause-nodes
new-requires-clause-nodes c = nodes_shuffled (subkey_entries c.args.nodes.items) (subkey_entries c.in-Some.sorted.items) (IsPermutation-map subkey_entry c.args.nodes.items c.in-Some.sorted.items c.in-Some.ensures.sorted.0) c.requires

pub returns-clause-made : goal.returns-clause-made
returns-clause-made c =
    let moved = IsPermutation-map subkey_entry c.args.nodes.items c.in-Some.sorted.items c.in-Some.ensures.sorted.0 in (
      subkey_entries c.in-Some.sorted.items,
      c.in_ok-new.ensures.is,
      record {
        named = subst (λ (nodes : Nodes). IsIn [] (names_of (subkey_entries nodes)) → ⊥) c.deref.ensures.value (c.if-has_nameless.ensures.none refl);
        apart = apart_if (subkey_entries c.args.nodes.items) (subkey_entries c.in-Some.sorted.items) moved c.in-Some.ensures.sorted.1;
        same = moved;
        rises = c.in-Some.ensures.sorted.1;
      },
    )
