use Rattle.hive_records.proofs.NodesOf.{no_nodes, nodes_on, node_of, tree_of_node}
use Rattle.hive_records.proofs.image_laws.nodes.Goals as goal

pub returns-clause-begins : goal.returns-clause-begins
returns-clause-begins c = λ n path. no_nodes n path

pub returns-clause-goes_on : goal.returns-clause-goes_on
returns-clause-goes_on c = λ at parts below first subkey_list entries are is apart n path. nodes_on at parts below first subkey_list entries are is apart n path

pub returns-clause-ends : goal.returns-clause-ends
returns-clause-ends c = λ parts keys subkey_list rises are path. node_of parts keys subkey_list rises are path

pub returns-clause-tree : goal.returns-clause-tree
returns-clause-tree c = λ parts keys entries rises named is. tree_of_node parts keys entries rises named is
