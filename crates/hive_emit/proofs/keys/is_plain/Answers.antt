use Rattle.std.proofs.Common.{sym, ◌∙◌, ap, arith}
use Rattle.reg_tree_parts.specs.Nodes.{subkeys_of}
use Rattle.hive_emit.specs.Forms.{is_past_ascii}
use Rattle.hive_emit.proofs.KeyProofs.{subkey_there}
use Rattle.hive_emit.proofs.Plains.{past_next, past_here}
use Rattle.hive_emit.proofs.keys.is_plain.Goals as goal

pub unreachable-requires : goal.unreachable-requires
unreachable-requires c = subkey_there (subkeys_of c.args.node.now) c.loop-index.index (omega (arith, c.loop-index-test.true, c.subkey_count-index-end.ensures.subkeys)) c.in_default.ensures.at

pub returns-then-is_past_ascii : goal.returns-then-is_past_ascii
returns-then-is_past_ascii c = sym (past_here (subkeys_of c.args.node.now) c.loop-index.index c.in-Some.subkey.now c.key.result.now.name c.in-Some.ensures.has.named c.in-Some.ensures.at c.key.ensures.named (ap is_past_ascii (sym (c.units.ensures ∙ c.name.ensures)) ∙ sym c.if-is_past_ascii.ensures))

pub loop-index-preserved : goal.loop-index-preserved
loop-index-preserved c = past_next (subkeys_of c.args.node.now) c.loop-index.index c.in-Some.subkey.now c.key.result.now.name c.in-Some.ensures.has.named c.in-Some.ensures.at c.key.ensures.named (ap is_past_ascii (sym (c.units.ensures ∙ c.name.ensures)) ∙ sym c.if-is_past_ascii.ensures) c.loop-index.invariant
