use Rattle.std.proofs.Common.{Ok, Err, inl, inr, refl, subst}
use Rattle.reg_tree.specs.Judgement.{changed, legal_in, IsWritten}
use Rattle.reg_tree.specs.TreeLists.{levels_of}
use Rattle.reg_tree.specs.declared.op.Legality.TheVariants.{Opened}
use Rattle.reg_tree.proofs.Places.{not_found, judged_so, written_so, place_within}
use Rattle.refusals.specs.declared.refusal.Refusal.TheVariants.{NoMemory}
use Rattle.refusals.proofs.Refused.{handed_on}
use Rattle.reg_tree.proofs.trees.Trees.write_counted.Goals as goal

pub returns-in_default-clause-refused : goal.returns-in_default-clause-refused
returns-in_default-clause-refused c = inl (not_found c.args.self.now c.args.op.now c.hive.result c.hive.ensures c.in_default.ensures)

pub returns-in_ok-with_tree-in-Some-2-clause-ok : goal.returns-in_ok-with_tree-in-Some-2-clause-ok
returns-in_ok-with_tree-in-Some-2-clause-ok c =
    let tree = c.in-Some.tree.now in
    let op = c.args.op.now in
    let written = subst (IsWritten (legal_in tree op) (changed tree op c.args.moment, levels_of tree op)) c.in-Some-2.is c.in_ok-made.ensures.ok in
    written_so c.args.self.now op c.hive.result c.hive.ensures tree c.in-Some.ensures c.in-Some-2.made c.in-Some-2.levels c.hive-in-Some-2.result c.args.moment c.in_ok-with_tree-in-Some-2.field-0 written c.hive-in-Some-2.ensures c.in_ok-with_tree-in-Some-2.ensures

pub returns-in-None-clause-ok : goal.returns-in-None-clause-ok
returns-in-None-clause-ok c =
    let tree = c.in-Some.tree.now in
    let op = c.args.op.now in
    judged_so c.args.self.now op c.hive.result c.hive.ensures tree c.in-Some.ensures (Ok Opened) (subst (IsWritten (legal_in tree op) (changed tree op c.args.moment, levels_of tree op)) c.in-None.is c.in_ok-made.ensures.ok)

pub with_tree-requires : goal.with_tree-requires
with_tree-requires c = place_within c.args.self.now c.args.op.now c.hive.result c.hive.ensures c.in-Some.tree.now c.in-Some.ensures c.hive-in-Some-2.result c.hive-in-Some-2.ensures

pub returns-in_err-made-clause-refused : goal.returns-in_err-made-clause-refused
returns-in_err-made-clause-refused c =
    let why = c.in_err-made.field-0.0 in
    handed_on c.from_residual.result why _ c.from_residual.ensures.1 (elim c.in_err-made.ensures.refused [
      | inl told ↦ inl (judged_so c.args.self.now c.args.op.now c.hive.result c.hive.ensures c.in-Some.tree.now c.in-Some.ensures (Err why) told)
      | inr memory ↦ inr memory
    ])

pub returns-in_err-with_tree-in-Some-2-clause-refused : goal.returns-in_err-with_tree-in-Some-2-clause-refused
returns-in_err-with_tree-in-Some-2-clause-refused c = handed_on c.from_residual-in_err-with_tree-in-Some-2.result NoMemory _ c.from_residual-in_err-with_tree-in-Some-2.ensures.1 (inr refl)
