use Rattle.std.proofs.Common.{true, false, inl, subst, ap}
use Rattle.reg_tree.specs.Judgement.{judged, changed, IsWritten}
use Rattle.reg_tree.specs.TreeLists.{levels_of}
use Rattle.reg_tree.proofs.Weighing.{told_by_weight}
use Rattle.reg_tree.proofs.tree.Tree.write_counted.Goals as goal

pub returns-then-is_over-clause-refused : goal.returns-then-is_over-clause-refused
returns-then-is_over-clause-refused c =
    let made = subst (IsWritten (judged c.args.self.now c.args.op.now) (changed c.args.self.now c.args.op.now c.args.moment, levels_of c.args.self.now c.args.op.now)) c.in-Some.is c.in_ok-carry_out.ensures.ok in
    inl (told_by_weight c.args.self.now c.in-Some.made c.args.op.now c.args.moment c.is_over.result true made.0 (ap (λ m. m.0) made.1) c.is_over.ensures c.if-is_over.true)

pub returns-else-is_over-clause-ok : goal.returns-else-is_over-clause-ok
returns-else-is_over-clause-ok c =
    let made = subst (IsWritten (judged c.args.self.now c.args.op.now) (changed c.args.self.now c.args.op.now c.args.moment, levels_of c.args.self.now c.args.op.now)) c.in-Some.is c.in_ok-carry_out.ensures.ok in
    (told_by_weight c.args.self.now c.in-Some.made c.args.op.now c.args.moment c.is_over.result false made.0 (ap (λ m. m.0) made.1) c.is_over.ensures c.if-is_over.false, made.1)
