use Rattle.std.proofs.Common.{◌≡◌, get_or, arith, subst, sym}
use Rattle.reg_tree.specs.declared.element.Element.{Element}
use Rattle.store_changes.proofs.Told.{append_change}
use Rattle.store_changes.proofs.report.tell_changes.Goals as goal

pub loop-count-preserved : goal.loop-count-preserved
loop-count-preserved g c =
    let contents = g.W.Write.contents in
    let i = c.loop-count.count in
    let changes = c.args.changes.now in
    let here : c.in-Ok.change ≡ get_or changes i c.in-Ok.change = subst (λ (change : Element). change ≡ get_or changes i change) (sym c.in-Ok.ensures) c.index-changes-count.is in
    record {
      few = omega (arith, c.loop-count-test.true);
      told = append_change c.args.named c.args.after i changes c.in-Ok.change (contents c.args.writer.now) (contents c.loop-count.writer) (contents c.write.new.writer) c.loop-count-test.true here c.loop-count.invariant.told c.in_ok-write.ensures;
    }
