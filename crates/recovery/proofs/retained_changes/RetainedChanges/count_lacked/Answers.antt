use Rattle.std.proofs.Common.{◌∙◌, ◌<◌, inl, inr, List, length, get_or, sym, ap, arith}
use Rattle.reg_tree.specs.declared.element.Element.{Element}
use Rattle.recovery.proofs.NumberedChanges.{count_all, none_lacked, one_lacked}
use Rattle.recovery.proofs.retained_changes.RetainedChanges.count_lacked.Goals as goal
use Rattle.recovery.proofs.retained_changes.RetainedChanges.count_lacked.Goals.{then-index-number+then-is_on, else-index-number, else-index-number-via-then-index-number+else-is_on, else-index-number-via-else-index-number}

pub loop-place-preserved : goal.loop-place-preserved
loop-place-preserved c =
    let s = c.args.self.now in
    let i = c.loop-place.place in
    let old = c.loop-place.invariant in
    let within = c.loop-place-test.true in
    let is = c.change-item.is ∙ ap (λ (l : List Element). get_or l i c.change-item.result) c.deref-change-items.ensures.value in
    let there : i < length s.changes.items = omega (arith, within, ap (λ (l : List Element). length l) c.deref-change-items.ensures.value) in
    let same = none_lacked c.args.hive c.args.number s.numbers.items s.changes.items s.many i c.index.result.now c.change-item.result there c.index.ensures is in
    elim c.if-index-number.branch [
      | then-index-number+then-is_on w ↦ record {
        few = omega (arith, w.count-is, old.few);
        count = omega (arith, w.count-is, old.count, one_lacked c.args.hive c.args.number s.numbers.items s.changes.items s.many i c.index.result.now c.change-item.result there c.index.ensures is w.if-index-number.true (sym w.is_on.ensures ∙ w.if-is_on.true));
      }
      | else-index-number w ↦ elim w.else-index-number.branch [
        | else-index-number-via-then-index-number+else-is_on v ↦ record {
          few = omega (arith, w.count-is, old.few);
          count = w.count-is ∙ old.count ∙ sym (same (inr (sym v.is_on.ensures ∙ v.if-is_on.false)));
        }
        | else-index-number-via-else-index-number v ↦ record {
          few = omega (arith, w.count-is, old.few);
          count = w.count-is ∙ old.count ∙ sym (same (inl (omega (arith, v.if-index-number.false))));
        }
      ]
    ]

pub returns : goal.returns
returns c = let s = c.args.self.now in c.loop-place.invariant.count ∙ count_all c.args.hive c.args.number s.numbers.items s.changes.items s.many c.loop-place.place (omega (arith, c.loop-place-test.false, c.deref-change-items.ensures.len))
