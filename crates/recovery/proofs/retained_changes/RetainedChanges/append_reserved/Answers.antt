use Rattle.std.proofs.Common.{◌≡◌, ◌+◌, ◌++◌, ◌∷◌, ◌∙◌, [], List, length, sym, ap, subst, arith, append_assoc, length-append}
use Rattle.reg_tree.specs.declared.element.Element.{Element}
use Rattle.commit_journal.specs.Numbered.{NumberedChange, numbered}
use Rattle.commit_journal.proofs.Firsts.{numbered_append}
use Rattle.recovery.specs.Retained.{HasRoom, numbered_changes}
use Rattle.recovery.proofs.retained_changes.RetainedChanges.append_reserved.Goals as goal

pub loop-change-preserved : goal.loop-change-preserved
loop-change-preserved c =
    let l = c.loop-change in
    let i = l.invariant in
    let next = c.in-Some.change in
    let first = numbered_changes c.args.self.now in
    let step = c.in-Some.ensures.steps.0 in
    let last : l.last + 1 ≡ (c.args.number + length l.yielded) + 1 = omega (arith, i.last) in
    record {
      parts = append_assoc l.yielded (next ∷ []) _ ∙ ap (λ (x : List Element). l.yielded ++ x) (sym step) ∙ i.parts;
      last = omega (arith, i.last, length-append l.yielded (next ∷ []));
      changes = c.push_reserved.ensures.changes ∙ ap (λ (x : List NumberedChange). x ++ (l.last + 1, next) ∷ []) i.changes
          ∙ append_assoc first (numbered c.args.number l.yielded) ((l.last + 1, next) ∷ [])
          ∙ ap (λ (x : List NumberedChange). first ++ x) (ap (λ n. numbered c.args.number l.yielded ++ (n, next) ∷ []) last ∙ sym (numbered_append c.args.number l.yielded (next ∷ [])));
      room = c.push_reserved.ensures.room (length c.next.new.self.rest.items)
          (subst (λ n. HasRoom n l.self) (let long = ap (λ (x : List Element). length x) step in omega (arith, long)) i.room);
    }
