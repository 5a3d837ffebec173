use Rattle.std.proofs.Common.{◌≡◌, ◌∙◌, ◌+◌, ◌++◌, ◌∷◌, [], ℕ, suc, List, append_assoc, cond, length, take, drop, sym, ap, subst, arith, option_map, slice_get}
use Rattle.std.proofs.lemmas.List.{length-append, length-map, length-take, map-append, take_all}
use Rattle.reg_tree.specs.declared.element.Element.{Element}
use Rattle.crash_model.specs.Changes as law
use Rattle.change_codec.specs.ModelChanges.{TimedOp, timed_element, timed_elements}
use Rattle.commit_journal.specs.LastChangePerHive.{names, AreLastIn}
use Rattle.commit_journal.proofs.Namings.{at_place}
use Rattle.commit_journal.proofs.Namings.{one_counted, take_more, written_back}
use Rattle.commit_journal.proofs.last_changes.LastChangePerHive.count_in.Goals as goal

pub loop-change-preserved : goal.loop-change-preserved
loop-change-preserved c =
    let l = c.loop-change in
    let changes = c.args.changes.now in
    let change = c.change-item.result in
    let was = l.self.last.items in
    let is = c.name.new.last in
    let there = at_place changes l.change-index change (omega (arith, c.loop-change-test.true)) c.change-item.is in
    let long : length is ≡ l.self.last.len = c.name.ensures.many ∙ c.deref_mut.ensures.len in
    let back : take l.self.last.len (is ++ drop (length is) was) ≡ is = written_back l.self.last.len is was long in
    let next : l.change-index + 1 ≡ suc l.change-index = omega arith in
    let more : take (l.change-index + 1) changes ≡ take l.change-index changes ++ change ∷ [] = ap (λ n. take n changes) next ∙ take_more l.change-index changes change there in
    let each : (i : ℕ) → slice_get is i ≡ option_map (λ m. cond (names i change.ops) (l.number + 1) m) (slice_get was i) = λ i. c.name.ensures.named i
    ∙ ap (λ (xs : List ℕ). option_map (λ m. cond (names i change.ops) (l.number + 1) m) (slice_get xs i)) c.deref_mut.ensures.value in
    record {
      number = omega (arith, l.invariant.number);
      last = λ base known first last.
          let prefix = known ++ timed_elements (take l.change-index changes) in
          let whole : prefix ++ timed_element change ∷ [] ≡ known ++ timed_elements (take (l.change-index + 1) changes) = append_assoc known (timed_elements (take l.change-index changes)) (timed_element change ∷ [])
          ∙ ap (λ (es : List (law.Element TimedOp)). known ++ es) (sym (map-append timed_element (take l.change-index changes) (change ∷ [])) ∙ ap timed_elements (sym more)) in
          let numbered : l.number + 1 ≡ base + length prefix + 1 = omega (arith, first, l.invariant.number, length-append known (timed_elements (take l.change-index changes)), length-map (take l.change-index changes) timed_element, length-take l.change-index changes, c.loop-change-test.true) in
          subst (λ (ns : List ℕ). AreLastIn base (known ++ timed_elements (take (l.change-index + 1) changes)) ns) (sym back)
          (subst (λ (es : List (law.Element TimedOp)). AreLastIn base es is) whole (one_counted base prefix change (l.number + 1) was is numbered each (l.invariant.last base known first last)));
      many = ap (λ (ns : List ℕ). length ns) back ∙ c.name.ensures.many ∙ ap (λ (ns : List ℕ). length ns) c.deref_mut.ensures.value ∙ l.invariant.many;
    }

pub returns : goal.returns
returns c =
    let l = c.loop-change in
    record {
      last = λ base known first last. subst (λ (es : List Element). AreLastIn base (known ++ timed_elements es) l.self.last.items) (take_all l.change-index c.args.changes.now (omega (arith, c.loop-change-test.false))) (l.invariant.last base known first last);
      many = l.invariant.many;
    }
