use Rattle.std.proofs.Common.{◌≡◌, ◌∙◌, ℕ, ◌<◌, ◌≤◌, cond, ◌∷◌, [], List, get_or, length, refl, sym, ap, arith, inl, inr, ⊎_elim, slice_get, Some}
use Rattle.std.proofs.lemmas.Bool.{lt-ltb, le-ltb}
use Rattle.std.proofs.lemmas.List.{append-nil}
use Rattle.std.proofs.lemmas.Option.{same_Some, slice_get_read, slice_get-get_or}
use Rattle.std.proofs.lemmas.Result.{err_from_is_err_and}
use Rattle.reg_tree.specs.Maps.{TreeMap}
use Rattle.reg_tree.specs.declared.element.Element.{Element}
use Rattle.crash_model.specs.Changes.{on_hive, ops_on, replay}
use Rattle.change_codec.specs.ModelChanges.{TimedOp, tree_rules, timed_element, timed_elements}
use Rattle.commit_journal.specs.Numbered.{changes_in}
use Rattle.recovery.specs.Replays.{ops_lacked}
use Rattle.recovery.proofs.replay.Replay.tree_with.Goals as goal

-- the operations of one change that a hive lacks, and of one that it has
ops_of_lacked : (i k n : ℕ) (e : Element) → k < n → ops_lacked i k ((n, e) ∷ []) ≡ on_hive i (timed_element e)
ops_of_lacked i k n e lt = ap (λ b. ops_on i (timed_elements (changes_in (cond b ((n, e) ∷ []) [])))) (lt-ltb k n lt) ∙ append-nil (on_hive i (timed_element e))

ops_of_held : (i k n : ℕ) (e : Element) → n ≤ k → ops_lacked i k ((n, e) ∷ []) ≡ []
ops_of_held i k n e le = ap (λ b. ops_on i (timed_elements (changes_in (cond b ((n, e) ∷ []) [])))) (le-ltb k n le)

-- an item at its place
item_at : {A : Type 0} (xs : List A) (i p : ℕ) (x : A) → i < length xs → p ≡ i → x ≡ get_or xs p x → slice_get xs i ≡ Some x
item_at xs i p x lt same is = slice_get_read xs (length xs) i x refl lt (is ∙ ap (λ n. get_or xs n x) same)

number_at : (ns : List ℕ) (i p n : ℕ) → i < length ns → p ≡ i → n ≡ get_or ns p n → n ≡ get_or ns i 0
number_at ns i p n lt same is = same_Some n (get_or ns i 0) (sym (item_at ns i p n lt same is) ∙ slice_get-get_or ns i 0 lt)

pub returns-then-index-number-clause-made : goal.returns-then-index-number-clause-made
returns-then-index-number-clause-made c = λ tree at.
    let s = c.args.self.now in
    let there = item_at s.trees.items c.args.hive c.from-place.result c.index.result.now c.requires.there c.from-place.ensures c.index.ensures in
    let number = number_at s.numbers.items c.args.hive c.from-place.result c.index-2.result.now (omega (arith, c.requires.there, s.many, s.all)) c.from-place.ensures c.index-2.ensures in
    ap (λ (ops : List TimedOp). replay tree_rules ops tree) (ops_of_held c.args.hive (get_or s.numbers.items c.args.hive 0) c.args.number c.args.change.now (omega (arith, number, c.if-index-number.true)))
    ∙ sym at ∙ there ∙ ap (λ (t : TreeMap). Some t) (sym c.in_ok-tree.ensures)

pub returns-clause-made : goal.returns-clause-made
returns-clause-made c = λ tree at.
    let s = c.args.self.now in
    let there = item_at s.trees.items c.args.hive c.from-place.result c.index.result.now c.requires.there c.from-place.ensures c.index.ensures in
    let number = number_at s.numbers.items c.args.hive c.from-place.result c.index-2.result.now (omega (arith, c.requires.there, s.many, s.all)) c.from-place.ensures c.index-2.ensures in
    let same : tree ≡ c.in_ok-tree.tree = same_Some tree c.index.result.now (sym at ∙ there) ∙ sym c.in_ok-tree.ensures in
    ap (λ (ops : List TimedOp). replay tree_rules ops tree) (ops_of_lacked c.args.hive (get_or s.numbers.items c.args.hive 0) c.args.number c.args.change.now (omega (arith, number, c.if-index-number.false)))
    ∙ ap (λ (t : TreeMap). replay tree_rules (on_hive c.args.hive (timed_element c.args.change.now)) t) same ∙ c.in_ok-made.ensures.made

pub returns-in_err-made-clause-fails : goal.returns-in_err-made-clause-fails
returns-in_err-made-clause-fails c =
    let p = err_from_is_err_and c.from_residual-in_err-made.result c.from_residual-in_err-made.ensures.1 in
    let s = c.args.self.now in
    let there = item_at s.trees.items c.args.hive c.from-place.result c.index.result.now c.requires.there c.from-place.ensures c.index.ensures in
    let number = number_at s.numbers.items c.args.hive c.from-place.result c.index-2.result.now (omega (arith, c.requires.there, s.many, s.all)) c.from-place.ensures c.index-2.ensures in
    rw (p.1, p.2) (⊎_elim (λ h. inl (
      h.0,
      (
        c.args.hive,
        c.index.result.now,
        there,
        ap (λ (ops : List TimedOp). replay tree_rules ops c.index.result.now) (ops_of_lacked c.args.hive (get_or s.numbers.items c.args.hive 0) c.args.number c.args.change.now (omega (arith, number, c.if-index-number.false)))
            ∙ ap (λ (t : TreeMap). replay tree_rules (on_hive c.args.hive (timed_element c.args.change.now)) t) (sym c.in_ok-tree.ensures) ∙ h.1,
      ),
    )) (λ h. inr h) c.in_err-made.ensures.fails)
