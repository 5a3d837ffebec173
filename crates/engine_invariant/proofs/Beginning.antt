-- What an opening finds begins a life.
use Rattle.std.proofs.Common.{◌≡◌, inl, ℕ, ◌+◌, ◌-◌, ◌<◌, ◌≤◌, drop, List, [], ◌∷◌, length, refl, sym, ◌∙◌, ap, subst, arith, Option, Some, None, slice_get}
use Rattle.std.proofs.lemmas.Option.{none-some, slice_get-get_or}
use Rattle.std.proofs.lemmas.List.{length-map}
use Rattle.refusals.specs.declared.limits.TheConstants.{GREATEST_NUMBER}
use Rattle.reg_tree.specs.Maps.{TreeMap}
use Rattle.reg_tree.specs.Fresh.{fresh_tree}
use Rattle.reg_tree.specs.Sequences.{AreTrees}
use Rattle.reg_tree.specs.declared.element.Element.{Element}
use Rattle.crash_model.specs.Promises.{Choice, Content, settled, under_way, floor}
use Rattle.crash_model.specs.Recovery.{IsLastNumber}
use Rattle.crash_model.specs.Life.{Life}
use Rattle.crash_model.specs.Invariant.{State, opened_state}
use Rattle.crash_model.specs.Invariant as law
use Rattle.crash_model.specs.Memory.{with_memory}
use Rattle.crash_model.proofs.Lists.{drop_nil}
use Rattle.crash_model.proofs.KeepSteps.{begun}
use Rattle.crash_model.proofs.MemoryCounts.{remembered}
use Rattle.store_model.specs.Machine.{opened_machine, room_with}
use Rattle.store_model.specs.Invariant.{InvariantHolds, OutcomesFit}
use Rattle.store_model.specs.declared.bounds.StoreBounds.{StoreBounds}
use Rattle.change_codec.specs.ModelChanges.{TimedOp, timed_element, timed_elements}
use Rattle.engine_invariant.specs.Rules.{rules}
use Rattle.engine_invariant.specs.States.{HiveView}
use Rattle.engine_invariant.specs.States.{tree_of, counted, files_in, state_of, IsConsistent}
use Rattle.commit_journal.specs.Store.{room_of}
use Rattle.engine_invariant.proofs.Room.{rooms_are}
use Rattle.engine_invariant.specs.Openings.{held_if, held_by, OpeningRecovers}

abbrev content_of : ℕ → List Element → Content TimedOp
content_of below opened = record { below = below; elements = timed_elements opened }

begun_at : (hives n below base : ℕ) (numbers : ℕ → ℕ) (opened : List Element) → base ≡ floor n (content_of below opened) → IsLastNumber hives numbers below (timed_elements opened) n → n ≡ base + length opened
begun_at hives n below base numbers [] is last = omega (arith, is)
begun_at hives n below base numbers (e ∷ es) is last = omega (arith, is, last, length-map es timed_element)

nothing_left : (k : ℕ) (none : List Element) → none ≡ [] → drop k none ≡ []
nothing_left k [] e = drop_nil {A = Element} k
nothing_left k (x ∷ xs) e = absurd cc

module _ (bounds : StoreBounds) (trees : List TreeMap) (n failures base : ℕ) (opened : List Element) (journal : Choice (Content TimedOp)) (hives : List HiveView) (found : OpeningRecovers bounds.hives trees n base opened journal hives)
    (few : length trees ≤ bounds.hives + 1) (fit : OutcomesFit bounds trees n) where
  first : law.InvariantHolds (rules bounds.hives) GREATEST_NUMBER (length trees) (opened_state n (tree_of trees) (content_of found.below opened) (held_by hives))
  first = begun (rules bounds.hives) GREATEST_NUMBER (length trees) (content_of found.below opened) (held_by hives) n (tree_of trees) found.recovers found.changes

  settled_is : (h : HiveView) → h.files ≡ settled h.memory → with_memory h.files h.memory ≡ with_memory (settled h.files.now) h.files.now
  settled_is h e = ap (λ (x : TreeMap × ℕ). under_way h.files.now x) (sym (ap (λ (c : Choice (TreeMap × ℕ)). c.now) e))

  files_are : (i : ℕ) → i < length trees → files_in hives i ≡ with_memory (settled (held_by hives i)) (held_by hives i)
  files_are i lt = by_slot (slice_get hives i) refl
    where
      by_slot : (o : Option HiveView) → slice_get hives i ≡ o → counted o ≡ with_memory (settled (held_if o)) (held_if o)
      by_slot None e = absurd (none-some _ (sym e ∙ slice_get-get_or hives i (record { files = settled (fresh_tree, 0); memory = (fresh_tree, 0) }) (omega (arith, lt, found.all))))
      by_slot (Some h) e = settled_is h (found.each i h e)

  pub begins : ((w : StoreBounds) (ts : List TreeMap) (number : ℕ) (es : List Element) (f : ℕ) → AreTrees ts → number ≤ GREATEST_NUMBER → OutcomesFit w ts number → InvariantHolds (opened_machine w ts number es f)) → IsConsistent (opened_machine bounds trees n opened failures) base opened journal hives
  begins kept = record {
    kept = kept bounds trees n opened failures found.are_trees found.recovers.limit fit;
    fits = λ some. absurd (omega (arith, some, ap (λ (es : List Element). length es) (nothing_left (n - n) [] refl)));
    law = remembered (rules bounds.hives) GREATEST_NUMBER (length trees) (held_by hives) (opened_state n (tree_of trees) (content_of found.below opened) (held_by hives)) (state_of (opened_machine bounds trees n opened failures) base opened journal hives) first (record {
      fits = λ i lt. record { fits = first.hive_fits i lt (held_by hives i) (inl refl); higher = omega arith };
      life = ap (λ b. let l : Life TreeMap TimedOp = record { trees = tree_of trees; base = b; opened = timed_elements opened; accepted = [] } in l) found.base_is;
      durable = refl;
      journal = found.journal_is;
      files = files_are;
    });
    begun = begun_at (length trees) n found.below base (λ i. (held_by hives i).1) opened found.base_is found.recovers.last;
    all = found.all;
    one_more = few;
    own = λ i h e. inl (ap (λ (c : Choice (TreeMap × ℕ)). c.next) (found.each i h e));
    onward = λ next e. absurd (none-some next (sym (ap (λ (c : Choice (Content TimedOp)). c.next) found.journal_is) ∙ e));
    room = omega (arith, rooms_are opened, ap (λ (c : Choice (Content TimedOp)). room_of c.now.elements) found.journal_is, ap (λ (l : List Element). room_of (timed_elements l)) (nothing_left (n - n) [] refl));
  }

  pub begins_told : ((w : StoreBounds) (ts : List TreeMap) (number : ℕ) (es : List Element) (f : ℕ) → AreTrees ts → number ≤ GREATEST_NUMBER → OutcomesFit w ts number → InvariantHolds (opened_machine w ts number es f)) → IsConsistent (record (opened_machine bounds trees n [] failures) { room = 65 + room_of journal.now.elements }) base opened journal hives
  begins_told kept =
      let room : room_with opened ≡ 65 + room_of journal.now.elements = omega (arith, rooms_are opened, ap (λ (c : Choice (Content TimedOp)). room_of c.now.elements) found.journal_is) in
      subst (λ r. IsConsistent (record (opened_machine bounds trees n [] failures) { room = r }) base opened journal hives) room (begins kept)
