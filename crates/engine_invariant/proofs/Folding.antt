-- A fold keeps the invariant.
use Rattle.std.proofs.Common.{◌≡◌, ◌⊎◌, inl, inr, ℕ, ◌-◌, ◌<◌, ◌≤◌, List, [], ◌∷◌, ◌++◌, length, take, drop, refl, sym, ◌∙◌, ap, subst, arith, Some, IsTrue}
use Rattle.std.proofs.lemmas.List.{map-append, length-append, length-drop}
use Rattle.refusals.specs.declared.limits.TheConstants.{GREATEST_NUMBER}
use Rattle.reg_tree.specs.Maps.{TreeMap}
use Rattle.reg_tree.specs.declared.element.Element.{Element}
use Rattle.crash_model.specs.Changes as changes
use Rattle.crash_model.specs.Changes.{Rules, AreLegal, ops_on, replay}
use Rattle.crash_model.specs.Promises.{Choice, Content, nothing}
use Rattle.crash_model.specs.Life.{Life, folded_life, ops_in, tree_at}
use Rattle.crash_model.specs.Life as life
use Rattle.crash_model.specs.Invariant.{EngineFits}
use Rattle.crash_model.specs.Invariant as law
use Rattle.crash_model.proofs.KeepLife.{keep_fold}
use Rattle.store_model.specs.Machine.{Machine, folded, trees_now, last_number, pending}
use Rattle.store_model.specs.Steps.{Folds}
use Rattle.store_model.specs.declared.event.Event.TheVariants as event
use Rattle.store_model.specs.declared.event.Reply.TheVariants as reply
use Rattle.store_model.proofs.TreeCounts.{all_long}
use Rattle.change_codec.specs.ModelChanges.{TimedOp, timed_element, timed_elements}
use Rattle.commit_journal.specs.Store.{room_of}
use Rattle.engine_invariant.specs.Rules.{rules}
use Rattle.engine_invariant.specs.States.{HiveView, tree_of, files_in, life_of, state_of, IsBatch, IsConsistent}
use Rattle.engine_invariant.proofs.Accepting.{Keeps}
use Rattle.engine_invariant.proofs.Bridge.{last_is, tree_of_is, trees_at_last}

-- a life without accepted changes
abbrev opened_with : {T Op : Type 0} → (ℕ → T) → ℕ → List (changes.Element Op) → Life T Op
opened_with trees base opened = record { trees = trees; base = base; opened = opened; accepted = [] }

-- the same, if each hive of the store has the same tree
other_trees : {T Op : Type 0} (r : Rules T Op) (most hives : ℕ) (was is : ℕ → T) (base : ℕ) (opened : List (changes.Element Op)) (durable : ℕ) (journal : Choice (Content Op)) (files : ℕ → Choice (T × ℕ))
    → ((i : ℕ) → i < hives → is i ≡ was i) → EngineFits r most hives (opened_with was base opened) durable journal files → EngineFits r most hives (opened_with is base opened) durable journal files
other_trees {T = T} {Op = Op} r most hives was is base opened durable journal files same e = record {
  fits = record {
    from_opened = e.fits.from_opened;
    to_last = e.fits.to_last;
    limit = e.fits.limit;
    legal = λ i lt. subst (AreLegal r []) (sym (same i lt)) (e.fits.legal i lt);
    named = e.fits.named;
    allowed = λ n low high i lt. subst (λ t. IsTrue (r.allows i n (changes.applied r (ops_on i (take (n - life.opened_number (opened_with was base opened)) [])) t))) (sym (same i lt)) (e.fits.allowed n low high i lt);
  };
  journal_fits = λ s left. let f = e.journal_fits s left in record { low = f.low; holds_durable = f.holds_durable; high = f.high; piece = f.piece };
  ends = e.ends;
  hive_fits = λ i lt x left. let f = e.hive_fits i lt x left in record {
    not_above = f.not_above;
    tree = f.tree ∙ ap (λ t. Some (changes.applied r (ops_on i (take (durable - life.opened_number (opened_with was base opened)) [])) t)) (sym (same i lt));
  };
  rises = e.rises;
  covered = e.covered;
  carried = e.carried;
}

-- if all is durable nothing is pending
nothing_pending : (m : Machine) → last_number m ≤ m.durable → pending m ≡ []
nothing_pending m all = none (drop (m.durable - m.before) m.accepted) (omega (arith, all, length-drop (m.durable - m.before) m.accepted))
  where
    none : (l : List Element) → length l ≡ 0 → l ≡ []
    none [] e = refl
    none (x ∷ xs) e = absurd (omega (arith, e))

module _ (base : ℕ) (opened : List Element) (journal : Choice (Content TimedOp)) (hives : List HiveView) (old : Machine) (i : IsConsistent old base opened journal hives) (all : last_number old ≤ old.durable) where
  abbrev was : Life TreeMap TimedOp
  was = life_of old base opened

  both : timed_elements (opened ++ old.accepted) ≡ timed_elements opened ++ timed_elements old.accepted
  both = map-append timed_element opened old.accepted

  tree_stays : (k : ℕ) → k < length old.opened → tree_of (trees_now old) k ≡ tree_at (rules old.bounds.hives) was (life.last_number was) k
  tree_stays k lt = ap (λ (ts : List TreeMap). tree_of ts k) (sym (trees_at_last old)) ∙ tree_of_is old.bounds.hives old base opened i.begun (last_number old) k lt
      ∙ ap (λ n. tree_at (rules old.bounds.hives) was n k) (sym (last_is old base opened i.begun))

  law_folds : law.InvariantHolds (rules old.bounds.hives) GREATEST_NUMBER (length (trees_now old)) (state_of (folded old) base (opened ++ old.accepted) journal hives)
  law_folds =
      subst (λ n. law.InvariantHolds (rules old.bounds.hives) GREATEST_NUMBER n (state_of (folded old) base (opened ++ old.accepted) journal hives)) (sym (all_long old.opened old.accepted))
      (subst (λ es. EngineFits (rules old.bounds.hives) GREATEST_NUMBER (length old.opened) (opened_with (tree_of (trees_now old)) base es) old.durable journal (files_in hives)) (sym both)
      (other_trees (rules old.bounds.hives) GREATEST_NUMBER (length old.opened) (tree_at (rules old.bounds.hives) was (life.last_number was)) (tree_of (trees_now old)) base (timed_elements opened ++ timed_elements old.accepted) old.durable journal (files_in hives) tree_stays
      (keep_fold (rules old.bounds.hives) GREATEST_NUMBER (length old.opened) was old.durable journal (files_in hives) i.law (omega (arith, all, i.kept.within.known, last_is old base opened i.begun)))))

  onward_is : (next : Content TimedOp) → (next ≡ nothing) ⊎ IsBatch old journal.now next → (next ≡ nothing) ⊎ IsBatch (folded old) journal.now next
  onward_is next (inl e) = inl e
  onward_is next (inr (count, some, few, is)) = absurd (omega (arith, some, few, ap (λ (l : List Element). length l) (nothing_pending old all)))

  pub fold_keeps : Keeps → (number : ℕ) (new : Machine) → Folds old number new → IsConsistent new base (opened ++ old.accepted) journal hives
  fold_keeps keeps number new f = subst (λ m. IsConsistent m base (opened ++ old.accepted) journal hives) (sym f.next) (record {
    kept = keeps old (folded old) event.Fold (reply.Folded number) i.kept (record { free = f.free; all_durable = f.all_durable; told = f.told; next = refl });
    fits = λ some. absurd (omega (arith, some, ap (λ (l : List Element). length l) none));
    law = law_folds;
    begun = omega (arith, i.begun, length-append opened old.accepted);
    all = i.all ∙ sym (all_long old.opened old.accepted);
    one_more = omega (arith, i.one_more, all_long old.opened old.accepted);
    own = i.own;
    onward = λ next is. onward_is next (i.onward next is);
    room = omega (arith, i.room, ap (λ (l : List Element). room_of (timed_elements l)) (nothing_pending old all), ap (λ (l : List Element). room_of (timed_elements l)) none);
  })
    where
      none : pending (folded old) ≡ []
      none = nothing_pending (folded old) (omega (arith, all))
