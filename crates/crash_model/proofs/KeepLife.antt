-- Accepting and folding keep the invariant, and an opening has it.
use Rattle.std.proofs.Common.{◌≡◌, inl, inr, ℕ, ◌+◌, ◌-◌, ◌<◌, ◌≤◌, List, [], ◌∷◌, ◌++◌, length, take, drop, refl, ◌∙◌, ap, sym, subst, arith, append_assoc, Some, IsTrue}
use Rattle.std.proofs.lemmas.Bool.{cases_eq}
use Rattle.std.proofs.lemmas.List.{append-nil, take-append-le, length-append, take_all}
use Rattle.std.specs.List.{AllByRecursion}
use Rattle.crash_model.specs.Changes.{Rules, Element, on_hive, ops_on, replay, applied}
use Rattle.crash_model.specs.Promises.{Content, Choice, floor_of, floor, top, settled}
use Rattle.crash_model.specs.Recovery.{Recovers, IsLastNumber}
use Rattle.crash_model.specs.Life.{Life, opened_number, last_number, known_elements, elements_in, ops_in, tree_at, NamesHive, with_accepted, opened_life, folded_life}
use Rattle.crash_model.specs.Invariant.{JournalFits, HiveFits, EngineFits}
use Rattle.crash_model.proofs.Lists.{le_or_le, take_nil, drop_nil, seg_none, all_append}
use Rattle.crash_model.proofs.Replays.{ops_on-append, replay_on, applied-append}
use Rattle.crash_model.proofs.KeepFiles.{only_leaves}

-- the known elements stay at their numbers
pub part_grows : {T Op : Type 0} (life : Life T Op) (e : Element Op) (lo hi : ℕ) → hi ≤ last_number life
    → elements_in (with_accepted life e) lo hi ≡ elements_in life lo hi
part_grows life e lo hi a = ap (drop (lo - life.base)) (ap (take (hi - life.base)) (sym (append_assoc life.opened life.accepted (e ∷ []))) ∙ take-append-le (hi - life.base) (known_elements life) (e ∷ []) (omega (arith, a, length-append life.opened life.accepted)))

pub tree_grows : {T Op : Type 0} (r : Rules T Op) (life : Life T Op) (e : Element Op) (n i : ℕ) → n ≤ last_number life
    → tree_at r (with_accepted life e) n i ≡ tree_at r life n i
tree_grows r life e n i a = ap (λ (es : List (List _)). applied r (ops_on i es) (life.trees i)) (take-append-le (n - opened_number life) life.accepted (e ∷ []) (omega (arith, a)))

module _ {T Op : Type 0} (r : Rules T Op) (most hives : ℕ) where
  pub keep_accept : (life : Life T Op) (durable : ℕ) (journal : Choice (Content Op)) (files : ℕ → Choice (T × ℕ))
      → EngineFits r most hives life durable journal files
      → (e : Element Op) → last_number life < most → NamesHive hives e
      → ((i : ℕ) → i < hives → replay r (on_hive i e) (tree_at r life (last_number life) i) ≡ Some (applied r (on_hive i e) (tree_at r life (last_number life) i)))
      → ((i : ℕ) → i < hives → IsTrue (r.allows i (last_number life + 1) (applied r (on_hive i e) (tree_at r life (last_number life) i))))
      → EngineFits r most hives (with_accepted life e) durable journal files
  keep_accept life durable journal files engine e room names legal allowed_after = record {
    fits = record {
      from_opened = engine.fits.from_opened;
      to_last = omega (arith, engine.fits.to_last, longer);
      limit = omega (arith, room, longer);
      legal = all_legal;
      allowed = all_allowed;
      named = subst (AllByRecursion (NamesHive hives)) (append_assoc life.opened life.accepted (e ∷ [])) (all_append (NamesHive hives) (known_elements life) (e ∷ []) engine.fits.named (names, tt));
    };
    journal_fits = λ s left. let f = engine.journal_fits s left in record {
      low = f.low;
      holds_durable = f.holds_durable;
      high = omega (arith, f.high, longer);
      piece = f.piece ∙ sym (part_grows life e (floor durable s) (top durable s) f.high);
    };
    ends = engine.ends;
    hive_fits = λ i lt x left. let f = engine.hive_fits i lt x left in record {
      not_above = f.not_above;
      tree = rw (part_grows life e x.1 durable engine.fits.to_last) rw (tree_grows r life e durable i engine.fits.to_last) f.tree;
    };
    rises = engine.rises;
    covered = λ s left i lt. ap (ops_on i) (part_grows life e (files i).now.1 (floor durable s) (omega (arith, (engine.journal_fits s left).high))) ∙ engine.covered s left i lt;
    carried = engine.carried;
  }
    where
      longer : length (life.accepted ++ e ∷ []) ≡ length life.accepted + 1
      longer = length-append life.accepted (e ∷ [])

      now_is : (i : ℕ) → tree_at r life (last_number life) i ≡ applied r (ops_on i life.accepted) (life.trees i)
      now_is i = ap (λ (es : List (Element Op)). applied r (ops_on i es) (life.trees i)) (take_all (last_number life - opened_number life) life.accepted (omega arith))

      ops : (i : ℕ) → ops_on i (life.accepted ++ e ∷ []) ≡ ops_on i life.accepted ++ on_hive i e
      ops i = ops_on-append i life.accepted (e ∷ []) ∙ ap (λ (os : List Op). ops_on i life.accepted ++ os) (append-nil (on_hive i e))

      -- the trees after the new element are those that the operations on them make
      new_tree : (i : ℕ) → tree_at r (with_accepted life e) (last_number life + 1) i ≡ applied r (on_hive i e) (tree_at r life (last_number life) i)
      new_tree i = ap (λ (es : List (Element Op)). applied r (ops_on i es) (life.trees i)) (take_all ((last_number life + 1) - opened_number life) (life.accepted ++ e ∷ []) (omega (arith, longer)))
          ∙ ap (λ (os : List Op). applied r os (life.trees i)) (ops i) ∙ applied-append r (ops_on i life.accepted) (on_hive i e) (life.trees i) ∙ ap (applied r (on_hive i e)) (sym (now_is i))

      all_allowed : (n : ℕ) → opened_number life ≤ n → n ≤ last_number (with_accepted life e) → (i : ℕ) → i < hives
          → IsTrue (r.allows i n (tree_at r (with_accepted life e) n i))
      all_allowed n low high i lt = elim (le_or_le n (last_number life)) as (λ z. IsTrue (r.allows i n (tree_at r (with_accepted life e) n i))) [
        | inl le ↦ subst (λ t. IsTrue (r.allows i n t)) (sym (tree_grows r life e n i le)) (engine.fits.allowed n low le i lt)
        | inr ge ↦ elim (cases_eq n (last_number life)) as (λ z. IsTrue (r.allows i n (tree_at r (with_accepted life e) n i))) [
          | inl same ↦ subst (λ t. IsTrue (r.allows i n t)) (sym (tree_grows r life e n i (omega (arith, same)))) (engine.fits.allowed n low (omega (arith, same)) i lt)
          | inr other ↦ subst (λ m. IsTrue (r.allows i m (tree_at r (with_accepted life e) m i))) (omega (arith, ge, other, high, longer))
              (subst (λ t. IsTrue (r.allows i (last_number life + 1) t)) (sym (new_tree i)) (allowed_after i lt))
        ]
      ]

      all_legal : (i : ℕ) → i < hives → replay r (ops_on i (life.accepted ++ e ∷ [])) (life.trees i) ≡ Some (applied r (ops_on i (life.accepted ++ e ∷ [])) (life.trees i))
      all_legal i lt = rw (ops i) rw (applied-append r (ops_on i life.accepted) (on_hive i e) (life.trees i))
          (replay_on r (ops_on i life.accepted) (on_hive i e) (life.trees i) (applied r (ops_on i life.accepted) (life.trees i)) (engine.fits.legal i lt)
          ∙ subst (λ t. replay r (on_hive i e) t ≡ Some (applied r (on_hive i e) t)) (now_is i) (legal i lt))

  pub keep_fold : (life : Life T Op) (durable : ℕ) (journal : Choice (Content Op)) (files : ℕ → Choice (T × ℕ))
      → EngineFits r most hives life durable journal files → durable ≡ last_number life
      → EngineFits r most hives (folded_life r life) durable journal files
  keep_fold life durable journal files engine all = record {
    fits = record {
      from_opened = omega (arith, all, long);
      to_last = omega (arith, all, long);
      limit = omega (arith, engine.fits.limit, long);
      legal = λ i lt. refl;
      named = subst (AllByRecursion (NamesHive hives)) (sym same) engine.fits.named;
      allowed = last_allowed;
    };
    journal_fits = λ s left. let f = engine.journal_fits s left in record {
      low = f.low;
      holds_durable = f.holds_durable;
      high = omega (arith, f.high, long);
      piece = rw same f.piece;
    };
    ends = engine.ends;
    hive_fits = λ i lt x left. let f = engine.hive_fits i lt x left in record {
      not_above = f.not_above;
      tree = rw same (f.tree ∙ ap Some (trees i));
    };
    rises = engine.rises;
    covered = λ s left i lt. rw same (engine.covered s left i lt);
    carried = engine.carried;
  }
    where
      same : (life.opened ++ life.accepted) ++ [] ≡ life.opened ++ life.accepted
      same = append-nil (life.opened ++ life.accepted)

      long : length (life.opened ++ life.accepted) ≡ length life.opened + length life.accepted
      long = length-append life.opened life.accepted

      trees : (i : ℕ) → tree_at r life durable i ≡ tree_at r (folded_life r life) durable i
      trees i = ap (λ n. tree_at r life n i) all ∙ sym (ap (λ (l : List (Element Op)). applied r (ops_on i l) (tree_at r life (last_number life) i)) (take_nil {A = Element Op} (durable - opened_number (folded_life r life))))

      -- only the last number is left, and its trees are as they were
      last_allowed : (n : ℕ) → opened_number (folded_life r life) ≤ n → n ≤ last_number (folded_life r life) → (i : ℕ) → i < hives
          → IsTrue (r.allows i n (tree_at r (folded_life r life) n i))
      last_allowed n low high i lt = subst (λ m. IsTrue (r.allows i m (tree_at r (folded_life r life) m i))) (all ∙ omega (arith, low, high, long))
          (subst (λ t. IsTrue (r.allows i durable t)) (trees i) (engine.fits.allowed durable engine.fits.from_opened engine.fits.to_last i lt))

  end_is_last : (durable below n : ℕ) (numbers : ℕ → ℕ) (es : List (Element Op)) → IsLastNumber hives numbers below es n
      → floor_of n below es + length es ≡ n
  end_is_last durable below n numbers [] h = omega arith
  end_is_last durable below n numbers (e ∷ es) h = sym h

  opened_ops : (below n k i : ℕ) (es : List (Element Op)) → floor_of n below es + length es ≡ n
      → ops_on i (drop (k - floor_of n below es) (take (n - floor_of n below es) (es ++ []))) ≡ ops_on i (drop (k - below) es)
  opened_ops below n k i [] h = ap (ops_on i) (ap (drop (k - n)) (take_nil {A = Element Op} (n - n)) ∙ drop_nil {A = Element Op} (k - n) ∙ sym (drop_nil {A = Element Op} (k - below)))
  opened_ops below n k i (e ∷ es) h = ap (λ (l : List (Element Op)). ops_on i (drop (k - below) l)) (take_all (n - below) ((e ∷ es) ++ []) (omega (arith, h, length-append (e ∷ es) [])) ∙ append-nil (e ∷ es))

  carried_at : (below n : ℕ) (numbers : ℕ → ℕ) (es : List (Element Op)) → IsLastNumber hives numbers below es n → es ≡ []
      → (i : ℕ) × (i < hives) × (numbers i ≡ n)
  carried_at below n numbers [] h none = h
  carried_at below n numbers (e ∷ es) h none = absurd (omega (arith, ap length none))

  -- what was recovered begins a life
  pub begin : (s : Content Op) (held : ℕ → T × ℕ) (n : ℕ) (trees : ℕ → T) → Recovers r most hives s held n trees
      → AllByRecursion (NamesHive hives) s.elements
      → EngineFits r most hives (opened_life n trees s) n (settled s) (λ i. settled (held i))
  begin s held n trees found named = record {
    fits = record {
      from_opened = omega (arith, end);
      to_last = omega (arith, end);
      limit = omega (arith, end, found.limit);
      legal = λ i lt. refl;
      named = all_append (NamesHive hives) s.elements [] named tt;
      allowed = λ m low high i lt. subst (λ k. IsTrue (r.allows i k (tree_at r (opened_life n trees s) k i))) (omega (arith, low, high, end))
          (subst (λ t. IsTrue (r.allows i n t)) (at_opening i) (found.allowed i lt));
    };
    journal_fits = λ x left. subst (JournalFits (opened_life n trees s) n) (sym (only_leaves s x left)) (record {
      low = omega arith;
      holds_durable = omega (arith, end);
      high = omega arith;
      piece = sym (ap (λ z. drop z (take (top n s - floor n s) (s.elements ++ []))) none_below ∙ take_all (top n s - floor n s) (s.elements ++ []) (omega (arith, length-append s.elements [])) ∙ append-nil s.elements);
    });
    ends = end;
    hive_fits = λ i lt x left. subst (HiveFits r (opened_life n trees s) n i) (sym (only_leaves (held i) x left)) (record {
      not_above = found.not_above i lt;
      tree = rw (opened_ops s.below n (held i).1 i s.elements end) (found.tree i lt ∙ ap Some (at_opening i));
    });
    rises = λ i lt x left. omega (arith, ap (λ (y : T × ℕ). y.1) (only_leaves (held i) x left));
    covered = λ x left i lt. subst (λ y. ops_in (opened_life n trees s) i (held i).1 (floor n y) ≡ []) (sym (only_leaves s x left)) (ap (ops_on i) (seg_none (s.elements ++ []) ((held i).1 - floor n s) (floor n s - floor n s) (omega arith)));
    carried = λ x left none. carried_at s.below n (λ i. (held i).1) s.elements found.last (ap (λ (y : Content Op). y.elements) (sym (only_leaves s x left)) ∙ none);
  }
    where
      end : floor n s + length s.elements ≡ n
      end = end_is_last n s.below n (λ i. (held i).1) s.elements found.last

      at_opening : (i : ℕ) → trees i ≡ tree_at r (opened_life n trees s) n i
      at_opening i = sym (ap (λ (l : List (Element Op)). applied r (ops_on i l) (trees i)) (take_nil {A = Element Op} (n - opened_number (opened_life n trees s))))

      none_below : floor n s - floor n s ≡ 0
      none_below = omega arith
