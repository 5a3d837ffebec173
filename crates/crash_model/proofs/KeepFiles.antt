-- Batches, trims and flushes keep the invariant.
use Rattle.std.proofs.Common.{◌≡◌, ◌⊎◌, inl, inr, ℕ, zero, suc, ◌+◌, ◌-◌, ◌<◌, ◌≤◌, List, [], ◌∷◌, ◌++◌, length, take, drop, refl, ◌∙◌, ap, sym, subst, arith, Some, None}
use Rattle.std.proofs.lemmas.List.{length-append, length-drop, length-take}
use Rattle.std.proofs.lemmas.Option.{none-some, same_Some}
use Rattle.std.specs.List.{AllByRecursion}
use Rattle.crash_model.specs.Changes.{Rules, Element, on_hive, ops_on, replay}
use Rattle.crash_model.specs.Promises.{Content, nothing, Choice, Leaves, floor_of, floor, top}
use Rattle.crash_model.specs.Recovery.{above}
use Rattle.crash_model.specs.Life.{Life, last_number, known_elements, elements_in, ops_in, tree_at, NamesHive}
use Rattle.crash_model.specs.Invariant.{JournalFits, HiveFits, EngineFits}
use Rattle.crash_model.proofs.Lists.{first_nil, second_nil, le_or_le, seg_none, all_take, all_drop}
use Rattle.crash_model.proofs.Replays.{replay_on}
use Rattle.crash_model.proofs.OnePrefix.{part_split, ops_split, covered_from, ops_above, forward}

pub covered_higher : {T Op : Type 0} (life : Life T Op) (i k0 k hi : ℕ) → k0 ≤ k → ops_in life i k0 hi ≡ [] → ops_in life i k hi ≡ []
covered_higher life i k0 k hi a h = by_place (le_or_le k hi)
  where
    by_place : (k ≤ hi) ⊎ (hi ≤ k) → ops_in life i k hi ≡ []
    by_place (inl le) = covered_from life i k0 k hi a le h
    by_place (inr le) = ap (ops_on i) (seg_none (known_elements life) (k - life.base) (hi - life.base) (omega (arith, le)))

pub ends_nil : {Op : Type 0} (durable below : ℕ) (es : List (Element Op)) → es ≡ [] → floor_of durable below es + length es ≡ durable
ends_nil durable below [] h = omega arith
ends_nil durable below (e ∷ es) h = absurd (omega (arith, ap length h))

pub floor_full : {Op : Type 0} (durable below : ℕ) (es : List (Element Op)) → 1 ≤ length es → floor_of durable below es ≡ below
floor_full durable below [] h = absurd (omega (arith, h))
floor_full durable below (e ∷ es) h = refl

pub part_length : {T Op : Type 0} (life : Life T Op) (lo hi : ℕ) → life.base ≤ lo → lo ≤ hi → hi ≤ last_number life
    → length (elements_in life lo hi) ≡ hi - lo
part_length life lo hi a b c = rw (length-drop (lo - life.base) (take (hi - life.base) (known_elements life))) rw (length-take (hi - life.base) (known_elements life)) rw (length-append life.opened life.accepted) (omega (arith, a, b, c))

pub only_leaves : {X : Type 0} (s x : X) → Leaves (record { now = s; next = None }) x → x ≡ s
only_leaves s x (inl p) = p
only_leaves s x (inr p) = absurd (none-some x p)

-- an element that names a hive isn't above the number of that hive, if the hive has all elements
pub last_named : {Op : Type 0} (hives : ℕ) (e : Element Op) (es : List (Element Op)) → AllByRecursion (NamesHive hives) (e ∷ es)
    → (i : ℕ) × (i < hives) × ((n : ℕ) → ops_on i (drop n (e ∷ es)) ≡ [] → length (e ∷ es) ≤ n)
last_named hives e [] all = (all.0.0, all.0.1, λ n h. at n h)
  where
    at : (n : ℕ) → ops_on all.0.0 (drop n (e ∷ [])) ≡ [] → 1 ≤ n
    at zero h = absurd (omega (arith, ap length (sym all.0.4 ∙ first_nil (on_hive all.0.0 e) [] h)))
    at (suc n) h = omega arith
last_named hives e (f ∷ es) all = let l = last_named hives f es all.1 in (l.0, l.1, λ n h. at l.0 l.2 n h)
  where
    at : (i : ℕ) → ((n : ℕ) → ops_on i (drop n (f ∷ es)) ≡ [] → length (f ∷ es) ≤ n) → (n : ℕ) → ops_on i (drop n (e ∷ f ∷ es)) ≡ []
        → length (e ∷ f ∷ es) ≤ n
    at i low zero h = absurd (omega (arith, low 0 (second_nil (on_hive i e) (ops_on i (f ∷ es)) h)))
    at i low (suc n) h = omega (arith, low n h)

module _ {T Op : Type 0} (r : Rules T Op) (most hives : ℕ) (life : Life T Op) (durable : ℕ) (journal : Choice (Content Op)) (files : ℕ → Choice (T × ℕ)) (engine : EngineFits r most hives life durable journal files) where
  -- hives that continue: begun flushes, ended flushes
  pub keep_files : (new : ℕ → Choice (T × ℕ))
      → ((i : ℕ) → i < hives → (files i).now.1 ≤ (new i).now.1)
      → ((i : ℕ) → i < hives → (x : T × ℕ) → Leaves (new i) x → HiveFits r life durable i x)
      → ((i : ℕ) → i < hives → (x : T × ℕ) → Leaves (new i) x → (new i).now.1 ≤ x.1)
      → EngineFits r most hives life durable journal new
  keep_files new higher each rises = record {
    fits = engine.fits;
    journal_fits = engine.journal_fits;
    ends = engine.ends;
    hive_fits = each;
    rises = rises;
    covered = λ s left i lt. covered_higher life i (files i).now.1 (new i).now.1 (floor durable s) (higher i lt) (engine.covered s left i lt);
    carried = λ s left none. let c = engine.carried s left none in (c.0, c.1, omega (arith, c.2, higher c.0 c.1, (each c.0 c.1 (new c.0).now (inl refl)).not_above));
  }

  -- what a flush that begins now gives
  pub flushed_fits : (i : ℕ) → i < hives → (t : T) → replay r (ops_in life i (files i).now.1 durable) (files i).now.0 ≡ Some t
      → HiveFits r life durable i (t, durable)
  flushed_fits i lt t h = record {
    not_above = omega arith;
    tree = rw (ap (ops_on i) (seg_none (known_elements life) (durable - life.base) (durable - life.base) (omega arith))) (sym h ∙ (engine.hive_fits i lt (files i).now (inl refl)).tree);
  }

  -- a batch begins: a whole number of the elements that are not durable yet
  pub keep_batch : (m : ℕ) → 1 ≤ m → durable + m ≤ last_number life
      → EngineFits r most hives life durable (record { now = journal.now; next = Some (record { below = floor durable journal.now; elements = journal.now.elements ++ elements_in life durable (durable + m) }) }) files
  keep_batch m one high = record {
    fits = engine.fits;
    journal_fits = λ s left. by_choice (JournalFits life durable) old_fits fits s left;
    ends = engine.ends;
    hive_fits = engine.hive_fits;
    rises = engine.rises;
    covered = λ s left i lt. by_choice (λ s. ops_in life i (files i).now.1 (floor durable s) ≡ []) (engine.covered journal.now (inl refl) i lt) (rw same_floor (engine.covered journal.now (inl refl) i lt)) s left;
    carried = λ s left. by_choice (λ s. s.elements ≡ [] → (i : ℕ) × (i < hives) × ((files i).now.1 ≡ durable)) (engine.carried journal.now (inl refl)) (λ none. absurd (omega (arith, long, one, ap length none))) s left;
  }
    where
      old_fits : JournalFits life durable journal.now
      old_fits = engine.journal_fits journal.now (inl refl)

      long : length (journal.now.elements ++ elements_in life durable (durable + m)) ≡ length journal.now.elements + m
      long = length-append journal.now.elements (elements_in life durable (durable + m)) ∙ ap (λ n. length journal.now.elements + n) (part_length life durable (durable + m) (omega (arith, engine.fits.from_opened)) (omega arith) high ∙ omega arith)

      same_floor : floor_of durable (floor durable journal.now) (journal.now.elements ++ elements_in life durable (durable + m)) ≡ floor durable journal.now
      same_floor = floor_full durable (floor durable journal.now) (journal.now.elements ++ elements_in life durable (durable + m)) (omega (arith, long, one))

      end : floor_of durable (floor durable journal.now) (journal.now.elements ++ elements_in life durable (durable + m)) + length (journal.now.elements ++ elements_in life durable (durable + m)) ≡ durable + m
      end = omega (arith, same_floor, long, engine.ends)

      fits : JournalFits life durable (record { below = floor durable journal.now; elements = journal.now.elements ++ elements_in life durable (durable + m) })
      fits = record {
        low = omega (arith, same_floor, old_fits.low);
        holds_durable = omega (arith, end);
        high = omega (arith, end, high);
        piece = rw end rw same_floor (ap (λ (es : List (Element Op)). es ++ elements_in life durable (durable + m)) (old_fits.piece ∙ ap (elements_in life (floor durable journal.now)) engine.ends) ∙ sym (part_split life (floor durable journal.now) durable (durable + m) (omega (arith, engine.ends)) (omega arith)));
      }

      by_choice : (P : Content Op → Type 0) → P journal.now
          → P (record { below = floor durable journal.now; elements = journal.now.elements ++ elements_in life durable (durable + m) })
          → (s : Content Op)
          → Leaves (record { now = journal.now; next = Some (record { below = floor durable journal.now; elements = journal.now.elements ++ elements_in life durable (durable + m) }) }) s → P s
      by_choice P a b s (inl p) = subst P (sym p) a
      by_choice P a b s (inr p) = subst P (same_Some _ _ p) b

  -- a batch ends
  pub keep_durable : (s : Content Op) (e : Element Op) (es : List (Element Op)) → journal.next ≡ Some s → s.elements ≡ e ∷ es
      → EngineFits r most hives life (top durable s) (record { now = s; next = None }) files
  keep_durable s e es is some = record {
    fits = record {
      from_opened = omega (arith, engine.fits.from_opened, old_fits.holds_durable);
      to_last = old_fits.high;
      limit = engine.fits.limit;
      legal = engine.fits.legal;
      named = engine.fits.named;
      allowed = engine.fits.allowed;
    };
    journal_fits = λ x left. subst (JournalFits life (top durable s)) (sym (only_leaves s x left)) fits;
    ends = same_end;
    hive_fits = each;
    rises = engine.rises;
    covered = λ x left i lt. subst (λ x. ops_in life i (files i).now.1 (floor (top durable s) x) ≡ []) (sym (only_leaves s x left)) (rw same_floor (engine.covered s (inr is) i lt));
    carried = λ x left none. absurd (omega (arith, ap length (sym some ∙ ap (λ (y : Content Op). y.elements) (sym (only_leaves s x left)) ∙ none)));
  }
    where
      old_fits : JournalFits life durable s
      old_fits = engine.journal_fits s (inr is)

      same_floor : floor (top durable s) s ≡ floor durable s
      same_floor = ap (floor_of (top durable s) s.below) some ∙ sym (ap (floor_of durable s.below) some)

      same_end : top (top durable s) s ≡ top durable s
      same_end = ap (λ f. f + length s.elements) same_floor

      fits : JournalFits life (top durable s) s
      fits = record {
        low = omega (arith, same_floor, old_fits.low);
        holds_durable = omega (arith, same_end);
        high = omega (arith, same_end, old_fits.high);
        piece = rw same_floor old_fits.piece;
      }

      each : (i : ℕ) → i < hives → (x : T × ℕ) → Leaves (files i) x → HiveFits r life (top durable s) i x
      each i lt x left = let h = engine.hive_fits i lt x left in record {
        not_above = omega (arith, h.not_above, old_fits.holds_durable);
        tree = rw (ops_split life i x.1 durable (top durable s) h.not_above old_fits.holds_durable)
            (replay_on r (ops_in life i x.1 durable) (ops_in life i durable (top durable s)) x.0 (tree_at r life durable i) h.tree
            ∙ forward r most hives life durable engine.fits i lt durable (top durable s) engine.fits.from_opened old_fits.holds_durable);
      }

  -- a trim begins, if each hive has what the journal has of it
  pub keep_trim : (e : Element Op) (es : List (Element Op)) → journal.now.elements ≡ e ∷ es
      → ((i : ℕ) → i < hives → ops_on i (above (files i).now.1 journal.now) ≡ [])
      → EngineFits r most hives life durable (record { now = journal.now; next = Some nothing }) files
  keep_trim e es some held = record {
    fits = engine.fits;
    journal_fits = λ s left. by_choice (JournalFits life durable) old_fits fits s left;
    ends = engine.ends;
    hive_fits = engine.hive_fits;
    rises = engine.rises;
    covered = λ s left i lt. by_choice (λ s. ops_in life i (files i).now.1 (floor durable s) ≡ []) (engine.covered journal.now (inl refl) i lt) (all_held i lt) s left;
    carried = λ s left none. carrier;
  }
    where
      old_fits : JournalFits life durable journal.now
      old_fits = engine.journal_fits journal.now (inl refl)

      fits : JournalFits life durable nothing
      fits = record {
        low = omega (arith, engine.fits.from_opened);
        holds_durable = omega arith;
        high = omega (arith, engine.fits.to_last);
        piece = sym (seg_none (known_elements life) (durable - life.base) ((durable + 0) - life.base) (omega arith));
      }

      not_above : (i : ℕ) → i < hives → (files i).now.1 ≤ durable
      not_above i lt = (engine.hive_fits i lt (files i).now (inl refl)).not_above

      all_held : (i : ℕ) → i < hives → ops_in life i (files i).now.1 durable ≡ []
      all_held i lt = ap (ops_in life i (files i).now.1) (sym engine.ends)
          ∙ sym (ops_above life durable i (files i).now.1 (files i).now.1 journal.now.below journal.now.elements old_fits (engine.covered journal.now (inl refl) i lt) (omega arith) (not_above i lt)) ∙ held i lt

      named : AllByRecursion (NamesHive hives) (e ∷ es)
      named = subst (AllByRecursion (NamesHive hives)) (sym old_fits.piece ∙ some) (all_drop (NamesHive hives) (floor durable journal.now - life.base) (take (top durable journal.now - life.base) (known_elements life)) (all_take (NamesHive hives) (top durable journal.now - life.base) (known_elements life) engine.fits.named))

      carrier : (i : ℕ) × (i < hives) × ((files i).now.1 ≡ durable)
      carrier = let l = last_named hives e es named in (l.0, l.1, reached l.0 l.1 (l.2 ((files l.0).now.1 - journal.now.below) (ap (λ (x : List (Element Op)). ops_on l.0 (drop ((files l.0).now.1 - journal.now.below) x)) (sym some) ∙ held l.0 l.1)))
        where
          reached : (i : ℕ) → i < hives → length (e ∷ es) ≤ (files i).now.1 - journal.now.below → (files i).now.1 ≡ durable
          reached i lt far =
              let f : floor durable journal.now ≡ journal.now.below = ap (floor_of durable journal.now.below) some in
              let n : length journal.now.elements ≡ suc (length es) = ap length some in
              omega (arith, far, f, n, not_above i lt, engine.ends)

      by_choice : (P : Content Op → Type 0) → P journal.now → P nothing → (s : Content Op)
          → Leaves (record { now = journal.now; next = Some nothing }) s → P s
      by_choice P a b s (inl p) = subst P (sym p) a
      by_choice P a b s (inr p) = subst P (same_Some _ _ p) b

  -- a trim ends
  pub keep_trimmed : (s : Content Op) → journal.next ≡ Some s → s.elements ≡ []
      → EngineFits r most hives life durable (record { now = s; next = None }) files
  keep_trimmed s is none = record {
    fits = engine.fits;
    journal_fits = λ x left. engine.journal_fits x (from x left);
    ends = ends_nil durable s.below s.elements none;
    hive_fits = engine.hive_fits;
    rises = engine.rises;
    covered = λ x left. engine.covered x (from x left);
    carried = λ x left. engine.carried x (from x left);
  }
    where
      from : (x : Content Op) → Leaves (record { now = s; next = None }) x → Leaves journal x
      from x left = inr (is ∙ ap Some (sym (only_leaves s x left)))
