-- Whatever a crash leaves of the journal and of each hive, one number is recovered.
use Rattle.std.proofs.Common.{◌≡◌, ◌⊎◌, inl, inr, ℕ, ◌+◌, ◌-◌, ◌<◌, ◌≤◌, List, [], ◌∷◌, ◌++◌, length, take, drop, refl, ◌∙◌, ap, sym, arith, Some}
use Rattle.std.proofs.lemmas.List.{drop-drop, take-append-drop}
use Rattle.std.proofs.lemmas.Option.{same_Some}
use Rattle.crash_model.specs.Changes.{Rules, Element, ops_on, replay, applied}
use Rattle.crash_model.specs.Promises.{Content, Choice, Leaves, floor_of, top}
use Rattle.crash_model.specs.Recovery.{above, Recovers, IsLastNumber}
use Rattle.crash_model.specs.Life.{Life, opened_number, known_elements, elements_in, ops_in, tree_at}
use Rattle.crash_model.specs.Invariant.{IsPrefix, LifeFits, JournalFits, HiveFits, EngineFits}
use Rattle.crash_model.proofs.Lists.{seg_split, seg_past, drop_nil, second_nil, le_or_le}
use Rattle.crash_model.proofs.Replays.{ops_on-append, replay_on, replay_middle}

-- the part is split at a number within it
pub part_split : {T Op : Type 0} (life : Life T Op) (lo mid hi : ℕ) → lo ≤ mid → mid ≤ hi
    → elements_in life lo hi ≡ elements_in life lo mid ++ elements_in life mid hi
part_split life lo mid hi a b = seg_split (known_elements life) (lo - life.base) (mid - life.base) (hi - life.base) (omega (arith, a)) (omega (arith, b))

pub ops_split : {T Op : Type 0} (life : Life T Op) (i lo mid hi : ℕ) → lo ≤ mid → mid ≤ hi
    → ops_in life i lo hi ≡ ops_in life i lo mid ++ ops_in life i mid hi
ops_split life i lo mid hi a b = ap (ops_on i) (part_split life lo mid hi a b) ∙ ops_on-append i (elements_in life lo mid) (elements_in life mid hi)

-- past the opened number the part is of what was accepted
pub part_accepted : {T Op : Type 0} (life : Life T Op) (lo hi : ℕ) → opened_number life ≤ lo → lo ≤ hi
    → elements_in life lo hi ≡ drop (lo - opened_number life) (take (hi - opened_number life) life.accepted)
part_accepted life lo hi a b =
    let p : lo - life.base ≡ length life.opened + (lo - opened_number life) = omega (arith, a) in
    let q : hi - life.base ≡ length life.opened + (hi - opened_number life) = omega (arith, a, b) in
    rw p rw q (seg_past life.opened life.accepted (lo - opened_number life) (hi - opened_number life))

-- the operations between two numbers
pub ops_halves : {Op : Type 0} (i : ℕ) (es : List (Element Op)) (l h : ℕ) → l ≤ h
    → ops_on i (take h es) ≡ ops_on i (take l es) ++ ops_on i (drop l (take h es))
ops_halves i es l h b = ap (ops_on i) (seg_split es 0 l h (omega arith) b) ∙ ops_on-append i (take l es) (drop l (take h es))

pub forward_in : {T Op : Type 0} (r : Rules T Op) (i : ℕ) (es : List (Element Op)) (t : T) (l h : ℕ) → l ≤ h
    → replay r (ops_on i es) t ≡ Some (applied r (ops_on i es) t)
    → replay r (ops_on i (drop l (take h es))) (applied r (ops_on i (take l es)) t) ≡ Some (applied r (ops_on i (take h es)) t)
forward_in r i es t l h b legal = rw (ops_halves i es l h b) (replay_middle r (ops_on i (take l es)) (ops_on i (drop l (take h es))) (ops_on i (drop h es)) t _ (ap (λ (os : List _). replay r os t) (sym whole) ∙ legal))
  where
    whole : ops_on i es ≡ (ops_on i (take l es) ++ ops_on i (drop l (take h es))) ++ ops_on i (drop h es)
    whole = ap (ops_on i) (sym (take-append-drop h es)) ∙ ops_on-append i (take h es) (drop h es) ∙ ap (λ (os : List _). os ++ ops_on i (drop h es)) (ops_halves i es l h b)

module _ {T Op : Type 0} (r : Rules T Op) (most hives : ℕ) (life : Life T Op) (durable : ℕ) (fits : LifeFits r most hives life durable) where
  -- from the trees at one number to those at a later
  pub forward : (i : ℕ) → i < hives → (lo hi : ℕ) → opened_number life ≤ lo → lo ≤ hi
      → replay r (ops_in life i lo hi) (tree_at r life lo i) ≡ Some (tree_at r life hi i)
  forward i lt lo hi a b = rw (part_accepted life lo hi a b) (forward_in r i life.accepted (life.trees i) (lo - opened_number life) (hi - opened_number life) (omega (arith, b)) (fits.legal i lt))

-- if no operation above a lower number is lacked, none above a higher one is
pub covered_from : {T Op : Type 0} (life : Life T Op) (i k0 k hi : ℕ) → k0 ≤ k → k ≤ hi → ops_in life i k0 hi ≡ [] → ops_in life i k hi ≡ []
covered_from life i k0 k hi a b h = second_nil (ops_in life i k0 k) (ops_in life i k hi) (sym (ops_split life i k0 k hi a b) ∙ h)

-- the operations of a journal's elements above a hive's number are all those that it lacks
pub ops_above : {T Op : Type 0} (life : Life T Op) (durable i k0 k below : ℕ) (es : List (Element Op))
    → JournalFits life durable (record { below = below; elements = es })
    → ops_in life i k0 (floor_of durable below es) ≡ [] → k0 ≤ k → k ≤ durable
    → ops_on i (drop (k - below) es) ≡ ops_in life i k (floor_of durable below es + length es)
ops_above {Op = Op} life durable i k0 k below [] fits covered a b = let p : durable + 0 ≡ durable = omega arith in rw (drop_nil {A = Element Op} (k - below)) rw p (sym (covered_from life i k0 k durable a b covered))
ops_above {Op = Op} life durable i k0 k below (e ∷ es) fits covered a b = rw placed (by_place (le_or_le k below))
  where
    placed : drop (k - below) (e ∷ es) ≡ drop ((below - life.base) + (k - below)) (take ((below + length (e ∷ es)) - life.base) (known_elements life))
    placed = ap (drop (k - below)) fits.piece ∙ drop-drop (k - below) (below - life.base) (take ((below + length (e ∷ es)) - life.base) (known_elements life))

    by_place : (k ≤ below) ⊎ (below ≤ k) → ops_on i (drop ((below - life.base) + (k - below)) (take ((below + length (e ∷ es)) - life.base) (known_elements life))) ≡ ops_in life i k (below + length (e ∷ es))
    by_place (inl le) =
        let p : (below - life.base) + (k - below) ≡ below - life.base = omega (arith, le) in
        rw p (sym (ops_split life i k below (below + length (e ∷ es)) le (omega arith) ∙ ap (λ (os : List Op). os ++ ops_in life i below (below + length (e ∷ es))) (covered_from life i k0 k below a le covered)))
    by_place (inr le) =
        let p : (below - life.base) + (k - below) ≡ k - life.base = omega (arith, le, fits.low) in
        rw p refl

is_last : {Op : Type 0} (hives durable below : ℕ) (numbers : ℕ → ℕ) (es : List (Element Op))
    → (es ≡ [] → (i : ℕ) × (i < hives) × (numbers i ≡ durable)) → IsLastNumber hives numbers below es (floor_of durable below es + length es)
is_last hives durable below numbers [] some = let s = some refl in (s.0, s.1, omega (arith, s.2))
is_last hives durable below numbers (e ∷ es) some = refl

module _ {T Op : Type 0} (r : Rules T Op) (most hives : ℕ) (life : Life T Op) (durable : ℕ) (journal : Choice (Content Op)) (files : ℕ → Choice (T × ℕ)) (engine : EngineFits r most hives life durable journal files) where
  pub one_prefix : (s : Content Op) → Leaves journal s → (held : ℕ → T × ℕ) → ((i : ℕ) → i < hives → Leaves (files i) (held i))
      → IsPrefix r most hives life durable s held
  one_prefix s left held each = (
    top durable s,
    fits.holds_durable,
    fits.high,
    record {
      last = is_last hives durable s.below (λ i. (held i).1) s.elements carried;
      limit = omega (arith, fits.high, engine.fits.limit);
      not_above = λ i lt. omega (arith, (of_hive i lt).not_above, fits.holds_durable);
      tree = tree;
      allowed = λ i lt. engine.fits.allowed (top durable s) (omega (arith, engine.fits.from_opened, fits.holds_durable)) fits.high i lt;
    },
  )
    where
      fits : JournalFits life durable s
      fits = engine.journal_fits s left

      of_hive : (i : ℕ) → i < hives → HiveFits r life durable i (held i)
      of_hive i lt = engine.hive_fits i lt (held i) (each i lt)

      carried : s.elements ≡ [] → (i : ℕ) × (i < hives) × ((held i).1 ≡ durable)
      carried none = let c = engine.carried s left none in (c.0, c.1, omega (arith, c.2, engine.rises c.0 c.1 (held c.0) (each c.0 c.1), (of_hive c.0 c.1).not_above))

      tree : (i : ℕ) → i < hives → replay r (ops_on i (above (held i).1 s)) (held i).0 ≡ Some (tree_at r life (top durable s) i)
      tree i lt =
          rw (ops_above life durable i (files i).now.1 (held i).1 s.below s.elements fits (engine.covered s left i lt) (engine.rises i lt (held i) (each i lt)) (of_hive i lt).not_above)
          rw (ops_split life i (held i).1 durable (top durable s) (of_hive i lt).not_above fits.holds_durable)
          (replay_on r (ops_in life i (held i).1 durable) (ops_in life i durable (top durable s)) (held i).0 (tree_at r life durable i) (of_hive i lt).tree
          ∙ forward r most hives life durable engine.fits i lt durable (top durable s) engine.fits.from_opened fits.holds_durable)

same_last : {Op : Type 0} (hives below n m : ℕ) (numbers : ℕ → ℕ) (es : List (Element Op)) → IsLastNumber hives numbers below es n
    → IsLastNumber hives numbers below es m
    → ((i : ℕ) → i < hives → numbers i ≤ n) → ((i : ℕ) → i < hives → numbers i ≤ m) → n ≡ m
same_last hives below n m numbers [] a b p q = omega (arith, a.2, b.2, p b.0 b.1, q a.0 a.1)
same_last hives below n m numbers (e ∷ es) a b p q = a ∙ sym b

pub only_one : {T Op : Type 0} (r : Rules T Op) (most hives : ℕ) (s : Content Op) (held : ℕ → T × ℕ) (n m : ℕ) (ts us : ℕ → T)
    → Recovers r most hives s held n ts → Recovers r most hives s held m us → (n ≡ m) × ((i : ℕ) → i < hives → ts i ≡ us i)
only_one r most hives s held n m ts us a b = (same_last hives s.below n m (λ i. (held i).1) s.elements a.last b.last a.not_above b.not_above, λ i lt. same_Some (ts i) (us i) (sym (a.tree i lt) ∙ b.tree i lt))
