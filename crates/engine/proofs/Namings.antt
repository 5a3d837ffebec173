-- The last durable change that names a hive.
use Rattle.std.proofs.Common.{◌≡◌, ◌⊎◌, inl, inr, ℕ, ◌+◌, ◌-◌, ◌≤◌, List, [], ◌∷◌, ◌++◌, length, take, drop, sym, ◌∙◌, ap, subst, arith, append_assoc, Result, Ok, Err}
use Rattle.std.proofs.lemmas.List.{append-nil, drop-map, drop-take, length-append, length-map, length-take, map-append, take-append-le, take-map, take_all}
use Rattle.reg_tree.specs.declared.element.Element.{Element}
use Rattle.crash_model.specs.Changes as law
use Rattle.crash_model.specs.Changes.{on_hive, ops_on}
use Rattle.crash_model.specs.Life.{Life, known_elements, elements_in, opened_number}
use Rattle.crash_model.proofs.Lists.{seg_split}
use Rattle.crash_model.proofs.OnePrefix.{part_accepted}
use Rattle.store_model.specs.Machine.{Machine, last_number, pending}
use Rattle.store_model.specs.Invariant.{JournalStateStays, AcceptsOneChange}
use Rattle.reg_tree.specs.Maps.{TreeMap}
use Rattle.engine_invariant.specs.States.{life_of}
use Rattle.engine_invariant.specs.Answers.{after_flush}
use Rattle.disk_model.specs.declared.progress.Progress.{Progress}
use Rattle.refusals.specs.declared.refusal.Refusal.{Refusal}
use Rattle.refusals.specs.declared.refusal.Refusal.TheVariants.{DiskFault}
use Rattle.change_codec.specs.ModelChanges.{TimedOp, timed_element, timed_elements}
use Rattle.commit_journal.specs.LastChangePerHive.{AreLastIn}
use Rattle.engine.specs.LastChangePerHive.{AreLastNaming}

-- Among the changes that an engine knows

known : Machine → ℕ → List Element → List (law.Element TimedOp)
known m base opened = take (m.durable - base) (known_elements (life_of m base opened))

-- if the durable changes stay, so do the last ones
pub naming_stays : (m t : Machine) (base : ℕ) (opened : List Element) (numbers : List ℕ) → take (t.durable - base) (known_elements (life_of t base opened)) ≡ take (m.durable - base) (known_elements (life_of m base opened))
    → AreLastNaming m base opened numbers → AreLastNaming t base opened numbers
naming_stays m t base opened numbers same last i k is =
    let l = last i k is in
    record {
      none_after = subst (λ (es : List (law.Element TimedOp)). ops_on i (drop (k - base) es) ≡ []) (sym same) l.none_after;
      names = subst (λ (es : List (law.Element TimedOp)). (k ≡ 0) ⊎ ((1 ≤ k) × ¬ (ops_on i (drop (k - 1 - base) es) ≡ []))) (sym same) l.names;
    }

pub naming_is : (m : Machine) (base : ℕ) (opened : List Element) (numbers : List ℕ) (es : List (law.Element TimedOp)) → es ≡ take (m.durable - base) (known_elements (life_of m base opened))
    → AreLastIn base es numbers → AreLastNaming m base opened numbers
naming_is m base opened numbers es is last i k at =
    let l = last i k at in
    record {
      none_after = subst (λ (xs : List (law.Element TimedOp)). ops_on i (drop (k - base) xs) ≡ []) is l.none_after;
      names = subst (λ (xs : List (law.Element TimedOp)). (k ≡ 0) ⊎ ((1 ≤ k) × ¬ (ops_on i (drop (k - 1 - base) xs) ≡ []))) is l.named;
    }

pub naming_of : (m : Machine) (base : ℕ) (opened : List Element) (numbers : List ℕ) → AreLastNaming m base opened numbers → AreLastIn base (take (m.durable - base) (known_elements (life_of m base opened))) numbers
naming_of m base opened numbers last i k at = let l = last i k at in record { none_after = l.none_after; named = l.names }

-- an opening
pub naming_opens : (m : Machine) (base : ℕ) (opened : List Element) (numbers : List ℕ) → m.before ≡ base + length opened → m.durable ≡ m.before → m.accepted ≡ [] → AreLastIn base (timed_elements opened) numbers → AreLastNaming m base opened numbers
naming_opens m base opened numbers begun durable none last = naming_is m base opened numbers (timed_elements opened) whole last
  where
    whole : timed_elements opened ≡ take (m.durable - base) (timed_elements opened ++ timed_elements m.accepted)
    whole = sym (append-nil (timed_elements opened)) ∙ ap (λ (l : List Element). timed_elements opened ++ timed_elements l) (sym none)
        ∙ sym (take_all (m.durable - base) (timed_elements opened ++ timed_elements m.accepted) (omega (arith, begun, durable, length-map opened timed_element, length-append (timed_elements opened) (timed_elements m.accepted), ap (λ (l : List Element). length (timed_elements l)) none)))

-- changes become durable
pub naming_settles : (m t : Machine) (base : ℕ) (opened : List Element) (old new : List ℕ) → m.before ≡ base + length opened → m.before ≤ m.durable → m.durable ≤ last_number m → m.durable ≤ t.durable → t.durable ≤ last_number m → t.accepted ≡ m.accepted
    → AreLastNaming m base opened old
    → ((b : ℕ) (es : List (law.Element TimedOp)) → b + length es ≡ m.durable → AreLastIn b es old → AreLastIn b (es ++ timed_elements (take (t.durable - m.durable) (pending m))) new) → AreLastNaming t base opened new
naming_settles m t base opened old new begun since there up within same last counted =
    naming_is t base opened new (front ++ timed_elements (take (t.durable - m.durable) (pending m))) (ap (λ (l : List (law.Element TimedOp)). front ++ l) (sym rest) ∙ sym (part_take m.durable t.durable up) ∙ ap (λ (l : List Element). take (t.durable - base) (timed_elements opened ++ timed_elements l)) (sym same))
    (counted base front long (naming_of m base opened old last))
  where
    life : Life TreeMap TimedOp
    life = life_of m base opened

    front : List (law.Element TimedOp)
    front = take (m.durable - base) (known_elements life)

    long : base + length front ≡ m.durable
    long = omega (arith, begun, since, there, length-take (m.durable - base) (known_elements life), length-append (timed_elements opened) (timed_elements m.accepted), length-map opened timed_element, length-map m.accepted timed_element)

    part_take : (lo hi : ℕ) → lo ≤ hi → take (hi - base) (known_elements life) ≡ take (lo - base) (known_elements life) ++ elements_in life lo hi
    part_take lo hi le = seg_split (known_elements life) 0 (lo - base) (hi - base) (omega arith) (omega (arith, le))

    number : opened_number life ≡ m.before
    number = omega (arith, begun, length-map opened timed_element)

    rest : elements_in life m.durable t.durable ≡ timed_elements (take (t.durable - m.durable) (pending m))
    rest = part_accepted life m.durable t.durable (omega (arith, number, since)) up
        ∙ ap (λ n. drop (m.durable - n) (take (t.durable - n) (timed_elements m.accepted))) number
        ∙ (let k : t.durable - m.before ≡ (m.durable - m.before) + (t.durable - m.durable) = omega (arith, since, up) in ap (λ n. drop (m.durable - m.before) (take n (timed_elements m.accepted))) k)
        ∙ drop-take (m.durable - m.before) (t.durable - m.durable) (timed_elements m.accepted)
        ∙ ap (take (t.durable - m.durable)) (drop-map timed_element (m.durable - m.before) m.accepted)
        ∙ take-map timed_element (t.durable - m.durable) (drop (m.durable - m.before) m.accepted)

-- an event that makes no step
pub known_stays : (m t : Machine) (base : ℕ) (opened : List Element) (hi : ℕ) → m.before ≡ base + length opened → hi ≤ last_number m → JournalStateStays m t ⊎ AcceptsOneChange m t
    → take (hi - base) (known_elements (life_of t base opened)) ≡ take (hi - base) (known_elements (life_of m base opened))
known_stays m t base opened hi begun there (inl s) = ap (λ (l : List Element). take (hi - base) (timed_elements opened ++ timed_elements l)) s.accepted
known_stays m t base opened hi begun there (inr g) =
    ap (λ (l : List Element). take (hi - base) (timed_elements opened ++ timed_elements l)) g.accepted
    ∙ ap (λ (l : List (law.Element TimedOp)). take (hi - base) (timed_elements opened ++ l)) (map-append timed_element m.accepted (g.element ∷ []))
    ∙ ap (take (hi - base)) (sym (append_assoc (timed_elements opened) (timed_elements m.accepted) (timed_element g.element ∷ [])))
    ∙ take-append-le (hi - base) (timed_elements opened ++ timed_elements m.accepted) (timed_element g.element ∷ [])
    (omega (arith, begun, there, length-append (timed_elements opened) (timed_elements m.accepted), length-map opened timed_element, length-map m.accepted timed_element))

durable_stays : (m t : Machine) → JournalStateStays m t ⊎ AcceptsOneChange m t → t.durable ≡ m.durable
durable_stays m t (inl s) = s.durable
durable_stays m t (inr g) = g.durable

pub last_changes_at_non_step : (m t : Machine) (base : ℕ) (opened : List Element) (numbers : List ℕ) → m.before ≡ base + length opened → m.before ≤ m.durable → m.durable ≤ last_number m → JournalStateStays m t ⊎ AcceptsOneChange m t → AreLastNaming m base opened numbers → AreLastNaming t base opened numbers
last_changes_at_non_step m t base opened numbers begun since there how last =
    naming_stays m t base opened numbers (ap (λ d. take (d - base) (known_elements (life_of t base opened))) (durable_stays m t how) ∙ known_stays m t base opened m.durable begun there how) last

-- a step of a flush
pub naming_flushes : (m t : Machine) (base : ℕ) (opened : List Element) (numbers : List ℕ) (come : Result Progress Refusal) → t ≡ after_flush m come → AreLastNaming m base opened numbers → AreLastNaming t base opened numbers
naming_flushes m t base opened numbers come is last = subst (λ (x : Machine). AreLastNaming x base opened numbers) (sym is) (by_answer come)
  where
    by_answer : (r : Result Progress Refusal) → AreLastNaming (after_flush m r) base opened numbers
    by_answer (Ok progress) = last
    by_answer (Err DiskFault) = last
    by_answer (Err _) = last
