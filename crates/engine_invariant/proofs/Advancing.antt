-- Steps of the journal in a row make something durable; and if all is durable, what is recovered is what is there now.
use Rattle.std.proofs.Common.{◌≡◌, ◌⊎◌, inl, inr, ℕ, zero, suc, ◌+◌, ◌-◌, ◌<◌, ◌≤◌, List, length, take, refl, ◌∙◌, ap, subst, arith}
use Rattle.std.proofs.lemmas.List.{take_all}
use Rattle.std.proofs.lemmas.Bool.{cases_lt}
use Rattle.reg_tree.specs.Sequences.{after_elements}
use Rattle.reg_tree.specs.declared.element.Element.{Element}
use Rattle.commit_journal.specs.Store.{Store}
use Rattle.store_model.specs.Machine.{Machine, last_number, trees_now}
use Rattle.engine_invariant.specs.Prefixes.{IsPrefix, Recover, trees_after}
use Rattle.engine_invariant.specs.Progress.{HasPending, IsJournalStep}

module _ (machines : ℕ → Machine) (left : ℕ → ℕ) (count : ℕ) (some : HasPending (machines 0))
    (steps : (k : ℕ) → k < count → IsJournalStep (machines k) (left k) (machines (k + 1)) (left (k + 1))) where
  abbrev Settles : ℕ → Type 0
  Settles k = (machines 0).durable < (machines k).durable

  -- after k steps some change is durable, or k fewer are left
  record Nearer (k : ℕ) : Type 0 where
    last : last_number (machines k) ≡ last_number (machines 0)
    rises : (machines 0).durable ≤ (machines k).durable
    nearer : Settles k ⊎ ((k ≡ 0) ⊎ (left k + k ≤ 5))

  one_on : (k : ℕ) → k < count → Nearer k → Nearer (k + 1)
  one_on k lt near = record {
    last = ap last_number one.step.next ∙ near.last;
    rises = omega (arith, near.rises, one.step.grows);
    nearer = by_kind near.nearer (cases_lt (machines k).durable (last_number (machines k)));
  }
    where
      one : IsJournalStep (machines k) (left k) (machines (k + 1)) (left (k + 1))
      one = steps k lt

      by_kind : Settles k ⊎ ((k ≡ 0) ⊎ (left k + k ≤ 5)) → ((machines k).durable < last_number (machines k)) ⊎ (last_number (machines k) ≤ (machines k).durable) → Settles (k + 1) ⊎ ((k + 1 ≡ 0) ⊎ (left (k + 1) + (k + 1) ≤ 5))
      by_kind (inl up) w = inl (omega (arith, up, one.step.grows))
      by_kind (inr few) (inr all) = inl (omega (arith, all, near.last, some, one.step.grows))
      by_kind (inr few) (inl waits) = by_step few (one.nears_durable waits).nearer
        where
          by_step : (k ≡ 0) ⊎ (left k + k ≤ 5) → ((machines k).durable < (machines (k + 1)).durable) ⊎ (left (k + 1) < left k) → Settles (k + 1) ⊎ ((k + 1 ≡ 0) ⊎ (left (k + 1) + (k + 1) ≤ 5))
          by_step f (inl up) = inl (omega (arith, up, near.rises))
          by_step (inl first) (inr less) = inr (inr (omega (arith, first, less, (one.nears_durable waits).few)))
          by_step (inr most) (inr less) = inr (inr (omega (arith, most, less)))

  all_near : (k : ℕ) → k ≤ count → Nearer k
  all_near zero le = record { last = refl; rises = omega arith; nearer = inr (inl refl) }
  all_near (suc k) le = let e : k + 1 ≡ suc k = omega arith in subst (λ n. Nearer n) e (one_on k (omega (arith, le)) (all_near k (omega (arith, le))))

  pub settle : 6 ≤ count → (machines 0).durable < (machines count).durable
  settle enough = elim ((all_near count (omega arith)).nearer) [
    | inl up ↦ up
    | inr few ↦ elim (few) [ inl none ↦ absurd (omega (arith, none, enough)) | inr most ↦ absurd (omega (arith, most, enough)) ]
  ]

pub all_recovered : (store : Store) (m : Machine) (files : ℕ → List ℕ) → IsPrefix store m files → (HasPending m → ⊥) → Recover store (length m.opened) files (last_number m) (trees_now m)
all_recovered store m files prefix none = by_prefix prefix
  where
    by_prefix : (n : ℕ) × (m.durable ≤ n) × (n ≤ last_number m) × Recover store (length m.opened) files n (trees_after m n) → Recover store (length m.opened) files (last_number m) (trees_now m)
    by_prefix (n, low, high, found) =
        let all : last_number m ≤ m.durable = elim (cases_lt m.durable (last_number m)) [ inl some ↦ absurd (none some) | inr all ↦ all ] in
        let is : n ≡ last_number m = omega (arith, low, high, all) in
        let whole : take (last_number m - m.before) m.accepted ≡ m.accepted = take_all (last_number m - m.before) m.accepted (omega arith) in
        subst (λ (l : List Element). Recover store (length m.opened) files (last_number m) (after_elements m.opened l)) whole
        (subst (λ k. Recover store (length m.opened) files k (trees_after m k)) is found)
