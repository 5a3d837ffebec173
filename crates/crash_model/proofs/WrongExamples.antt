-- The examples on which the wrong protocols break: two hives, three changes.
use Rattle.std.proofs.Common.{◌≡◌, ◌⊎◌, inl, inr, ℕ, zero, suc, ◌-◌, ◌<◌, ◌≤◌, List, [], ◌∷◌, length, refl, ◌∙◌, ap, sym, arith, Some}
use Rattle.std.proofs.lemmas.Option.{same_Some}
use Rattle.std.specs.List.{AllByRecursion}
use Rattle.crash_model.specs.Changes.{Element, on_hive, ops_on, replay, applied}
use Rattle.crash_model.specs.Promises.{Choice, under_way, Leaves, Content, nothing, settled}
use Rattle.crash_model.specs.Recovery.{above, IsLastNumber}
use Rattle.crash_model.specs.Life.{Life, last_number, tree_at, with_accepted, NamesHive}
use Rattle.crash_model.specs.Invariant.{State, InvariantHolds, IsPrefix, opened_state}
use Rattle.crash_model.specs.WrongProtocols.{marks, Breaks, FlushesPending, FlushesUnderLess, TrimsAfterOne, TrimsByFirst, TrimsByMemory, BatchesSkipping, CountsEarly, EmptyBreaks, ReplayingAllBreaks}
use Rattle.crash_model.proofs.Lists.{take_nil}
use Rattle.crash_model.proofs.KeepSteps.{step_keeps, begun, fresh}

-- on marks all operations are legal
all_legal : (os t : List ℕ) → replay marks os t ≡ Some (applied marks os t)
all_legal [] t = refl
all_legal (o ∷ os) t = all_legal os (o ∷ t)

-- of two hives
abbrev pair : {X : Type 0} → X → X → ℕ → X
pair a b zero = a
pair a b (suc i) = b

each_of_two : (P : ℕ → Type 0) → P 0 → P 1 → (i : ℕ) → i < 2 → P i
each_of_two P a b zero lt = a
each_of_two P a b (suc zero) lt = b
each_of_two P a b (suc (suc i)) lt = absurd (omega (arith, lt))

-- the second hive's files alone have changed
only_second : {X : Type 0} (old new : ℕ → X) → new 0 ≡ old 0 → (j : ℕ) → j < 2 → (j ≡ 1) ⊎ (new j ≡ old j)
only_second old new same = each_of_two (λ j. (j ≡ 1) ⊎ (new j ≡ old j)) (inr same) (inl refl)

only_first : {X : Type 0} (old new : ℕ → X) → new 1 ≡ old 1 → (j : ℕ) → j < 2 → (j ≡ 0) ⊎ (new j ≡ old j)
only_first old new same = each_of_two (λ j. (j ≡ 0) ⊎ (new j ≡ old j)) (inl refl) (inr same)

-- a change of one mark on one hive
abbrev change : ℕ → ℕ → Element ℕ
change i m = (i, m) ∷ []

-- the three changes: marks 1 and 3 on the first hive, mark 2 on the second
abbrev three : List (Element ℕ)
three = change 0 1 ∷ change 1 2 ∷ change 0 3 ∷ []

-- the three changes: mark 1 on the first hive, marks 2 and 3 on the second
abbrev late_three : List (Element ℕ)
late_three = change 0 1 ∷ change 1 2 ∷ change 1 3 ∷ []

names_first : (m : ℕ) → NamesHive 2 (change 0 m)
names_first m = (0, omega arith, m, [], refl)

names_second : (m : ℕ) → NamesHive 2 (change 1 m)
names_second m = (1, omega arith, m, [], refl)

-- one more accepted change
abbrev with_change : State (List ℕ) ℕ → Element ℕ → State (List ℕ) ℕ
with_change s e = record { life = with_accepted s.life e; durable = s.durable; journal = s.journal; files = s.files }

with_change_kept : (s : State (List ℕ) ℕ) (e : Element ℕ) → last_number s.life < 3 → NamesHive 2 e → InvariantHolds marks 3 2 s
    → InvariantHolds marks 3 2 (with_change s e)
with_change_kept s e room names kept = step_keeps marks 3 2 s (with_change s e) kept (inl (record {
  element = e;
  room = room;
  names = names;
  legal = λ i lt. all_legal (on_hive i e) (tree_at marks s.life (last_number s.life) i);
  allowed = λ i lt. refl;
  life = refl;
  durable = refl;
  journal = refl;
  files = λ j lt. refl;
}))

-- a created store of two hives
abbrev created : State (List ℕ) ℕ
created = opened_state 0 (λ i. []) nothing (λ i. ([], 0))

-- the three changes are accepted, and nothing is durable
abbrev accepted_three : State (List ℕ) ℕ
accepted_three = with_change (with_change (with_change created (change 0 1)) (change 1 2)) (change 0 3)

accepted_three_kept : InvariantHolds marks 3 2 accepted_three
accepted_three_kept =
    with_change_kept (with_change (with_change created (change 0 1)) (change 1 2)) (change 0 3) (omega arith) (names_first 3)
    (with_change_kept (with_change created (change 0 1)) (change 1 2) (omega arith) (names_second 2)
    (with_change_kept created (change 0 1) (omega arith) (names_first 1) (fresh marks 3 2 (omega arith) (λ i. []) (λ i lt. refl))))

-- a store that was opened at n, if the journal decodes to these elements and the hives have these trees and numbers
abbrev opened_with : ℕ → List (Element ℕ) → (ℕ → List ℕ × ℕ) → State (List ℕ) ℕ
opened_with n es held = opened_state n (λ i. applied marks (ops_on i (above (held i).1 (record { below = 0; elements = es }))) (held i).0) (record { below = 0; elements = es }) held

opened_kept : (n : ℕ) (es : List (Element ℕ)) (held : ℕ → List ℕ × ℕ) → IsLastNumber 2 (λ i. (held i).1) 0 es n → n ≤ 3
    → ((i : ℕ) → i < 2 → (held i).1 ≤ n) → AllByRecursion (NamesHive 2) es → InvariantHolds marks 3 2 (opened_with n es held)
opened_kept n es held last limit low named = begun marks 3 2 (record { below = 0; elements = es }) held n (λ i. applied marks (ops_on i (above (held i).1 (record { below = 0; elements = es }))) (held i).0) (record {
  last = last;
  limit = limit;
  not_above = low;
  tree = λ i lt. all_legal (ops_on i (above (held i).1 (record { below = 0; elements = es }))) (held i).0;
  allowed = λ i lt. refl;
}) named

three_kept : (held : ℕ → List ℕ × ℕ) → (held 0).1 ≤ 3 → (held 1).1 ≤ 3 → InvariantHolds marks 3 2 (opened_with 3 three held)
three_kept held a b = opened_kept 3 three held refl (omega arith) (each_of_two (λ i. (held i).1 ≤ 3) a b) (names_first 1, (names_second 2, (names_first 3, tt)))

late_three_kept : (held : ℕ → List ℕ × ℕ) → (held 0).1 ≤ 3 → (held 1).1 ≤ 3 → InvariantHolds marks 3 2 (opened_with 3 late_three held)
late_three_kept held a b = opened_kept 3 late_three held refl (omega arith) (each_of_two (λ i. (held i).1 ≤ 3) a b) (names_first 1, (names_second 2, (names_second 3, tt)))

-- a prefix has trees of the right length
same_length : (life : Life (List ℕ) ℕ) (durable : ℕ) (s : Content ℕ) (held : ℕ → List ℕ × ℕ) (p : IsPrefix marks 3 2 life durable s held) (m i : ℕ)
    → i < 2 → p.0 ≡ m
    → length (applied marks (ops_on i (above (held i).1 s)) (held i).0) ≡ length (tree_at marks life m i)
same_length life durable s held p m i lt same = ap length (same_Some _ _ (sym (all_legal (ops_on i (above (held i).1 s)) (held i).0) ∙ p.3.tree i lt ∙ ap (λ n. Some (tree_at marks life n i)) same))

-- the same store with another choice of the journal, or of the hives
abbrev with_journal : State (List ℕ) ℕ → Choice (Content ℕ) → State (List ℕ) ℕ
with_journal s journal = record { life = s.life; durable = s.durable; journal = journal; files = s.files }

abbrev with_files : State (List ℕ) ℕ → (ℕ → Choice (List ℕ × ℕ)) → State (List ℕ) ℕ
with_files s files = record { life = s.life; durable = s.durable; journal = s.journal; files = files }

-- what each of two hives may leave
two_left : (files : ℕ → Choice (List ℕ × ℕ)) (held : ℕ → List ℕ × ℕ) → Leaves (files 0) (held 0) → Leaves (files 1) (held 1) → (i : ℕ) → i < 2
    → Leaves (files i) (held i)
two_left files held = each_of_two (λ i. Leaves (files i) (held i))

-- no number of a hive is the last one's, if both are lower
too_low : (held : ℕ → List ℕ × ℕ) (n : ℕ) → (held 0).1 < n → (held 1).1 < n → (l : (i : ℕ) × (i < 2) × ((held i).1 ≡ n)) → ⊥
too_low held n a b l = let lt = each_of_two (λ i. (held i).1 < n) a b l.0 l.1 in omega (arith, lt, l.2)

-- The second hive flushes change 2, which is not durable, under number 3. A crash leaves the flush and no journal:
-- change 1 is nowhere.
abbrev flushing_pending : State (List ℕ) ℕ
flushing_pending = with_files accepted_three (pair (settled ([], 0)) (under_way ([], 0) (2 ∷ [], 3)))

pub flushes_pending : Breaks (FlushesPending marks 2)
flushes_pending = (
  accepted_three,
  flushing_pending,
  accepted_three_kept,
  (1, (refl, refl, refl, only_second accepted_three.files flushing_pending.files refl), (2 ∷ [], refl, refl, refl)),
  λ safe. broken (safe nothing (inl refl) (pair ([], 0) (2 ∷ [], 3)) (two_left flushing_pending.files (pair ([], 0) (2 ∷ [], 3)) (inl refl) (inr refl))),
)
  where
    broken : IsPrefix marks 3 2 flushing_pending.life 0 nothing (pair ([], 0) (2 ∷ [], 3)) → ⊥
    broken p = let e : 0 ≡ 2 = same_length flushing_pending.life 0 nothing (pair ([], 0) (2 ∷ [], 3)) p 3 0 (omega arith) (omega (arith, p.2, p.3.not_above 1 (omega arith))) in omega (arith, e)

-- The first hive flushes changes 1 and 3 under number 1. A crash leaves the flush and the journal: change 3 is replayed
-- twice.
abbrev flushing_under_less : State (List ℕ) ℕ
flushing_under_less = with_files (opened_with 3 three (λ i. ([], 0))) (pair (under_way ([], 0) (3 ∷ 1 ∷ [], 1)) (settled ([], 0)))

pub flushes_under_less : Breaks (FlushesUnderLess marks 2)
flushes_under_less = (
  opened_with 3 three (λ i. ([], 0)),
  flushing_under_less,
  three_kept (λ i. ([], 0)) (omega arith) (omega arith),
  (0, 1, omega arith, (refl, refl, refl, only_first (opened_with 3 three (λ i. ([], 0))).files flushing_under_less.files refl), (3 ∷ 1 ∷ [], refl, refl, refl)),
  λ safe. broken (safe (record { below = 0; elements = three }) (inl refl) (pair (3 ∷ 1 ∷ [], 1) ([], 0)) (two_left flushing_under_less.files (pair (3 ∷ 1 ∷ [], 1) ([], 0)) (inr refl) (inl refl))),
)
  where
    broken : IsPrefix marks 3 2 flushing_under_less.life 3 (record { below = 0; elements = three }) (pair (3 ∷ 1 ∷ [], 1) ([], 0)) → ⊥
    broken p = let e : 3 ≡ 2 = same_length flushing_under_less.life 3 (record { below = 0; elements = three }) (pair (3 ∷ 1 ∷ [], 1) ([], 0)) p 3 0 (omega arith) (omega (arith, p.1, p.2)) in omega (arith, e)

-- The first hive has its changes, the second lacks change 2, and the trim begins. A crash leaves no journal: change 2
-- is nowhere.
abbrev after_one : State (List ℕ) ℕ
after_one = opened_with 3 three (pair (3 ∷ 1 ∷ [], 3) ([], 0))

pub trims_after_one : Breaks (TrimsAfterOne 2)
trims_after_one = (
  after_one,
  with_journal after_one (under_way after_one.journal.now nothing),
  three_kept (pair (3 ∷ 1 ∷ [], 3) ([], 0)) (omega arith) (omega arith),
  ((refl, λ j lt. refl), refl, (refl, refl), (0, omega arith, refl)),
  λ safe. broken (safe nothing (inr refl) (pair (3 ∷ 1 ∷ [], 3) ([], 0)) (two_left after_one.files (pair (3 ∷ 1 ∷ [], 3) ([], 0)) (inl refl) (inl refl))),
)
  where
    broken : IsPrefix marks 3 2 after_one.life 3 nothing (pair (3 ∷ 1 ∷ [], 3) ([], 0)) → ⊥
    broken p = let e : 0 ≡ 1 = same_length after_one.life 3 nothing (pair (3 ∷ 1 ∷ [], 3) ([], 0)) p 3 1 (omega arith) (omega (arith, p.1, p.2)) in omega (arith, e)

-- The first hive has change 1, the only one that names it, the second lacks changes 2 and 3, and the trim begins. A
-- crash leaves no journal: the greatest number is 1, and 3 was durable.
abbrev by_first : State (List ℕ) ℕ
by_first = opened_with 3 late_three (pair (1 ∷ [], 1) ([], 0))

pub trims_by_first : Breaks (TrimsByFirst 2)
trims_by_first = (
  by_first,
  with_journal by_first (under_way by_first.journal.now nothing),
  late_three_kept (pair (1 ∷ [], 1) ([], 0)) (omega arith) (omega arith),
  ((refl, λ j lt. refl), refl, (refl, refl), (change 0 1, change 1 2 ∷ change 1 3 ∷ [], refl, may)),
  λ safe. broken (safe nothing (inr refl) (pair (1 ∷ [], 1) ([], 0)) (two_left by_first.files (pair (1 ∷ [], 1) ([], 0)) (inl refl) (inl refl))),
)
  where
    may : (i : ℕ) → i < 2 → (o : ℕ) (os : List ℕ) → on_hive i (change 0 1) ≡ o ∷ os
        → ops_on i (above (by_first.files i).now.1 by_first.journal.now) ≡ []
    may = each_of_two (λ i. (o : ℕ) (os : List ℕ) → on_hive i (change 0 1) ≡ o ∷ os → ops_on i (above (by_first.files i).now.1 by_first.journal.now) ≡ []) (λ o os h. refl) (λ o os h. absurd (omega (arith, ap length h)))

    broken : IsPrefix marks 3 2 by_first.life 3 nothing (pair (1 ∷ [], 1) ([], 0)) → ⊥
    broken p = too_low (pair (1 ∷ [], 1) ([], 0)) p.0 (omega (arith, p.1)) (omega (arith, p.1)) p.3.last

-- The first hive has change 1, the second's flush of changes 2 and 3 is under way, and the trim begins. A crash leaves
-- neither the flush nor the journal: changes 2 and 3 are nowhere.
abbrev before_flush : State (List ℕ) ℕ
before_flush = opened_with 3 late_three (pair (1 ∷ [], 3) ([], 0))

abbrev by_memory : State (List ℕ) ℕ
by_memory = with_files before_flush (pair (settled (1 ∷ [], 3)) (under_way ([], 0) (3 ∷ 2 ∷ [], 3)))

by_memory_kept : InvariantHolds marks 3 2 by_memory
by_memory_kept = step_keeps marks 3 2 before_flush by_memory (late_three_kept (pair (1 ∷ [], 3) ([], 0)) (omega arith) (omega arith)) (inr (inr (inr (inr (inl (record {
  hive = 1;
  life = refl;
  durable = refl;
  journal = refl;
  file = (3 ∷ 2 ∷ [], refl, refl, refl);
  files = only_second before_flush.files by_memory.files refl;
}))))))

pub trims_by_memory : Breaks (TrimsByMemory 2)
trims_by_memory = (
  by_memory,
  with_journal by_memory (under_way by_memory.journal.now nothing),
  by_memory_kept,
  ((refl, λ j lt. refl), refl, (refl, refl), may),
  λ safe. broken (safe nothing (inr refl) (pair (1 ∷ [], 3) ([], 0)) (two_left by_memory.files (pair (1 ∷ [], 3) ([], 0)) (inl refl) (inl refl))),
)
  where
    may : (i : ℕ) → i < 2 → (x : List ℕ × ℕ) × Leaves (by_memory.files i) x × (ops_on i (above x.1 by_memory.journal.now) ≡ [])
    may = each_of_two (λ i. (x : List ℕ × ℕ) × Leaves (by_memory.files i) x × (ops_on i (above x.1 by_memory.journal.now) ≡ [])) ((1 ∷ [], 3), inl refl, refl) ((3 ∷ 2 ∷ [], 3), inr refl, refl)

    broken : IsPrefix marks 3 2 by_memory.life 3 nothing (pair (1 ∷ [], 3) ([], 0)) → ⊥
    broken p = let e : 0 ≡ 2 = same_length by_memory.life 3 nothing (pair (1 ∷ [], 3) ([], 0)) p 3 1 (omega arith) (omega (arith, p.1, p.2)) in omega (arith, e)

-- A batch of changes 2 and 3 begins, and change 1 is pending. A crash leaves the batch: the number is 3, and change 1
-- is nowhere.
abbrev skipping : Content ℕ
skipping = record { below = 1; elements = change 1 2 ∷ change 0 3 ∷ [] }

pub batches_skipping : Breaks (BatchesSkipping 2)
batches_skipping = (
  accepted_three,
  with_journal accepted_three (under_way nothing skipping),
  accepted_three_kept,
  ((refl, λ j lt. refl), refl, (2, omega arith, omega arith, refl, refl)),
  λ safe. broken (safe skipping (inr refl) (λ i. ([], 0)) (λ i lt. inl refl)),
)
  where
    broken : IsPrefix marks 3 2 accepted_three.life 0 skipping (λ i. ([], 0)) → ⊥
    broken p = let e : 1 ≡ 2 = same_length accepted_three.life 0 skipping (λ i. ([], 0)) p 3 0 (omega arith) p.3.last in omega (arith, e)

-- A batch of the three changes begins, and they count as durable. A crash leaves no journal: the number is 0.
abbrev counting_early : State (List ℕ) ℕ
counting_early = record { life = accepted_three.life; durable = 3; journal = under_way nothing (record { below = 0; elements = three }); files = accepted_three.files }

pub counts_early : Breaks (CountsEarly 2)
counts_early = (
  accepted_three,
  counting_early,
  accepted_three_kept,
  ((refl, λ j lt. refl), (3, omega arith, omega arith, refl, refl), (record { below = 0; elements = three }, refl, refl)),
  λ safe. broken (safe nothing (inl refl) (λ i. ([], 0)) (λ i lt. inl refl)),
)
  where
    broken : IsPrefix marks 3 2 counting_early.life 3 nothing (λ i. ([], 0)) → ⊥
    broken p = too_low (λ i. ([], 0)) p.0 (omega (arith, p.1)) (omega (arith, p.1)) p.3.last

-- Both hives have changes 1 and 2. The empty change 3 becomes durable, and each hive has all that names it, so a trim
-- begins. A crash leaves no journal: the greatest number is 2, and 3 was durable.
abbrev two_flushed : State (List ℕ) ℕ
two_flushed = opened_with 2 (change 0 1 ∷ change 1 2 ∷ []) (λ i. (pair (1 ∷ []) (2 ∷ []) i, 2))

abbrev three_decoded : Content ℕ
three_decoded = record { below = 0; elements = change 0 1 ∷ change 1 2 ∷ [] ∷ [] }

abbrev empty_accepted : State (List ℕ) ℕ
empty_accepted = with_change two_flushed []

abbrev empty_on_its_way : State (List ℕ) ℕ
empty_on_its_way = with_journal empty_accepted (under_way two_flushed.journal.now three_decoded)

abbrev empty_durable : State (List ℕ) ℕ
empty_durable = record { life = empty_accepted.life; durable = 3; journal = settled three_decoded; files = two_flushed.files }

abbrev empty_trimmed : State (List ℕ) ℕ
empty_trimmed = with_journal empty_durable (under_way three_decoded nothing)

pub empty_breaks : EmptyBreaks
empty_breaks = (
  two_flushed,
  empty_accepted,
  empty_trimmed,
  empty_on_its_way ∷ empty_durable ∷ [],
  opened_kept 2 (change 0 1 ∷ change 1 2 ∷ []) (λ i. (pair (1 ∷ []) (2 ∷ []) i, 2)) refl (omega arith) (λ i lt. omega arith) (names_first 1, (names_second 2, tt)),
  (omega arith, refl, refl, refl, λ j lt. refl),
  (
    inl (inl (inr (inl (record { life = refl; durable = refl; journal = (1, omega arith, omega arith, refl, refl); files = λ j lt. refl })))),
    (
      inl (inl (inr (inr (inl (record { life = refl; journal = (three_decoded, refl, refl); durable = refl; files = λ j lt. refl }))))),
      (inl (inl (inr (inr (inr (inl (record { decodes = (change 0 1, change 1 2 ∷ [] ∷ [], refl); may = λ i lt. refl; life = refl; durable = refl; journal = (refl, refl); files = λ j lt. refl })))))), tt),
    ),
  ),
  λ safe. broken (safe nothing (inr refl) (λ i. (pair (1 ∷ []) (2 ∷ []) i, 2)) (λ i lt. inl refl)),
)
  where
    broken : IsPrefix marks 3 2 empty_trimmed.life 3 nothing (λ i. (pair (1 ∷ []) (2 ∷ []) i, 2)) → ⊥
    broken p = too_low (λ i. (pair (1 ∷ []) (2 ∷ []) i, 2)) p.0 (omega (arith, p.1)) (omega (arith, p.1)) p.3.last

-- The first hive has change 1 under number 1, and replaying all puts mark 1 into it once more.
pub replaying_all_breaks : ReplayingAllBreaks
replaying_all_breaks = (
  opened_with 3 three (pair (1 ∷ [], 1) ([], 0)),
  three_kept (pair (1 ∷ [], 1) ([], 0)) (omega arith) (omega arith),
  λ n trees replayed same.
      let more : 3 ≡ length (trees 0) = ap length (same_Some _ _ (replayed 0 (omega arith))) in
      let less : length (trees 0) ≡ 2 = ap length (same 0 (omega arith)) ∙ ap (λ (es : List (Element ℕ)). length (applied marks (ops_on 0 es) (3 ∷ 1 ∷ []))) (take_nil {A = Element ℕ} (n - 3)) in
      omega (arith, more, less),
)
