-- The changes that an engine retains.
use Rattle.std.proofs.Common.{◌≡◌, ◌⊎◌, inl, inr, ℕ, ◌+◌, ◌-◌, ◌≤◌, max, List, [], ◌++◌, length, get_or, take, drop, refl, sym, ◌∙◌, ap, subst, arith, Some, Result, Ok, Err, slice_get}
use Rattle.std.specs.Prelude.{slice_set, OnOk, OnErr}
use Rattle.std.specs.List.{filter}
use Rattle.std.proofs.lemmas.List.{get_or_past, length-map}
use Rattle.std.proofs.lemmas.Option.{slice_get_cases, slice_get_within, slice_get-get_or}
use Rattle.reg_tree.specs.declared.element.Element.{Element}
use Rattle.crash_model.specs.Changes as law
use Rattle.crash_model.specs.Changes.{ops_on}
use Rattle.crash_model.specs.Life.{ops_in, known_elements}
use Rattle.crash_model.proofs.Lists.{first_nil, le_or_le, seg_none}
use Rattle.crash_model.proofs.OnePrefix.{ops_split}
use Rattle.crash_model.proofs.ClausesSuffice.{last_naming}
use Rattle.reg_tree.specs.Maps.{TreeMap}
use Rattle.store_model.specs.Machine.{Machine, last_number}
use Rattle.store_model.specs.Invariant.{JournalStateStays, AcceptsOneChange}
use Rattle.transactions.specs.Stores.{StoreView}
use Rattle.change_codec.specs.ModelChanges.{TimedOp, timed_elements}
use Rattle.hive_flush.specs.HiveStates.{file_choice, memory_of}
use Rattle.hive_flush.specs.declared.hive.HiveFile.{HiveFile}
use Rattle.engine_invariant.specs.States.{life_of}
use Rattle.engine_invariant.specs.Answers.{after_flush, refused_by}
use Rattle.disk_model.specs.declared.progress.Progress.{Progress}
use Rattle.refusals.specs.declared.refusal.Refusal.{Refusal}
use Rattle.refusals.specs.declared.refusal.Refusal.TheVariants.{DiskFault}
use Rattle.commit_journal.specs.Numbered.{NumberedChange, numbered}
use Rattle.recovery.specs.Invariant as opening
use Rattle.recovery.specs.Invariant.{own_numbers}
use Rattle.recovery.specs.Retained.{AreAscending, above_number, is_lacked}
use Rattle.recovery.proofs.NumberedChanges.{above_above, above_all, above_ascend, kept_ascend, own_number}
use Rattle.engine.proofs.Sound.{flush_before, refused_accepted}
use Rattle.engine_invariant.proofs.HiveLists.{each_hive}
use Rattle.engine.specs.RetainedChanges.{RetainsWhatHivesLack, HaveUpTo}
use Rattle.engine.specs.LastChangePerHive.{AreLastNaming}
use Rattle.engine.proofs.Namings.{known_stays}

-- no hive's own number is above one that no hive's number is above
own_below : (hives : List HiveFile) (most i : ℕ) → ((hive : HiveFile) → slice_get hives i ≡ Some hive → (file_choice hive).now.1 ≤ most) → get_or (own_numbers hives) i 0 ≤ most
own_below hives most i below = elim ((slice_get_cases hives i).1) [
  | inl there ↦ omega (arith, own_number hives i there.0 there.2, below there.0 there.2)
  | inr past ↦ omega (arith, get_or_past (own_numbers hives) i 0 (omega (arith, past.0, length-map hives (λ (hive : HiveFile). (file_choice hive).now.1))))
]

-- an opening: the changes that it kept are retained
pub hand_opens : (store : StoreView) (base : ℕ) (decoded : List Element) (kept : List NumberedChange) (hives : List HiveFile) → store.machine.before ≡ base + length decoded → store.machine.durable ≡ store.machine.before → store.retained ≡ store.machine.before
    → opening.RetainsWhatHivesLack base decoded kept hives → ((i : ℕ) (hive : HiveFile) → slice_get hives i ≡ Some hive → ((file_choice hive).now.1 ≡ (memory_of hive).1) × ((file_choice hive).now.1 ≤ store.machine.before)) → RetainsWhatHivesLack store base decoded kept hives
hand_opens store base decoded kept hives begun durable hand found rest = record {
  gone = base;
  own = own_numbers hives;
  high = omega (arith, begun, durable);
  opened_are = found ∙ sym (above_all (is_lacked (own_numbers hives)) base base decoded (omega arith));
  accepted_are = omega (arith, hand, begun);
  early = λ i. own_below hives store.machine.before i (λ hive is. (rest i hive is).1);
  since = λ i hive is. omega (arith, own_number hives i hive is, (rest i hive is).0);
  lacked = λ i hive is. ap (ops_on i) (seg_none (known_elements (life_of store.machine base decoded)) ((memory_of hive).1 - base) (base - base) (omega arith));
}

-- if what is known stays, so does what is retained
pub hand_stays : (s t : StoreView) (base : ℕ) (decoded : List Element) (opened : List NumberedChange) (hives : List HiveFile) → t.machine.before ≡ s.machine.before → s.machine.durable ≤ t.machine.durable → t.retained ≡ s.retained
    → ((hi : ℕ) → hi ≤ s.machine.durable → take (hi - base) (known_elements (life_of t.machine base decoded)) ≡ take (hi - base) (known_elements (life_of s.machine base decoded))) → RetainsWhatHivesLack s base decoded opened hives → RetainsWhatHivesLack t base decoded opened hives
hand_stays s t base decoded opened hives before up hand same a = record {
  gone = a.gone;
  own = a.own;
  high = omega (arith, a.high, up);
  opened_are = a.opened_are;
  accepted_are = omega (arith, a.accepted_are, hand, before);
  early = λ i. omega (arith, a.early i, before);
  since = a.since;
  lacked = λ i hive is. ap (λ (es : List (law.Element TimedOp)). ops_on i (drop ((memory_of hive).1 - base) es)) (same a.gone a.high) ∙ a.lacked i hive is;
}

-- an event that makes no step, and a step of the journal or of a trim
pub retained_at_non_step : (s t : StoreView) (base : ℕ) (decoded : List Element) (opened : List NumberedChange) (hives : List HiveFile) → s.machine.before ≡ base + length decoded → s.machine.durable ≤ last_number s.machine → JournalStateStays s.machine t.machine ⊎ AcceptsOneChange s.machine t.machine → t.retained ≡ s.retained
    → RetainsWhatHivesLack s base decoded opened hives → RetainsWhatHivesLack t base decoded opened hives
retained_at_non_step s t base decoded opened hives begun there how hand a = hand_stays s t base decoded opened hives (before how) (durable how) hand (λ hi le. known_stays s.machine t.machine base decoded hi begun (omega (arith, le, there)) how) a
  where
    before : JournalStateStays s.machine t.machine ⊎ AcceptsOneChange s.machine t.machine → t.machine.before ≡ s.machine.before
    before (inl x) = x.before
    before (inr x) = x.before

    durable : JournalStateStays s.machine t.machine ⊎ AcceptsOneChange s.machine t.machine → s.machine.durable ≤ t.machine.durable
    durable (inl x) = omega (arith, x.durable)
    durable (inr x) = omega (arith, x.durable)

pub hand_steps : (s t : StoreView) (base : ℕ) (decoded : List Element) (opened : List NumberedChange) (hives : List HiveFile) → t.machine.before ≡ s.machine.before → t.machine.accepted ≡ s.machine.accepted → s.machine.durable ≤ t.machine.durable → t.retained ≡ s.retained
    → RetainsWhatHivesLack s base decoded opened hives → RetainsWhatHivesLack t base decoded opened hives
hand_steps s t base decoded opened hives before same up hand a = hand_stays s t base decoded opened hives before up hand (λ hi le. ap (λ (l : List Element). take (hi - base) (timed_elements decoded ++ timed_elements l)) same) a

-- a hive has more in memory
pub hand_takes : (s : StoreView) (base : ℕ) (decoded : List Element) (opened : List NumberedChange) (hives : List HiveFile) (k : ℕ) (old new : HiveFile) → slice_get hives k ≡ Some old → (memory_of new ≡ memory_of old) ⊎ (((memory_of old).1 ≤ (memory_of new).1) × (s.machine.durable ≤ (memory_of new).1))
    → RetainsWhatHivesLack s base decoded opened hives → RetainsWhatHivesLack s base decoded opened (slice_set hives k new)
hand_takes s base decoded opened hives k old new is more a = record {
  gone = a.gone;
  own = a.own;
  high = a.high;
  opened_are = a.opened_are;
  accepted_are = a.accepted_are;
  early = a.early;
  since = each_hive hives k old new is (λ i hive. get_or a.own i 0 ≤ (memory_of hive).1) (omega (arith, a.since k old is, risen more)) (λ j h ne at. a.since j h at);
  lacked = each_hive hives k old new is (λ i hive. ops_in (life_of s.machine base decoded) i (memory_of hive).1 a.gone ≡ []) (kept more) (λ j h ne at. a.lacked j h at);
}
  where
    risen : (memory_of new ≡ memory_of old) ⊎ (((memory_of old).1 ≤ (memory_of new).1) × (s.machine.durable ≤ (memory_of new).1)) → (memory_of old).1 ≤ (memory_of new).1
    risen (inl same) = omega (arith, ap (λ (x : TreeMap × ℕ). x.1) same)
    risen (inr above) = above.0

    kept : (memory_of new ≡ memory_of old) ⊎ (((memory_of old).1 ≤ (memory_of new).1) × (s.machine.durable ≤ (memory_of new).1)) → ops_in (life_of s.machine base decoded) k (memory_of new).1 a.gone ≡ []
    kept (inl same) = ap (λ (x : TreeMap × ℕ). ops_in (life_of s.machine base decoded) k x.1 a.gone) same ∙ a.lacked k old is
    kept (inr above) = ap (ops_on k) (seg_none (known_elements (life_of s.machine base decoded)) ((memory_of new).1 - base) (a.gone - base) (omega (arith, above.1, a.high)))

-- the numbers of the retained changes ascend
pub retained_ascend : (s : StoreView) (base : ℕ) (decoded : List Element) (opened : List NumberedChange) (hives : List HiveFile) → RetainsWhatHivesLack s base decoded opened hives → AreAscending opened
retained_ascend s base decoded opened hives a = subst AreAscending (sym a.opened_are) (above_ascend a.gone (filter (is_lacked a.own) (numbered base decoded)) (kept_ascend (is_lacked a.own) base decoded))

-- more changes are discarded, which no hive lacks
pub hand_lets_go : (s t : StoreView) (base : ℕ) (decoded : List Element) (old new : List NumberedChange) (hives : List HiveFile) (numbers : List ℕ) (number : ℕ) → t.machine ≡ s.machine → t.retained ≡ max s.retained number
    → (AreAscending old → new ≡ above_number number old) → number ≤ s.machine.durable → length numbers ≡ length hives → AreLastNaming s.machine base decoded numbers → HaveUpTo number numbers hives
    → RetainsWhatHivesLack s base decoded old hives → RetainsWhatHivesLack t base decoded new hives
hand_lets_go s t base decoded old new hives numbers number same hand is le many last_changes have a = record {
  gone = max a.gone number;
  own = a.own;
  high = omega (arith, a.high, le, ap (λ (m : Machine). m.durable) same);
  opened_are = is ascending ∙ ap (above_number number) a.opened_are ∙ above_above number a.gone (filter (is_lacked a.own) (numbered base decoded));
  accepted_are = omega (arith, hand, a.accepted_are, ap (λ (m : Machine). m.before) same);
  early = λ i. omega (arith, a.early i, ap (λ (m : Machine). m.before) same);
  since = a.since;
  lacked = λ i hive there. subst (λ (m : Machine). ops_in (life_of m base decoded) i (memory_of hive).1 (max a.gone number) ≡ []) (sym same) (none i hive there (le_or_le a.gone number));
}
  where
    ascending : AreAscending old
    ascending = retained_ascend s base decoded old hives a

    -- no hive lacks one up to the number
    held : (i : ℕ) (hive : HiveFile) → slice_get hives i ≡ Some hive → ops_in (life_of s.machine base decoded) i (memory_of hive).1 number ≡ []
    held i hive there =
        let lt = slice_get_within hives i hive there in
        let slot = slice_get-get_or numbers i 0 (omega (arith, lt, many)) in
        elim (have i (get_or numbers i 0) hive there slot) as (λ z. ops_in (life_of s.machine base decoded) i (memory_of hive).1 number ≡ []) [
          | inl last ↦ elim (le_or_le (memory_of hive).1 number) as (λ z. ops_in (life_of s.machine base decoded) i (memory_of hive).1 number ≡ []) [
            | inl up ↦ first_nil (ops_in (life_of s.machine base decoded) i (memory_of hive).1 number) (ops_in (life_of s.machine base decoded) i number s.machine.durable) (sym (ops_split (life_of s.machine base decoded) i (memory_of hive).1 number s.machine.durable up le)
                ∙ (last_naming (life_of s.machine base decoded) i s.machine.durable (get_or numbers i 0) (last_changes i (get_or numbers i 0) slot) (memory_of hive).1).1 last)
            | inr past ↦ ap (ops_on i) (seg_none (known_elements (life_of s.machine base decoded)) ((memory_of hive).1 - base) (number - base) (omega (arith, past)))
          ]
          | inr past ↦ ap (ops_on i) (seg_none (known_elements (life_of s.machine base decoded)) ((memory_of hive).1 - base) (number - base) (omega (arith, past)))
        ]

    none : (i : ℕ) (hive : HiveFile) → slice_get hives i ≡ Some hive → (a.gone ≤ number) ⊎ (number ≤ a.gone) → ops_in (life_of s.machine base decoded) i (memory_of hive).1 (max a.gone number) ≡ []
    none i hive there (inl up) = (let e : max a.gone number ≡ number = omega (arith, up) in ap (λ n. ops_in (life_of s.machine base decoded) i (memory_of hive).1 n) e) ∙ held i hive there
    none i hive there (inr low) = (let e : max a.gone number ≡ a.gone = omega (arith, low) in ap (λ n. ops_in (life_of s.machine base decoded) i (memory_of hive).1 n) e) ∙ a.lacked i hive there

-- a step of a flush
pub hand_flushes : (s t : StoreView) (base : ℕ) (decoded : List Element) (opened : List NumberedChange) (hives : List HiveFile) (k : ℕ) (old new : HiveFile) (come : Result Progress Refusal) → slice_get hives k ≡ Some old → memory_of new ≡ memory_of old → t.machine ≡ after_flush s.machine come → t.retained ≡ s.retained
    → RetainsWhatHivesLack s base decoded opened hives → RetainsWhatHivesLack t base decoded opened (slice_set hives k new)
hand_flushes s t base decoded opened hives k old new come is same told hand a =
    hand_steps s t base decoded opened (slice_set hives k new) (ap (λ (m : Machine). m.before) told ∙ flush_before s.machine come) (ap (λ (m : Machine). m.accepted) told ∙ flush_accepted s.machine come)
    (omega (arith, ap (λ (m : Machine). m.durable) told, flush_durable s.machine come)) hand (hand_takes s base decoded opened hives k old new is (inl same) a)
  where
    refused_durable : (m : Machine) (why : Refusal) → (refused_by m why).durable ≡ m.durable
    refused_durable m DiskFault = refl
    refused_durable m _ = refl

    flush_durable : (m : Machine) (r : Result Progress Refusal) → (after_flush m r).durable ≡ m.durable
    flush_durable m (Ok progress) = refl
    flush_durable m (Err why) = refused_durable m why

    flush_accepted : (m : Machine) (r : Result Progress Refusal) → (after_flush m r).accepted ≡ m.accepted
    flush_accepted m (Ok progress) = refl
    flush_accepted m (Err why) = refused_accepted m why

-- what a hive has in memory once it has absorbed something, or nothing
pub taken_memory : (r : Result (Unit {0}) Refusal) (m : Machine) (old new : HiveFile) (durable : ℕ) (tree : TreeMap) → (memory_of old).1 ≤ m.durable → durable ≡ m.durable → OnOk r (memory_of new ≡ (tree, durable)) → OnErr r (new ≡ old)
    → (memory_of new ≡ memory_of old) ⊎ (((memory_of old).1 ≤ (memory_of new).1) × (m.durable ≤ (memory_of new).1))
taken_memory (Ok u) m old new durable tree le d ok err = inr (omega (arith, le, d, ap (λ (x : TreeMap × ℕ). x.1) ok), omega (arith, d, ap (λ (x : TreeMap × ℕ). x.1) ok))
taken_memory (Err why) m old new durable tree le d ok err = inl (ap (λ (h : HiveFile). memory_of h) err)
