-- What the changes of a journal, replayed as they are scanned, make of a store's hives.
use Rattle.std.proofs.Common.{◌≡◌, ◌⊎◌, inl, inr, ℕ, zero, suc, ◌+◌, ◌-◌, ◌<◌, ◌≤◌, Bool, true, false, cond, List, [], ◌∷◌, ◌++◌, length, map, drop, replicate, get_or, refl, sym, ◌∙◌, ap, subst, arith, Option, Some, None, slice_get}
use Rattle.std.specs.Prelude.{nat_lt}
use Rattle.std.specs.List.{filter}
use Rattle.std.proofs.lemmas.Bool.{cases_lt, lt-ltb, le-ltb}
use Rattle.std.proofs.lemmas.List.{length-map, map-append}
use Rattle.std.proofs.lemmas.List.Elements.{filter-append}
use Rattle.std.proofs.lemmas.Option.{none-some, same_Some, slice_get_within}
use Rattle.refusals.specs.declared.refusal.Refusal.{Refusal}
use Rattle.refusals.specs.declared.refusal.Refusal.TheVariants as refusal
use Rattle.reg_tree.specs.Maps.{TreeMap}
use Rattle.reg_tree.specs.Sequences.{AreTrees}
use Rattle.reg_tree.specs.declared.element.Element.{Element}
use Rattle.crash_model.specs.Changes as law
use Rattle.crash_model.specs.Changes.{ops_on, replay}
use Rattle.crash_model.specs.Promises.{Choice, Content, floor, settled, top}
use Rattle.crash_model.specs.Recovery.{above}
use Rattle.crash_model.proofs.Lists.{drop_nil}
use Rattle.crash_model.proofs.Replays.{ops_on-append, replay_on}
use Rattle.disk_model.specs.StoreFiles.{primary_file, log_file, journal_file}
use Rattle.change_codec.specs.ModelChanges.{TimedOp, tree_rules, timed_element, timed_elements}
use Rattle.commit_journal.specs.Encoding.{decoded}
use Rattle.commit_journal.specs.LastChangePerHive.{AreLastIn}
use Rattle.commit_journal.specs.Numbered.{NumberedChange, numbered, changes_in, timed_changes}
use Rattle.commit_journal.specs.Scans.{DeniesNext, JournalBegins}
use Rattle.commit_journal.specs.Store.{Store, IsStore, all_hives, encodings}
use Rattle.commit_journal.proofs.Namings.{none_named}
use Rattle.hive_flush.specs.Decoders.{HiveFilesHold}
use Rattle.hive_flush.specs.HiveStates.{file_choice, memory_of}
use Rattle.hive_flush.specs.declared.hive.HiveFile.{HiveFile}
use Rattle.engine_invariant.proofs.HiveLists.{at_slot}
use Rattle.recovery.specs.Invariant.{RetainsWhatHivesLack, own_numbers}
use Rattle.recovery.specs.Reading.{BeginsAt, IsOnlyStore, LeadTo, replayed_on}
use Rattle.recovery.specs.Refused.{IsWrong}
use Rattle.recovery.specs.Replays.{NotReplayed, Replays, SomeIllegal, ops_lacked}
use Rattle.recovery.specs.ReplayLaws.{lacked_append}
use Rattle.recovery.specs.Retained.{above_number, is_lacked, numbered_changes}
use Rattle.recovery.specs.declared.replay.Replay.{Replay}
use Rattle.recovery.proofs.Replays.{nowhere_on}
use Rattle.recovery.proofs.Together.{spelled_as}

-- ---- numbers

-- the items with numbers above one
abbrev items_above : {A : Type 0} → ℕ → List (ℕ × A) → List A
items_above {A} k items = map (λ (c : ℕ × A). c.1) (filter (λ (c : ℕ × A). nat_lt k c.0) items)

items_numbered : {A : Type 0} (k base : ℕ) (xs : List A) → items_above k (numbered base xs) ≡ drop (k - base) xs
items_numbered {A} k base [] = sym (drop_nil {A = A} (k - base))
items_numbered {A} k base (x ∷ xs) = by_order (cases_lt k (base + 1)) (items_numbered k (base + 1) xs)
  where
    rest : List (ℕ × A)
    rest = filter (λ (c : ℕ × A). nat_lt k c.0) (numbered (base + 1) xs)

    picked : (b : Bool) → nat_lt k (base + 1) ≡ b → items_above k (numbered base (x ∷ xs)) ≡ map (λ (c : ℕ × A). c.1) (cond b ((base + 1, x) ∷ rest) rest)
    picked b e = ap (λ (d : Bool). map (λ (c : ℕ × A). c.1) (cond d ((base + 1, x) ∷ rest) rest)) e

    by_order : (k < base + 1) ⊎ (base + 1 ≤ k) → items_above k (numbered (base + 1) xs) ≡ drop (k - (base + 1)) xs → items_above k (numbered base (x ∷ xs)) ≡ drop (k - base) (x ∷ xs)
    by_order (inl lt) later =
        let all : k - (base + 1) ≡ 0 = omega (arith, lt) in
        let own : 0 ≡ k - base = omega (arith, lt) in
        picked true (lt-ltb k (base + 1) lt) ∙ ap (λ (l : List A). x ∷ l) (later ∙ ap (λ (n : ℕ). drop n xs) all) ∙ ap (λ (n : ℕ). drop n (x ∷ xs)) own
    by_order (inr ge) later =
        let next : suc (k - (base + 1)) ≡ k - base = omega (arith, ge) in
        picked false (le-ltb k (base + 1) ge) ∙ later ∙ ap (λ (n : ℕ). drop n (x ∷ xs)) next

items_timed : (k : ℕ) (changes : List NumberedChange) → items_above k (timed_changes changes) ≡ timed_elements (changes_in (above_number k changes))
items_timed k [] = refl
items_timed k (c ∷ cs) = by_test (nat_lt k c.0) (items_timed k cs)
  where
    by_test : (b : Bool) → items_above k (timed_changes cs) ≡ timed_elements (changes_in (above_number k cs))
        → map (λ (d : ℕ × law.Element TimedOp). d.1) (cond b ((c.0, timed_element c.1) ∷ filter (λ (d : ℕ × law.Element TimedOp). nat_lt k d.0) (timed_changes cs)) (filter (λ (d : ℕ × law.Element TimedOp). nat_lt k d.0) (timed_changes cs)))
        ≡ timed_elements (changes_in (cond b (c ∷ above_number k cs) (above_number k cs)))
    by_test true same = ap (λ (l : List (law.Element TimedOp)). timed_element c.1 ∷ l) same
    by_test false same = same

-- the operations that a hive lacks of all changes of a journal
ops_numbered : (i k base : ℕ) (es : List Element) → ops_lacked i k (numbered base es) ≡ ops_on i (above k (spelled_as base es))
ops_numbered i k base es =
    ap (ops_on i) (sym (items_timed k (numbered base es)) ∙ ap (items_above k) (sym (timed base es)) ∙ items_numbered k base (timed_elements es))
  where
    timed : (b : ℕ) (l : List Element) → numbered b (timed_elements l) ≡ timed_changes (numbered b l)
    timed b [] = refl
    timed b (e ∷ l) = ap (λ x. (b + 1, timed_element e) ∷ x) (timed (b + 1) l)

-- ---- hives

at_map : {A B : Type 0} (f : A → B) (xs : List A) (i : ℕ) (x : A) → slice_get xs i ≡ Some x → slice_get (map f xs) i ≡ Some (f x)
at_map f [] i x is = absurd cc
at_map f (y ∷ ys) zero x is = ap (λ z. Some (f z)) (same_Some y x is)
at_map f (y ∷ ys) (suc i) x is = at_map f ys i x is

own_number : (hives : List HiveFile) (i : ℕ) (hive : HiveFile) → slice_get hives i ≡ Some hive → get_or (own_numbers hives) i 0 ≡ (file_choice hive).now.1
own_number [] i hive is = absurd cc
own_number (h ∷ hives) zero hive is = ap (λ (x : HiveFile). (file_choice x).now.1) (same_Some h hive is)
own_number (h ∷ hives) (suc i) hive is = own_number hives i hive is

module _ (hives : List HiveFile) (rests : (i : ℕ) (hive : HiveFile) → slice_get hives i ≡ Some hive → file_choice hive ≡ settled (memory_of hive)) (begin after : Replay) (begins : BeginsAt hives begin) (taken : List NumberedChange) (took : Replays begin after taken) where
  number_is : (i : ℕ) (hive : HiveFile) → slice_get hives i ≡ Some hive → get_or begin.numbers.items i 0 ≡ (memory_of hive).1
  number_is i hive at = ap (λ (ns : List ℕ). get_or ns i 0) begins.numbers ∙ own_number hives i hive at ∙ ap (λ (c : Choice (TreeMap × ℕ)). c.now.1) (rests i hive at)

  begin_at : (i : ℕ) (hive : HiveFile) → slice_get hives i ≡ Some hive → slice_get begin.trees.items i ≡ Some (memory_of hive).0
  begin_at i hive at = ap (λ (ts : List TreeMap). slice_get ts i) begins.trees ∙ at_map (λ (h : HiveFile). (memory_of h).0) hives i hive at

  pub many : length after.trees.items ≡ length hives
  many = took.trees.many ∙ ap length begins.trees ∙ length-map hives (λ (h : HiveFile). (memory_of h).0)

  pub are : AreTrees after.trees.items
  are = took.are begins.are

  pub all_named : length after.last_changes.last.items ≡ length hives
  all_named = took.names.many ∙ ap (λ (l : List ℕ). length l) begins.names ∙ long (length hives)
    where
      long : (n : ℕ) → length {A = ℕ} (replicate n 0) ≡ n
      long zero = refl
      long (suc n) = ap (λ (m : ℕ). suc m) (long n)

  -- what was replayed on a hive
  replayed : (i : ℕ) (hive : HiveFile) (tree : TreeMap) → slice_get hives i ≡ Some hive → slice_get after.trees.items i ≡ Some tree → replay tree_rules (ops_lacked i (memory_of hive).1 taken) (memory_of hive).0 ≡ Some tree
  replayed i hive tree at is = subst (λ n. replay tree_rules (ops_lacked i n taken) (memory_of hive).0 ≡ Some tree) (number_is i hive at) (took.trees.each i (memory_of hive).0 tree (begin_at i hive at) is)

  module _ (base : ℕ) (es : List Element) (all : taken ≡ numbered base es) where
    pub lead : LeadTo (spelled_as base es) hives after.trees.items
    lead i hive tree at is =
        ap (λ (ops : List TimedOp). replay tree_rules ops (memory_of hive).0) (sym (ops_numbered i (memory_of hive).1 base es) ∙ ap (ops_lacked i (memory_of hive).1) (sym all))
        ∙ replayed i hive tree at is

    pub retained : RetainsWhatHivesLack base es (numbered_changes after.retained) hives
    retained = took.retained ∙ ap (λ (l : List NumberedChange). l ++ filter (is_lacked begin.numbers.items) taken) begins.retained
        ∙ ap (λ (ns : List ℕ). filter (is_lacked ns) taken) begins.numbers ∙ ap (filter (is_lacked (own_numbers hives))) all

    pub names : AreLastIn base (timed_elements es) after.last_changes.last.items
    names = took.names.each base [] es (all ∙ ap (λ n. numbered n es) (omega arith)) (subst (AreLastIn base []) (sym begins.names) (none_named base (length hives)))

  -- a change that isn't replayed leads nowhere from a hive's tree
  module _ (store : Store) (is : IsStore store) (all : length hives ≡ all_hives store) (files : ℕ → List ℕ) (faithful : Type 0) (only : faithful → IsOnlyStore (files journal_file) store)
      (held : faithful → (i : ℕ) (hive : HiveFile) → slice_get hives i ≡ Some hive → HiveFilesHold store.id (files (primary_file i)) (files (log_file i)) (memory_of hive)) where
    nowhere : (s : Content TimedOp) (change : NumberedChange) (more : List (ℕ × law.Element TimedOp)) → numbered s.below s.elements ≡ timed_changes (taken ++ change ∷ []) ++ more → (i : ℕ) (tree : TreeMap) → slice_get after.trees.items i ≡ Some tree
        → replay tree_rules (ops_lacked i (get_or after.numbers.items i 0) (change ∷ [])) tree ≡ None → (hive : HiveFile) → slice_get hives i ≡ Some hive → replayed_on s i (memory_of hive) ≡ None
    nowhere s change more front i tree there none hive at =
        let k = (memory_of hive).1 in
        let number : get_or after.numbers.items i 0 ≡ k = ap (λ v. get_or v.items i 0) took.numbers ∙ number_is i hive at in
        let illegal : replay tree_rules (ops_lacked i k (change ∷ [])) tree ≡ None = subst (λ n. replay tree_rules (ops_lacked i n (change ∷ [])) tree ≡ None) number none in
        let first : replay tree_rules (ops_lacked i k (taken ++ change ∷ [])) (memory_of hive).0 ≡ None
        = ap (λ (ops : List TimedOp). replay tree_rules ops (memory_of hive).0) (lacked_append i k taken (change ∷ []))
        ∙ replay_on tree_rules (ops_lacked i k taken) (ops_lacked i k (change ∷ [])) (memory_of hive).0 tree (replayed i hive tree at there) ∙ illegal in
        let parts : above k s ≡ timed_elements (changes_in (above_number k (taken ++ change ∷ []))) ++ items_above k more
        = sym (items_numbered k s.below s.elements) ∙ ap (items_above k) front
        ∙ ap (map (λ (c : ℕ × law.Element TimedOp). c.1)) (filter-append (λ (c : ℕ × law.Element TimedOp). nat_lt k c.0) (timed_changes (taken ++ change ∷ [])) more)
        ∙ map-append (λ (c : ℕ × law.Element TimedOp). c.1) (filter (λ (c : ℕ × law.Element TimedOp). nat_lt k c.0) (timed_changes (taken ++ change ∷ []))) (filter (λ (c : ℕ × law.Element TimedOp). nat_lt k c.0) more)
        ∙ ap (λ (l : List (law.Element TimedOp)). l ++ items_above k more) (items_timed k (taken ++ change ∷ [])) in
        ap (λ (l : List (law.Element TimedOp)). replay tree_rules (ops_on i l) (memory_of hive).0) parts
        ∙ ap (λ (ops : List TimedOp). replay tree_rules ops (memory_of hive).0) (ops_on-append i (timed_elements (changes_in (above_number k (taken ++ change ∷ [])))) (items_above k more))
        ∙ nowhere_on tree_rules (ops_lacked i k (taken ++ change ∷ [])) (ops_on i (items_above k more)) (memory_of hive).0 first

    wrong : (change : NumberedChange) → JournalBegins (files journal_file) (taken ++ change ∷ []) → SomeIllegal after.numbers.items after.trees.items change → faithful → IsWrong files refusal.JournalDamaged
    wrong change begin_with (i, tree, there, none) f = by_decoded (decoded (encodings store) (files journal_file)) refl
      where
        by_decoded : (o : Option (Content TimedOp)) → decoded (encodings store) (files journal_file) ≡ o → IsWrong files refusal.JournalDamaged
        by_decoded None e = inl (λ other its. by_other other its (decoded (encodings other) (files journal_file)) refl)
          where
            by_other : (other : Store) → IsStore other → (p : Option (Content TimedOp)) → decoded (encodings other) (files journal_file) ≡ p → p ≡ None
            by_other other its None d = refl
            by_other other its (Some s) d = absurd (none-some s (sym e ∙ ap (λ (x : Store). decoded (encodings x) (files journal_file)) (sym (only f other s its d)) ∙ d))
        by_decoded (Some s) e =
            let h = at_slot hives i (omega (arith, slice_get_within after.trees.items i tree there, many)) in
            let b = begin_with store is s e in
            inr (
              i,
              (
                record { store = store; journal = s; store_is = is; decodes = e; there = omega (arith, slice_get_within hives i h.0 h.1, all) },
                memory_of h.0,
                held f i h.0 h.1,
                nowhere s change b.0 b.1 i tree there none h.0 h.1,
              ),
            )

    pub denied : (why : Refusal) → DeniesNext (NotReplayed after) (λ changes. faithful → JournalBegins (files journal_file) changes) taken why → (why ≡ refusal.NoMemory) ⊎ ((why ≡ refusal.JournalDamaged) × (faithful → IsWrong files refusal.JournalDamaged))
    denied why d = elim (d.denies) [
      | inl hungry ↦ inl hungry
      | inr illegal ↦ inr (illegal.0, λ f. wrong d.change (d.begins f) illegal.1 f)
    ]

-- ---- the number before all

pub base_found : (base number b : ℕ) (changes : List Element) → (0 < top 0 (spelled_as base changes) → b ≡ base) → (top 0 (spelled_as base changes) ≡ 0 → b ≡ number) → b ≡ floor number (spelled_as base changes)
base_found base number b [] bs bn = bn refl
base_found base number b (x ∷ xs) bs bn = bs (omega arith)

pub retained_found : (base b : ℕ) (changes : List Element) (kept : List NumberedChange) (hives : List HiveFile) → (0 < top 0 (spelled_as base changes) → b ≡ base) → RetainsWhatHivesLack base changes kept hives → RetainsWhatHivesLack b changes kept hives
retained_found base b [] kept hives bs is = is
retained_found base b (x ∷ xs) kept hives bs is = subst (λ n. RetainsWhatHivesLack n (x ∷ xs) kept hives) (sym (bs (omega arith))) is

pub names_found : (base b : ℕ) (changes : List Element) (named : List ℕ) → (0 < top 0 (spelled_as base changes) → b ≡ base) → AreLastIn base (timed_elements changes) named → AreLastIn b (timed_elements changes) named
names_found base b [] named bs last = λ i m is.
    let l = last i m is in
    record { none_after = ap (ops_on i) (drop_nil {A = law.Element TimedOp} (m - b)); named = elim (l.named) [ inl z ↦ inl z | inr s ↦ absurd (s.1 (ap (ops_on i) (drop_nil {A = law.Element TimedOp} (m - 1 - base)))) ] }
names_found base b (x ∷ es) named bs last = subst (λ n. AreLastIn n (timed_elements (x ∷ es)) named) (sym (bs (omega arith))) last
