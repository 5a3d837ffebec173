-- What a journal and hives recover together, and when they recover nothing.
use Rattle.std.proofs.Common.{◌≡◌, inl, inr, ℕ, zero, suc, Bool, false, ◌+◌, ◌-◌, ◌<◌, ◌≤◌, List, [], ◌∷◌, ◌++◌, length, map, refl, sym, ◌∙◌, ap, subst, arith, Some, None, get_or, slice_get, IsTrue}
use Rattle.std.specs.Prelude.{min, if◌then◌else◌}
use Rattle.std.proofs.lemmas.Bool.{cases_lt, eq-eqb}
use Rattle.std.specs.List.{AllByRecursion}
use Rattle.std.proofs.lemmas.Option.{same_Some, slice_get_within, slice_get-get_or}
use Rattle.std.proofs.lemmas.List.{length-map}
use Rattle.refusals.specs.declared.limits.TheConstants.{GREATEST_NUMBER}
use Rattle.reg_tree.specs.Maps.{TreeMap, IsTree}
use Rattle.reg_tree.specs.Fresh.{fresh_tree}
use Rattle.reg_tree.specs.Sequences.{AreTrees}
use Rattle.reg_tree.specs.Operations.{hive_of}
use Rattle.reg_tree.specs.declared.op.Op.{Op}
use Rattle.reg_tree.specs.declared.element.Element.{Element}
use Rattle.crash_model.specs.Changes as law
use Rattle.crash_model.specs.Promises.{Choice, Content, settled, floor, top}
use Rattle.crash_model.specs.Recovery.{Recovers, IsLastNumber}
use Rattle.crash_model.specs.Life.{NamesHive}
use Rattle.crash_model.proofs.Lists.{drop_nil}
use Rattle.crash_model.proofs.OfFiles.{files_once, files_recover}
use Rattle.disk_model.specs.StoreFiles.{primary_file, log_file, journal_file}
use Rattle.change_codec.specs.ModelChanges.{TimedOp, tree_rules, timed, timed_element, timed_elements}
use Rattle.change_codec.specs.Encoding.{Fits, OpFits}
use Rattle.commit_journal.specs.Encoding.{decoded}
use Rattle.commit_journal.specs.Store.{Store, IsStore, all_hives, encodings}
use Rattle.commit_journal.proofs.StoreHives.{least_hives}
use Rattle.commit_journal.specs.Journals.{IsBroken, changes_of, choice_of, store_of, view_in_phase}
use Rattle.commit_journal.specs.OnDisk as phase
use Rattle.commit_journal.specs.declared.journal.Phase.{Phase}
use Rattle.commit_journal.specs.declared.journal.Phase.TheVariants.{AtRest, BodyWritten, BodySynced, GateWritten, TrimWritten, Broken}
use Rattle.commit_journal.specs.declared.journal.Journal.{Journal}
use Rattle.store_model.specs.Machine.{bounds_for}
use Rattle.store_model.specs.Invariant.{OutcomesFit}
use Rattle.hive_flush.specs.Decoders.{HiveFilesHold}
use Rattle.hive_flush.specs.HiveStates.{file_choice, memory_of}
use Rattle.hive_flush.specs.declared.hive.HiveFile.{HiveFile}
use Rattle.commit_outcomes.specs.Trees.{are_outcomes}
use Rattle.engine_invariant.specs.Rules.{rules}
use Rattle.engine_invariant.specs.States.{HiveView, tree_of}
use Rattle.engine_invariant.specs.Openings.{held_if, held_by, OpeningRecovers}
use Rattle.engine_invariant.specs.Prefixes.{Holds, Recover, JournalDecodesTo, view_of}
use Rattle.engine_invariant.proofs.HiveLists.{at_slot, each_pushed, view_at, viewed}
use Rattle.engine_invariant.proofs.Rules.{same_replay}
use Rattle.recovery.specs.Reading.{AreAtRest, AreOf, IsNumber, LeadTo, SomeLeadsNowhere, greatest, replayed_on}
use Rattle.commit_journal.specs.LastChangePerHive.{AreLastIn}
use Rattle.recovery.specs.Retained.{numbered_changes}
use Rattle.recovery.specs.Invariant.{RetainsWhatHivesLack, InvariantHolds}
use Rattle.recovery.specs.Recovered.{IsRecovered}
use Rattle.recovery.specs.Refused.{IsAhead, IsGreatestHeld, IsInStore, LeadsNowhere, OutcomesAreAhead, OutcomesAreWrong}
use Rattle.recovery.specs.declared.found.RecoveredStore.{RecoveredStore}

-- The laws that are used

abbrev pub OneStore : Type 0
OneStore = (bytes : List ℕ) (a b : Store) (x y : Content TimedOp) → IsStore a → IsStore b → decoded (encodings a) bytes ≡ Some x → decoded (encodings b) bytes ≡ Some y → a ≡ b

abbrev pub OneHeld : Type 0
OneHeld = (store primary log : List ℕ) (x y : TreeMap × ℕ) → HiveFilesHold store primary log x → HiveFilesHold store primary log y → x ≡ y

-- Numbers

pub below_greatest : (hives : List HiveFile) (i : ℕ) (hive : HiveFile) → slice_get hives i ≡ Some hive → (file_choice hive).now.1 ≤ greatest hives
below_greatest [] i hive is = absurd cc
below_greatest (h ∷ hs) zero hive is = omega (arith, ap (λ (f : HiveFile). (file_choice f).now.1) (same_Some h hive is))
below_greatest (h ∷ hs) (suc i) hive is = let rest = below_greatest hs i hive is in omega (arith, rest)

-- the greatest number is that of some hive
abbrev HasGreatest : List HiveFile → Type 0
HasGreatest hives = (i : ℕ) × (hive : HiveFile) × (slice_get hives i ≡ Some hive) × ((file_choice hive).now.1 ≡ greatest hives)

pub some_greatest : (hives : List HiveFile) → 0 < length hives → HasGreatest hives
some_greatest [] some = absurd (omega (arith, some))
some_greatest (h ∷ []) some = (0, h, refl, omega arith)
some_greatest (h ∷ g ∷ gs) some = elim (cases_lt (greatest (g ∷ gs)) (file_choice h).now.1) [
  | inl less ↦ (0, h, refl, omega (arith, less))
  | inr more ↦ let rest = some_greatest (g ∷ gs) (omega arith) in (suc rest.0, rest.1, rest.2, omega (arith, more, rest.3))
]

-- A change on the store's hives names one of them

on_own : (o : ℕ × TimedOp) (os : List (ℕ × TimedOp)) → law.on_hive o.0 (o ∷ os) ≡ o.1 ∷ law.on_hive o.0 os
on_own o os = ap (λ (b : Bool). if b then o.1 ∷ law.on_hive o.0 os else law.on_hive o.0 os) (eq-eqb o.0 o.0 refl)

names_one : (hives : ℕ) (e : Element) → Fits hives e → NamesHive hives (timed_element e)
names_one hives e fit = by_ops e.ops fit.some fit.ops
  where
    by_ops : (ops : List Op) → 1 ≤ length ops → AllByRecursion (OpFits hives) ops → NamesHive hives (map (timed e.moment) ops)
    by_ops [] some each = absurd (omega (arith, some))
    by_ops (op ∷ ops) some each = (hive_of op, each.0.hive, (e.moment, op), law.on_hive (hive_of op) (map (timed e.moment) ops), on_own (timed e.moment op) (map (timed e.moment) ops))

pub all_name : (hives : ℕ) (es : List Element) → AllByRecursion (Fits hives) es → AllByRecursion (NamesHive hives) (timed_elements es)
all_name hives [] fit = tt
all_name hives (e ∷ es) fit = (names_one hives e fit.0, all_name hives es fit.1)

-- What is found

abbrev pub spelled_as : ℕ → List Element → Content TimedOp
spelled_as below elements = record { below = below; elements = timed_elements elements }

module _ (journal : Journal) (below : ℕ) (elements : List Element) (hives : List HiveFile) (rest : AreAtRest journal below elements hives) where
  abbrev its : Content TimedOp
  its = spelled_as below elements

  pub now_is : (choice_of journal).now ≡ its
  now_is = ap (λ (c : Choice (Content TimedOp)). c.now) rest.choice

  memory_is : (i : ℕ) (hive : HiveFile) → slice_get hives i ≡ Some hive → (file_choice hive).now ≡ memory_of hive
  memory_is i hive is = ap (λ (c : Choice (TreeMap × ℕ)). c.now) (rest.rest i hive is)

  held_is : (i : ℕ) (hive : HiveFile) → slice_get hives i ≡ Some hive → held_by (map view_of hives) i ≡ memory_of hive
  held_is i hive is = ap held_if (view_at hives i hive is) ∙ memory_is i hive is

  -- some hive is there
  some : 0 < length hives
  some = omega (arith, rest.many, rest.store.some_hives, least_hives (store_of journal).layout (store_of journal).hives)

  -- the number, by what the journal says
  pub number_is : (last number : ℕ) → last ≡ top 0 (choice_of journal).now → IsNumber last hives number → IsNumber (top 0 its) hives number
  number_is last number e is = subst (λ n. IsNumber n hives number) (e ∙ ap (top 0) now_is) is

  -- the hive at an index of the list
  at : (i : ℕ) → i < length hives → (hive : HiveFile) × (slice_get hives i ≡ Some hive)
  at = at_slot hives

  last_of : (number : ℕ) → IsNumber (top 0 its) hives number → IsLastNumber (length hives) (λ i. (held_by (map view_of hives) i).1) below (timed_elements elements) number
  last_of number is = by_elements elements refl is
    where
      none_below : 0 < 0 + 0 → ⊥
      none_below lt = absurd (omega (arith, lt))

      by_elements : (es : List Element) → elements ≡ es → IsNumber (top 0 (spelled_as below es)) hives number → IsLastNumber (length hives) (λ i. (held_by (map view_of hives) i).1) below (timed_elements es) number
      by_elements [] e (inl (some, n)) = absurd (none_below some)
      by_elements [] e (inr (none, n)) =
          let g = some_greatest hives some in
          (g.0, slice_get_within hives g.0 g.1 g.2, ap (λ (x : TreeMap × ℕ). x.1) (held_is g.0 g.1 g.2 ∙ sym (memory_is g.0 g.1 g.2)) ∙ g.3 ∙ sym n)
      by_elements (x ∷ xs) e (inl (some, n)) = n
      by_elements (x ∷ xs) e (inr (none, n)) = absurd (omega (arith, none))

  module _ (number base : ℕ) (trees : List TreeMap) (is : IsNumber (top 0 its) hives number) (within : (i : ℕ) (hive : HiveFile) → slice_get hives i ≡ Some hive → (file_choice hive).now.1 ≤ min number GREATEST_NUMBER)
      (base_is : base ≡ floor number its) (many : length trees ≡ length hives) (are : AreTrees trees) (lead : LeadTo its hives trees)
      (allowed : (i : ℕ) → i < length trees → IsTrue ((rules (store_of journal).hives).allows i number (tree_of trees i))) where
    limit : number ≤ GREATEST_NUMBER
    limit = by_number is
      where
        by_number : IsNumber (top 0 its) hives number → number ≤ GREATEST_NUMBER
        by_number (inl (some, n)) = omega (arith, n, rest.numbers, ap (top 0) now_is)
        by_number (inr (none, n)) =
            let g = some_greatest hives some in
            let w = within g.0 g.1 g.2 in
            omega (arith, w, g.3, n)

    recovers : Recovers (rules (store_of journal).hives) GREATEST_NUMBER (length trees) its (held_by (map view_of hives)) number (tree_of trees)
    recovers = record {
      last = subst (λ n. IsLastNumber n (λ i. (held_by (map view_of hives) i).1) below (timed_elements elements) number) (sym many) (last_of number is);
      limit = limit;
      not_above = λ i lt.
          let h = at i (omega (arith, lt, many)) in
          let w = within i h.0 h.1 in
          omega (arith, w, ap (λ (x : TreeMap × ℕ). x.1) (held_is i h.0 h.1 ∙ sym (memory_is i h.0 h.1)));
      tree = λ i lt.
          let h = at i (omega (arith, lt, many)) in
          same_replay (store_of journal).hives _ _ ∙ ap (replayed_on its i) (held_is i h.0 h.1) ∙ lead i h.0 (tree_of trees i) h.1 (slice_get-get_or trees i fresh_tree lt);
      allowed = allowed;
    }

    pub is_found : OpeningRecovers (store_of journal).hives trees number base elements (choice_of journal) (map view_of hives)
    is_found = record {
      below = below;
      journal_is = rest.choice;
      base_is = base_is;
      each = λ i view e. let v = viewed hives i view e in subst (λ (w : HiveView). w.files ≡ settled w.memory) v.2 (rest.rest i v.0 v.1);
      all = length-map hives view_of ∙ sym many;
      recovers = recovers;
      changes = all_name (length trees) elements (subst (λ n. AllByRecursion (Fits n) elements) (sym rest.many ∙ sym many) rest.fit);
      are_trees = are;
    }

-- One more tree

pub trees_pushed : (trees : List TreeMap) (tree : TreeMap) → AreTrees trees → IsTree tree → AreTrees (trees ++ tree ∷ [])
trees_pushed trees tree are is = each_pushed trees tree (λ i t. IsTree t) are is

pub lead_pushed : (journal : Content TimedOp) (hives : List HiveFile) (trees : List TreeMap) (tree : TreeMap) (place : ℕ) → length trees ≡ place → (hive : HiveFile) → slice_get hives place ≡ Some hive → LeadTo journal hives trees
    → replayed_on journal place (memory_of hive) ≡ Some tree → LeadTo journal hives (trees ++ tree ∷ [])
lead_pushed journal hives trees tree place many hive is lead made = λ i h t at got.
    each_pushed trees tree (λ j u. (g : HiveFile) → slice_get hives j ≡ Some g → replayed_on journal j (memory_of g) ≡ Some u) (λ j u was g there. lead j g u there was)
    (λ g there. subst (λ n. replayed_on journal n (memory_of g) ≡ Some tree) (sym many)
    (subst (λ (x : HiveFile). replayed_on journal place (memory_of x) ≡ Some tree) (same_Some hive g (sym is ∙ subst (λ n. slice_get hives n ≡ Some g) many there)) made)) i t got h at

-- a journal without changes leads nowhere else
led_by_none : (below : ℕ) (es : List Element) (i : ℕ) (memory : TreeMap × ℕ) (tree : TreeMap) → top 0 (spelled_as below es) ≡ 0 → replayed_on (spelled_as below es) i memory ≡ Some tree → (timed_elements es ≡ []) × (tree ≡ memory.0)
led_by_none below [] i memory tree none is =
    (refl, same_Some tree memory.0 (sym is ∙ ap (λ (l : List (law.Element TimedOp)). law.replay tree_rules (law.ops_on i l) memory.0) (drop_nil {A = law.Element TimedOp} (memory.1 - below))))
led_by_none below (x ∷ xs) i memory tree none is = absurd (omega (arith, none))

-- What is wrong with files that are of a journal and hives

module _ (journal : Journal) (below : ℕ) (elements : List Element) (hives : List HiveFile) (rest : AreAtRest journal below elements hives) (files : ℕ → List ℕ) (of : AreOf files journal hives) where
  -- a hive that is there is one of the store's
  abbrev is_one : (i : ℕ) (hive : HiveFile) → slice_get hives i ≡ Some hive → IsInStore files i
  is_one i hive is = record {
    store = store_of journal;
    journal = spelled_as below elements;
    store_is = rest.store;
    decodes = of.decodes ∙ ap (λ (s : Content TimedOp). Some s) (now_is journal below elements hives rest);
    there = omega (arith, slice_get_within hives i hive is, rest.many);
  }

  pub nowhere_from : SomeLeadsNowhere (spelled_as below elements) hives → (i : ℕ) × LeadsNowhere files i
  nowhere_from (i, hive, is, none) = (i, (is_one i hive is, memory_of hive, of.holds i hive is, none))

  pub ahead_is : (own : ℕ) → IsNumber (top 0 (spelled_as below elements)) hives own → (i : ℕ) (hive : HiveFile) → slice_get hives i ≡ Some hive → min own GREATEST_NUMBER < (file_choice hive).now.1 → IsAhead files i
  ahead_is own is i hive got above = (
    is_one i hive got,
    memory_of hive,
    of.holds i hive got,
    by_elements elements is (ap (top 0) (now_is journal below elements hives rest)) (ap (λ (x : TreeMap × ℕ). x.1) (memory_is journal below elements hives rest i hive got)),
  )
    where
      by_elements : (es : List Element) → IsNumber (top 0 (spelled_as below es)) hives own → top 0 (choice_of journal).now ≡ top 0 (spelled_as below es) → (file_choice hive).now.1 ≡ (memory_of hive).1 → top GREATEST_NUMBER (spelled_as below es) < (memory_of hive).1
      by_elements [] (inl (some, n)) last same = absurd (omega (arith, some))
      by_elements [] (inr (none, n)) last same = let g = below_greatest hives i hive got in omega (arith, above, same, n, g)
      by_elements (x ∷ xs) (inl (some, n)) last same = omega (arith, above, same, n, last, rest.numbers)
      by_elements (x ∷ xs) (inr (none, n)) last same = absurd (omega (arith, none))

  -- the tree after those that calls name is not of outcomes
  module _ (i : ℕ) (hive : HiveFile) (got : slice_get hives i ≡ Some hive) (unnamed : (store_of journal).hives ≤ i) (tree : TreeMap) (leads : replayed_on (spelled_as below elements) i (memory_of hive) ≡ Some tree)
      (own : ℕ) (is : IsNumber (top 0 (spelled_as below elements)) hives own) (not : are_outcomes own tree ≡ false) where
    pub outcomes_wrong : 0 < top 0 (spelled_as below elements) → OutcomesAreWrong files i
    outcomes_wrong why = record {
      of = is_one i hive got;
      unnamed = unnamed;
      held = memory_of hive;
      holds = of.holds i hive got;
      tree = tree;
      leads = leads;
      wrong = by_elements elements is why;
    }
      where
        by_elements : (es : List Element) → IsNumber (top 0 (spelled_as below es)) hives own → 0 < top 0 (spelled_as below es) → are_outcomes (top GREATEST_NUMBER (spelled_as below es)) tree ≡ false
        by_elements [] n some = absurd (omega (arith, some))
        by_elements (x ∷ xs) (inl (more, n)) some = let e : top GREATEST_NUMBER (spelled_as below (x ∷ xs)) ≡ own = omega (arith, n) in ap (λ n. are_outcomes n tree) e ∙ not
        by_elements (x ∷ xs) (inr (none, n)) some = absurd (omega (arith, none))

    pub outcomes_ahead : OneHeld → top 0 (spelled_as below elements) ≡ 0 → OutcomesAreAhead files i
    outcomes_ahead one_held none =
        let led = led_by_none below elements i (memory_of hive) tree none leads in
        record {
          of = is_one i hive got;
          unnamed = unnamed;
          empty = led.0;
          held = memory_of hive;
          holds = of.holds i hive got;
          number = own;
          is_number = is_greatest one_held (by_number is);
          ahead = ap (are_outcomes own) (sym led.1) ∙ not;
        }
      where
        by_number : IsNumber (top 0 (spelled_as below elements)) hives own → own ≡ greatest hives
        by_number (inl (some, n)) = absurd (omega (arith, some, none))
        by_number (inr (none, n)) = n

        is_greatest : OneHeld → own ≡ greatest hives → IsGreatestHeld files (store_of journal) own
        is_greatest one_held n =
            let g = some_greatest hives (some journal below elements hives rest) in
            let its : (memory_of g.1).1 ≡ own = ap (λ (x : TreeMap × ℕ). x.1) (sym (memory_is journal below elements hives rest g.0 g.1 g.2)) ∙ g.3 ∙ sym n in
            record {
              hive = g.0;
              there = omega (arith, slice_get_within hives g.0 g.1 g.2, rest.many);
              tree = (memory_of g.1).0;
              holds = subst (λ k. HiveFilesHold (store_of journal).id (files (primary_file g.0)) (files (log_file g.0)) ((memory_of g.1).0, k)) its (of.holds g.0 g.1 g.2);
              greatest = λ j held lt h.
                  let at = at_slot hives j (omega (arith, lt, rest.many)) in
                  let low = below_greatest hives j at.0 at.1 in
                  omega (
                    arith,
                    low,
                    n,
                    ap (λ (x : TreeMap × ℕ). x.1) (memory_is journal below elements hives rest j at.0 at.1),
                    ap (λ (x : TreeMap × ℕ). x.1) (one_held (store_of journal).id (files (primary_file j)) (files (log_file j)) held (memory_of at.0) h (of.holds j at.0 at.1)),
                  );
            }

-- files that are of what was found recover what was found
pub of_found : (trees : List TreeMap) (number base : ℕ) (opened : List Element) (journal : Journal) (hives : List HiveFile) → OpeningRecovers (store_of journal).hives trees number base opened (choice_of journal) (map view_of hives)
    → IsStore (store_of journal) → length hives ≡ all_hives (store_of journal) → (files : ℕ → List ℕ) → AreOf files journal hives → IsRecovered files (store_of journal) number trees
of_found trees number base opened journal hives found store many files of =
    let long : length trees ≡ all_hives (store_of journal) = sym found.all ∙ length-map hives view_of ∙ many in
    record {
      store_is = store;
      many = long;
      recovers = subst (λ n. Recover (store_of journal) n files number trees) long
          (files_recover (rules (store_of journal).hives) (JournalDecodesTo (store_of journal)) (Holds (store_of journal)) GREATEST_NUMBER (length trees) files (spelled_as found.below opened) (held_by (map view_of hives)) number (tree_of trees)
          (of.decodes ∙ ap (λ (c : Choice (Content TimedOp)). Some c.now) found.journal_is) (λ i lt. holds i (omega (arith, lt, long, many))) found.recovers);
    }
  where
    holds : (i : ℕ) → i < length hives → HiveFilesHold (store_of journal).id (files (primary_file i)) (files (log_file i)) (held_by (map view_of hives) i)
    holds i lt =
        let h = at_slot hives i lt in
        let view = view_at hives i h.0 h.1 in
        subst (HiveFilesHold (store_of journal).id (files (primary_file i)) (files (log_file i)))
        (sym (ap (λ (c : Choice (TreeMap × ℕ)). c.now) (found.each i (view_of h.0) view)) ∙ sym (ap held_if view)) (of.holds i h.0 h.1)

-- a journal with nothing under way has not failed
pub settled_works : (journal : Journal) (now : Content TimedOp) → choice_of journal ≡ settled now → IsBroken journal → ⊥
settled_works journal now is = by_phase journal.phase (ap (λ (c : Choice (Content TimedOp)). c.next) is)
  where
    by_phase : (p : Phase) → (view_in_phase journal.on_device p).choice.next ≡ None → (view_in_phase journal.on_device p).phase ≡ phase.Phase.Broken → ⊥
    by_phase AtRest none e = absurd cc
    by_phase (BodyWritten batch) none e = absurd cc
    by_phase (BodySynced batch) none e = absurd cc
    by_phase (GateWritten batch) none e = absurd cc
    by_phase TrimWritten none e = absurd cc
    by_phase (Broken ahead) none e = absurd cc

pub kept_is : (found : RecoveredStore) (below : ℕ) → AreAtRest found.journal below (changes_of found.journal) found.hives.items → OpeningRecovers (store_of found.journal).hives found.trees found.number found.base (changes_of found.journal) (choice_of found.journal) (map view_of found.hives.items)
    → RetainsWhatHivesLack found.base (changes_of found.journal) (numbered_changes found.opened) found.hives.items → length found.last_changes.last.items ≡ length found.hives.items → AreLastIn found.base (timed_elements (changes_of found.journal)) found.last_changes.last.items
    → OutcomesFit (bounds_for (store_of found.journal).hives) found.trees found.number → InvariantHolds found
kept_is found below rest recovers hand many last fit = record {
  opened = hand;
  named = many;
  names = last;
  recovers = recovers;
  store = rest.store;
  placed = record { place = rest.place; owner = rest.owner };
  many = rest.many;
  outcomes = fit;
  works = settled_works found.journal _ rest.choice;
}

-- lists as long as one another whose entries are the same
same_lists : {X : Type 0} (d : X) (xs ys : List X) → length xs ≡ length ys → ((i : ℕ) → i < length xs → get_or xs i d ≡ get_or ys i d) → xs ≡ ys
same_lists d [] [] long each = refl
same_lists d [] (y ∷ ys) long each = absurd (omega (arith, long))
same_lists d (x ∷ xs) [] long each = absurd (omega (arith, long))
same_lists d (x ∷ xs) (y ∷ ys) long each = λ i. each 0 (omega arith) i ∷ same_lists d xs ys (omega (arith, long)) (λ j lt. each (suc j) (omega (arith, lt))) i

-- files recover at most one number and one list of trees, as one store
pub recovered_once : OneStore → OneHeld → (files : ℕ → List ℕ) (a b : Store) (n m : ℕ) (ts us : List TreeMap) → IsRecovered files a n ts → IsRecovered files b m us → (a ≡ b) × (n ≡ m) × (ts ≡ us)
recovered_once one_store one_held files a b n m ts us x y =
    let which : b ≡ a = one_store (files journal_file) b a y.recovers.journal x.recovers.journal y.store_is x.store_is y.recovers.decoded x.recovers.decoded in
    let other : Recover a (all_hives a) files m us = subst (λ (s : Store). Recover s (all_hives s) files m us) which y.recovers in
    let once = files_once (rules a.hives) (JournalDecodesTo a) (Holds a) GREATEST_NUMBER (all_hives a) (λ bytes s t e f. same_Some s t (sym e ∙ f)) (λ p l u v h k. one_held a.id p l u v h k) files n m (tree_of ts) (tree_of us) x.recovers other in
    (sym which, once.0, same_lists fresh_tree ts us (x.many ∙ ap (λ (s : Store). all_hives s) (sym which) ∙ sym y.many) (λ i lt. once.1 i (omega (arith, lt, x.many))))
