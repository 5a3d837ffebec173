-- Files with which something is wrong recover nothing.
use Rattle.std.proofs.Common.{◌⊎◌, ◌≡◌, inl, inr, ℕ, ◌-◌, ◌<◌, ◌≤◌, Bool, true, false, List, [], ◌∷◌, drop, sym, ◌∙◌, ap, subst, arith, Some, None}
use Rattle.std.proofs.lemmas.Option.{none-some, same_Some}
use Rattle.refusals.specs.declared.limits.TheConstants.{GREATEST_NUMBER}
use Rattle.refusals.specs.declared.refusal.Cause.{Cause}
use Rattle.refusals.specs.declared.refusal.Refusal.{Refusal}
use Rattle.refusals.specs.declared.refusal.Refusal.TheVariants as refusal
use Rattle.reg_tree.specs.Maps.{TreeMap}
use Rattle.crash_model.specs.Changes as law
use Rattle.crash_model.specs.Promises.{Content, top}
use Rattle.crash_model.specs.Recovery.{above}
use Rattle.crash_model.specs.Files.{IsLastNumberOf}
use Rattle.crash_model.proofs.Lists.{drop_nil}
use Rattle.disk_model.specs.StoreFiles.{primary_file, log_file, journal_file}
use Rattle.change_codec.specs.ModelChanges.{TimedOp, tree_rules}
use Rattle.commit_journal.specs.Encoding.{decoded}
use Rattle.commit_journal.specs.Store.{Store, IsNoJournal, all_hives, encodings}
use Rattle.hive_flush.specs.Decoders.{HiveFilesHold, FilesHoldNone}
use Rattle.commit_outcomes.specs.Trees.{are_outcomes}
use Rattle.engine_invariant.specs.States.{tree_of}
use Rattle.engine_invariant.specs.Prefixes.{Holds}
use Rattle.engine_invariant.proofs.Rules.{same_replay}
use Rattle.recovery.specs.Reading.{replayed_on}
use Rattle.recovery.specs.Recovered.{IsRecovered, NothingRecovered}
use Rattle.recovery.specs.Refused.{AreAlike, HoldsIn, HoldsNothing, IsAhead, IsGreatestHeld, IsInStore, IsWrong, LeadsNowhere, OutcomesAreAhead, OutcomesAreWrong}
use Rattle.recovery.proofs.Outcomes.{later_outcomes, outcomes_allowed}
use Rattle.recovery.proofs.Together.{OneStore, OneHeld}

-- the last number of all is not above that of the last change
not_above_last : (has : (i k : ℕ) → Type 0) (hives below number : ℕ) (es : List (law.Element TimedOp)) → IsLastNumberOf has hives below es number → number ≤ GREATEST_NUMBER → number ≤ top GREATEST_NUMBER (record { below = below; elements = es })
not_above_last has hives below number [] last limit = omega (arith, limit)
not_above_last has hives below number (e ∷ es) last limit = omega (arith, last)

not_both : (b : Bool) → b ≡ true → b ≡ false → ⊥
not_both true t f = absurd cc
not_both false t f = absurd cc

module _ (one_store : OneStore) (one_held : OneHeld) (files : ℕ → List ℕ) (store : Store) (number : ℕ) (trees : List TreeMap) (r : IsRecovered files store number trees) (hive : ℕ) (of : IsInStore files hive) where
  which : store ≡ of.store
  which = one_store (files journal_file) store of.store r.recovers.journal of.journal r.store_is of.store_is r.recovers.decoded of.decodes

  decoded_is : r.recovers.journal ≡ of.journal
  decoded_is = same_Some _ _ (sym r.recovers.decoded ∙ ap (λ (s : Store). decoded (encodings s) (files journal_file)) which ∙ of.decodes)

  there : hive < all_hives store
  there = omega (arith, of.there, ap (λ (s : Store). all_hives s) which)

  -- what is recovered of the hive is decoded from its files in the journal's store
  holds : HoldsIn files hive of (r.recovers.each hive there).held
  holds = subst (λ (s : Store). HiveFilesHold s.id (files (primary_file hive)) (files (log_file hive)) (r.recovers.each hive there).held) which (r.recovers.each hive there).holds_it

  holds_something : ((held : TreeMap × ℕ) → HoldsIn files hive of held → ⊥) → ⊥
  holds_something none = none _ holds

  module _ (held : TreeMap × ℕ) (is : HoldsIn files hive of held) where
    same : (r.recovers.each hive there).held ≡ held
    same = one_held of.store.id (files (primary_file hive)) (files (log_file hive)) _ held holds is

    up_to : number ≤ top GREATEST_NUMBER of.journal
    up_to =
        let low = not_above_last _ (all_hives store) r.recovers.journal.below number r.recovers.journal.elements r.recovers.last r.recovers.limit in
        omega (arith, low, ap (top GREATEST_NUMBER) decoded_is)

    not_ahead : top GREATEST_NUMBER of.journal < held.1 → ⊥
    not_ahead above = absurd (omega (arith, above, up_to, (r.recovers.each hive there).not_above, ap (λ (x : TreeMap × ℕ). x.1) same))

    led : replayed_on of.journal hive held ≡ Some (tree_of trees hive)
    led =
        let own = (r.recovers.each hive there).held in
        sym (ap (λ (j : Content TimedOp). replayed_on j hive held) decoded_is) ∙ sym (ap (replayed_on r.recovers.journal hive) same)
        ∙ sym (same_replay store.hives (law.ops_on hive (above own.1 r.recovers.journal)) own.0) ∙ (r.recovers.each hive there).replayed

    leads : replayed_on of.journal hive held ≡ None → ⊥
    leads none = none-some (tree_of trees hive) (sym none ∙ led)

    module _ (unnamed : of.store.hives ≤ hive) where
      -- its tree is of outcomes
      of_outcomes : are_outcomes number (tree_of trees hive) ≡ true
      of_outcomes = outcomes_allowed store.hives number hive (tree_of trees hive) (omega (arith, unnamed, ap (λ (s : Store). s.hives) which)) (r.recovers.each hive there).allowed

      not_wrong : (tree : TreeMap) → replayed_on of.journal hive held ≡ Some tree → are_outcomes (top GREATEST_NUMBER of.journal) tree ≡ false → ⊥
      not_wrong tree is wrong =
          let own : tree_of trees hive ≡ tree = same_Some (tree_of trees hive) tree (sym led ∙ is) in
          not_both (are_outcomes (top GREATEST_NUMBER of.journal) tree) (ap (are_outcomes (top GREATEST_NUMBER of.journal)) (sym own) ∙ later_outcomes number (top GREATEST_NUMBER of.journal) up_to (tree_of trees hive) of_outcomes) wrong

      module _ (empty : of.journal.elements ≡ []) (most : ℕ) (is_most : IsGreatestHeld files of.store most) where
        -- the recovered number is the greatest that a hive's files hold
        number_is : number ≡ most
        number_is =
            let own : Holds store (files (primary_file is_most.hive)) (files (log_file is_most.hive)) (is_most.tree, most) = subst (λ (s : Store). Holds s (files (primary_file is_most.hive)) (files (log_file is_most.hive)) (is_most.tree, most)) (sym which) is_most.holds in
            let e = r.recovers.each is_most.hive (omega (arith, is_most.there, ap (λ (s : Store). all_hives s) which)) in
            let high : most ≤ number = omega (arith, e.not_above, ap (λ (x : TreeMap × ℕ). x.1) (one_held store.id (files (primary_file is_most.hive)) (files (log_file is_most.hive)) e.held (is_most.tree, most) e.holds_it own)) in
            let l = subst (λ (es : List (law.Element TimedOp)). IsLastNumberOf (λ i k. (t : TreeMap) × Holds store (files (primary_file i)) (files (log_file i)) (t, k)) (all_hives store) r.recovers.journal.below es number)
            (ap (λ (j : Content TimedOp). j.elements) decoded_is ∙ empty) r.recovers.last in
            let low : number ≤ most = is_most.greatest l.0 (l.2.0, number) (omega (arith, l.1, ap (λ (s : Store). all_hives s) which)) (subst (λ (s : Store). Holds s (files (primary_file l.0)) (files (log_file l.0)) (l.2.0, number)) which l.2.1) in
            omega (arith, high, low)

        not_outcomes_ahead : are_outcomes most held.0 ≡ false → ⊥
        not_outcomes_ahead ahead =
            let own : tree_of trees hive ≡ held.0 = same_Some (tree_of trees hive) held.0 (sym led ∙ ap (λ (es : List (law.Element TimedOp)). law.replay tree_rules (law.ops_on hive (drop (held.1 - of.journal.below) es)) held.0) empty
            ∙ ap (λ (es : List (law.Element TimedOp)). law.replay tree_rules (law.ops_on hive es) held.0) (drop_nil {A = law.Element TimedOp} (held.1 - of.journal.below))) in
            not_both (are_outcomes most held.0) (ap (are_outcomes most) (sym own) ∙ ap (λ n. are_outcomes n (tree_of trees hive)) (sym number_is) ∙ of_outcomes) ahead

module _ (one_store : OneStore) (one_held : OneHeld) (files : ℕ → List ℕ) (store : Store) (number : ℕ) (trees : List TreeMap) (r : IsRecovered files store number trees) where
  not_nothing : (hive : ℕ) (why : Refusal) → HoldsNothing files hive why → ⊥
  not_nothing hive why (of, as_journal_damage) = holds_something one_store one_held files store number trees r hive of as_journal_damage.none

  never_ahead : (hive : ℕ) → IsAhead files hive → ⊥
  never_ahead hive (of, held, is, above) = not_ahead one_store one_held files store number trees r hive of held is above

  somewhere : (hive : ℕ) → LeadsNowhere files hive → ⊥
  somewhere hive (of, held, is, none) = leads one_store one_held files store number trees r hive of held is none

  outcomes_not_wrong : (hive : ℕ) → OutcomesAreWrong files hive → ⊥
  outcomes_not_wrong hive w = not_wrong one_store one_held files store number trees r hive w.of w.held w.holds w.unnamed w.tree w.leads w.wrong

  outcomes_not_ahead : (hive : ℕ) → OutcomesAreAhead files hive → ⊥
  outcomes_not_ahead hive w = not_outcomes_ahead one_store one_held files store number trees r hive w.of w.held w.holds w.unnamed w.empty w.number w.is_number w.ahead

  decodes_to_something : IsNoJournal (files journal_file) → ⊥
  decodes_to_something none = none-some r.recovers.journal (sym (none store r.store_is) ∙ r.recovers.decoded)

  nothing_wrong : (why : Refusal) → IsWrong files why → ⊥
  nothing_wrong (refusal.HiveDamaged hive cause) (inl none) = not_nothing hive (refusal.HiveDamaged hive cause) none
  nothing_wrong (refusal.HiveDamaged hive cause) (inr (is, inl ahead)) = never_ahead hive ahead
  nothing_wrong (refusal.HiveDamaged hive cause) (inr (is, inr (inl outcomes))) = outcomes_not_wrong hive outcomes
  nothing_wrong (refusal.HiveDamaged hive cause) (inr (is, inr (inr outcomes))) = outcomes_not_ahead hive outcomes
  nothing_wrong refusal.Unsupported (hive, none) = not_nothing hive refusal.Unsupported none
  nothing_wrong refusal.JournalDamaged (inl none) = decodes_to_something none
  nothing_wrong refusal.JournalDamaged (inr (hive, none)) = somewhere hive none
  nothing_wrong _ is = absurd is

pub wrong_files : OneStore → OneHeld → (files : ℕ → List ℕ) (why : Refusal) → IsWrong files why → NothingRecovered files
wrong_files one_store one_held files why is = λ store number trees r. nothing_wrong one_store one_held files store number trees r why is

-- What is wrong with one hive is wrong with all files that are alike in it.

module _ (files others : ℕ → List ℕ) (hive : ℕ) (alike : AreAlike files others hive) where
  abbrev of_others : IsInStore files hive → IsInStore others hive
  of_others of = record {
    store = of.store;
    journal = of.journal;
    store_is = of.store_is;
    decodes = ap (decoded (encodings of.store)) alike.journal ∙ of.decodes;
    there = of.there;
  }

  held_alike : (store : Store) (held : TreeMap × ℕ) → HiveFilesHold store.id (files (primary_file hive)) (files (log_file hive)) held → HiveFilesHold store.id (others (primary_file hive)) (others (log_file hive)) held
  held_alike store held is =
      subst (λ (p : List ℕ). HiveFilesHold store.id p (others (log_file hive)) held) (sym alike.primary)
      (subst (λ (l : List ℕ). HiveFilesHold store.id (files (primary_file hive)) l held) (sym alike.log) is)

  none_alike : (store : Store) (why : Refusal) → FilesHoldNone hive store.id (files (primary_file hive)) (files (log_file hive)) why → FilesHoldNone hive store.id (others (primary_file hive)) (others (log_file hive)) why
  none_alike store why none =
      subst (λ (p : List ℕ). FilesHoldNone hive store.id p (others (log_file hive)) why) (sym alike.primary)
      (subst (λ (l : List ℕ). FilesHoldNone hive store.id (files (primary_file hive)) l why) (sym alike.log) none)

  pub wrong_alike : (cause : Cause) → IsWrong files (refusal.HiveDamaged hive cause) → IsWrong others (refusal.HiveDamaged hive cause) ⊎ OutcomesAreAhead files hive
  wrong_alike cause (inl (of, none)) = inl (inl (of_others of, none_alike of.store (refusal.HiveDamaged hive cause) none))
  wrong_alike cause (inr (is, inl (of, held, got, above))) = inl (inr (is, inl (of_others of, held, held_alike of.store held got, above)))
  wrong_alike cause (inr (is, inr (inl w))) =
      inl (inr (is, inr (inl (record { of = of_others w.of; unnamed = w.unnamed; held = w.held; holds = held_alike w.of.store w.held w.holds; tree = w.tree; leads = w.leads; wrong = w.wrong }))))
  wrong_alike cause (inr (is, inr (inr ahead))) = inr ahead
