-- What files recover of one hive, beside what they recover of all.
use Rattle.std.proofs.Common.{◌≡◌, inl, inr, ℕ, ◌<◌, ◌≤◌, Bool, true, false, List, [], ◌∷◌, sym, ◌∙◌, ap, subst, arith, Some, None, slice_get}
use Rattle.std.proofs.lemmas.Option.{none-some, same_Some, slice_get_within, slice_get-get_or}
use Rattle.refusals.specs.declared.limits.TheConstants.{GREATEST_NUMBER}
use Rattle.refusals.specs.declared.refusal.Refusal.{Refusal}
use Rattle.refusals.specs.declared.refusal.Refusal.TheVariants as refusal
use Rattle.reg_tree.specs.Fresh.{fresh_tree}
use Rattle.reg_tree.specs.Maps.{TreeMap}
use Rattle.crash_model.specs.Changes as law
use Rattle.crash_model.specs.Files.{IsLastNumberOf}
use Rattle.crash_model.specs.Promises.{Content, top}
use Rattle.crash_model.specs.Recovery.{above}
use Rattle.disk_model.specs.StoreFiles.{primary_file, log_file, journal_file}
use Rattle.change_codec.specs.ModelChanges.{TimedOp}
use Rattle.commit_journal.specs.Encoding.{decoded}
use Rattle.commit_journal.specs.Store.{Store, IsStore, all_hives, encodings}
use Rattle.commit_outcomes.specs.Trees.{are_outcomes}
use Rattle.hive_flush.specs.Decoders.{HiveFilesHold}
use Rattle.engine_invariant.specs.States.{tree_of}
use Rattle.engine_invariant.proofs.Rules.{same_replay}
use Rattle.recovery.specs.Reading.{replayed_on}
use Rattle.recovery.specs.Recovered.{IsRecovered}
use Rattle.recovery.specs.Refused.{AreAlike, HoldsIn, HoldsNothing, IsAhead, IsInStore, IsWrong, OutcomesAreWrong}
use Rattle.store_hive.specs.RecoveredHives.{RecoversHive}
use Rattle.store_hive.specs.RefusedHives.{HiveIsWrong}
use Rattle.store_hive.proofs.Outcomes.{later_outcomes, outcomes_allowed}

-- the laws that are used
abbrev pub OneStore : Type 0
OneStore = (bytes : List ℕ) (a b : Store) (x y : Content TimedOp) → IsStore a → IsStore b → decoded (encodings a) bytes ≡ Some x → decoded (encodings b) bytes ≡ Some y → a ≡ b

abbrev pub OneHeld : Type 0
OneHeld = (store primary log : List ℕ) (x y : TreeMap × ℕ) → HiveFilesHold store primary log x → HiveFilesHold store primary log y → x ≡ y

-- the last number of all is not above that of the last change
not_above_last : (has : (i k : ℕ) → Type 0) (hives below number : ℕ) (es : List (law.Element TimedOp)) → IsLastNumberOf has hives below es number → number ≤ GREATEST_NUMBER → number ≤ top GREATEST_NUMBER (record { below = below; elements = es })
not_above_last has hives below number [] last limit = omega (arith, limit)
not_above_last has hives below number (e ∷ es) last limit = omega (arith, last)

not_both : (b : Bool) → b ≡ true → b ≡ false → ⊥
not_both true t f = absurd cc
not_both false t f = absurd cc

module _ (one_store : OneStore) (one_held : OneHeld) where
  -- a tree of a hive, and what else may be said of its store
  module _ (files : ℕ → List ℕ) (store : Store) (hive : ℕ) (tree : TreeMap) (r : RecoversHive files store hive tree) (of : IsInStore files hive) where
    which : store ≡ of.store
    which = one_store (files journal_file) store of.store r.journal of.journal r.store_is of.store_is r.decodes of.decodes

    journal_is : r.journal ≡ of.journal
    journal_is = same_Some _ _ (sym r.decodes ∙ ap (λ (s : Store). decoded (encodings s) (files journal_file)) which ∙ of.decodes)

    holds_in : HoldsIn files hive of r.held
    holds_in = subst (λ (s : Store). HiveFilesHold s.id (files (primary_file hive)) (files (log_file hive)) r.held) which r.holds

    held_is : (held : TreeMap × ℕ) → HoldsIn files hive of held → r.held ≡ held
    held_is held is = one_held of.store.id (files (primary_file hive)) (files (log_file hive)) r.held held holds_in is

    leads_in : (held : TreeMap × ℕ) → HoldsIn files hive of held → replayed_on of.journal hive held ≡ Some tree
    leads_in held is = sym (ap (λ (j : Content TimedOp). replayed_on j hive held) journal_is) ∙ sym (ap (replayed_on r.journal hive) (held_is held is)) ∙ r.leads

    never_ahead : (held : TreeMap × ℕ) → HoldsIn files hive of held → top GREATEST_NUMBER of.journal < held.1 → ⊥
    never_ahead held is above = absurd (omega (arith, above, r.not_above, ap (top GREATEST_NUMBER) journal_is, ap (λ (x : TreeMap × ℕ). x.1) (held_is held is)))

    leads_somewhere : (held : TreeMap × ℕ) → HoldsIn files hive of held → replayed_on of.journal hive held ≡ None → ⊥
    leads_somewhere held is none = none-some tree (sym none ∙ leads_in held is)

    outcomes_right : (held : TreeMap × ℕ) → HoldsIn files hive of held → of.store.hives ≤ hive → (its : TreeMap) → replayed_on of.journal hive held ≡ Some its → are_outcomes (top GREATEST_NUMBER of.journal) its ≡ false → ⊥
    outcomes_right held is unnamed its leads wrong =
        let same : tree ≡ its = same_Some tree its (sym (leads_in held is) ∙ leads) in
        not_both (are_outcomes (top GREATEST_NUMBER of.journal) its)
        (subst (λ (t : TreeMap). are_outcomes (top GREATEST_NUMBER of.journal) t ≡ true) same
        (subst (λ (j : Content TimedOp). are_outcomes (top GREATEST_NUMBER j) tree ≡ true) journal_is (r.outcomes (omega (arith, unnamed, ap (λ (s : Store). s.hives) which))))) wrong

  pub refused_none : (files : ℕ → List ℕ) (hive : ℕ) (why : Refusal) → HiveIsWrong files hive why → (store : Store) (tree : TreeMap) → RecoversHive files store hive tree → ⊥
  refused_none files hive (refusal.HiveDamaged its cause) (is, inl (of, none)) store tree r = none.none _ (holds_in files store hive tree r of)
  refused_none files hive (refusal.HiveDamaged its cause) (is, inr (bad, inl (of, held, holds, above))) store tree r = never_ahead files store hive tree r of held holds above
  refused_none files hive (refusal.HiveDamaged its cause) (is, inr (bad, inr w)) store tree r = outcomes_right files store hive tree r w.of w.held w.holds w.unnamed w.tree w.leads w.wrong
  refused_none files hive refusal.Unsupported (of, none) store tree r = none.none _ (holds_in files store hive tree r of)
  refused_none files hive refusal.JournalDamaged (inl none) store tree r = none-some r.journal (sym (none store r.store_is) ∙ r.decodes)
  refused_none files hive refusal.JournalDamaged (inr (of, held, holds, none)) store tree r = leads_somewhere files store hive tree r of held holds none
  refused_none files hive _ is store tree r = absurd is

  pub same_tree : (files : ℕ → List ℕ) (a b : Store) (hive : ℕ) (t u : TreeMap) → RecoversHive files a hive t → RecoversHive files b hive u → (a ≡ b) × (t ≡ u)
  same_tree files a b hive t u r s =
      let of : IsInStore files hive = record { store = b; journal = s.journal; store_is = s.store_is; decodes = s.decodes; there = s.there } in
      (which files a hive t r of, same_Some t u (sym (leads_in files a hive t r of s.held s.holds) ∙ s.leads))

  pub of_the_store : (files : ℕ → List ℕ) (store : Store) (number : ℕ) (trees : List TreeMap) → IsRecovered files store number trees → (hive : ℕ) (tree : TreeMap) → slice_get trees hive ≡ Some tree → RecoversHive files store hive tree
  of_the_store files store number trees r hive tree at =
      let within = slice_get_within trees hive tree at in
      let there : hive < all_hives store = omega (arith, within, r.many) in
      let e = r.recovers.each hive there in
      let is : tree_of trees hive ≡ tree = same_Some (tree_of trees hive) tree (sym (slice_get-get_or trees hive fresh_tree within) ∙ at) in
      let low = not_above_last _ (all_hives store) r.recovers.journal.below number r.recovers.journal.elements r.recovers.last r.recovers.limit in
      record {
        store_is = r.store_is;
        there = there;
        journal = r.recovers.journal;
        decodes = r.recovers.decoded;
        held = e.held;
        holds = e.holds_it;
        not_above = omega (arith, e.not_above, low);
        leads = sym (same_replay store.hives (law.ops_on hive (above e.held.1 r.recovers.journal)) e.held.0) ∙ e.replayed ∙ ap Some is;
        outcomes = λ unnamed. later_outcomes number (top GREATEST_NUMBER r.recovers.journal) low tree
            (subst (λ (t : TreeMap). are_outcomes number t ≡ true) is (outcomes_allowed store.hives number hive (tree_of trees hive) unnamed e.allowed));
      }

  pub alone_in_store : (files : ℕ → List ℕ) (store other : Store) (number : ℕ) (trees : List TreeMap) → IsRecovered files store number trees → (hive : ℕ) (tree : TreeMap) → RecoversHive files other hive tree → slice_get trees hive ≡ Some tree
  alone_in_store files store other number trees r hive tree s =
      let same : store ≡ other = one_store (files journal_file) store other r.recovers.journal s.journal r.store_is s.store_is r.recovers.decoded s.decodes in
      let at = slice_get-get_or trees hive fresh_tree (omega (arith, s.there, r.many, ap (λ (x : Store). all_hives x) same)) in
      at ∙ ap Some (same_tree files store other hive (tree_of trees hive) tree (of_the_store files store number trees r hive (tree_of trees hive) at) s).1

-- what is wrong with one hive is wrong with a store
pub as_of_store : (files : ℕ → List ℕ) (hive : ℕ) (why : Refusal) → HiveIsWrong files hive why → IsWrong files why
as_of_store files hive (refusal.HiveDamaged its cause) (is, inl none) = inl (subst (λ n. HoldsNothing files n (refusal.HiveDamaged n cause)) (sym is) none)
as_of_store files hive (refusal.HiveDamaged its cause) (is, inr (bad, inl ahead)) = inr (bad, inl (subst (IsAhead files) (sym is) ahead))
as_of_store files hive (refusal.HiveDamaged its cause) (is, inr (bad, inr outcomes)) = inr (bad, inr (inl (subst (OutcomesAreWrong files) (sym is) outcomes)))
as_of_store files hive refusal.Unsupported none = (hive, none)
as_of_store files hive refusal.JournalDamaged (inl none) = inl none
as_of_store files hive refusal.JournalDamaged (inr nowhere) = inr (hive, nowhere)
as_of_store files hive _ is = absurd is

pub alike_recover : (files others : ℕ → List ℕ) (store : Store) (hive : ℕ) (tree : TreeMap) → AreAlike files others hive → RecoversHive files store hive tree → RecoversHive others store hive tree
alike_recover files others store hive tree alike r = record {
  store_is = r.store_is;
  there = r.there;
  journal = r.journal;
  decodes = ap (decoded (encodings store)) alike.journal ∙ r.decodes;
  held = r.held;
  holds = subst (λ (p : List ℕ). HiveFilesHold store.id p (others (log_file hive)) r.held) (sym alike.primary)
      (subst (λ (l : List ℕ). HiveFilesHold store.id (files (primary_file hive)) l r.held) (sym alike.log) r.holds);
  not_above = r.not_above;
  leads = r.leads;
  outcomes = r.outcomes;
}
