-- Changes that were read of a journal are those that its store's opening recovered from.
use Rattle.std.proofs.Common.{◌≡◌, inl, inr, ℕ, ◌+◌, ◌-◌, ◌≤◌, ◌<◌, List, [], ◌∷◌, ◌++◌, length, drop, Some, refl, sym, ◌∙◌, ap, subst, arith}
use Rattle.std.specs.List.{AllByRecursion}
use Rattle.std.proofs.lemmas.Bool.{cases_lt}
use Rattle.std.proofs.lemmas.List.{length-map}
use Rattle.std.proofs.lemmas.Option.{same_Some}
use Rattle.reg_tree.specs.Maps.{TreeMap}
use Rattle.reg_tree.specs.declared.element.Element.{Element}
use Rattle.crash_model.specs.Changes.{applied, replay}
use Rattle.crash_model.specs.Changes as law
use Rattle.crash_model.specs.Files.{HiveRecovers, IsLastNumberOf}
use Rattle.crash_model.specs.Promises.{Content}
use Rattle.crash_model.proofs.Replays.{replay_back, replay_front}
use Rattle.disk_model.specs.StoreFiles.{primary_file, log_file, journal_file}
use Rattle.change_codec.specs.Encoding.{Fits}
use Rattle.change_codec.specs.ModelChanges.{TimedOp, timed_element, timed_elements, tree_rules}
use Rattle.commit_journal.specs.Encoding.{decoded}
use Rattle.commit_journal.specs.Store.{Store, all_hives, encodings}
use Rattle.engine_invariant.specs.Prefixes.{Holds}
use Rattle.engine_invariant.specs.Rules.{rules}
use Rattle.engine_invariant.specs.States.{tree_of}
use Rattle.engine_invariant.proofs.Rules.{same_replay}
use Rattle.recovery.specs.Recovered.{IsRecovered}
use Rattle.store_changes.specs.Followed.{JournalHolds, ChangesLeadTo, changes_after, changes_up_to, ops_of}
use Rattle.store_changes.proofs.Operations.{ops_above, ops_in_parts}

-- what a journal decodes to that has these changes after a number
abbrev content : ℕ → List Element → Content TimedOp
content below changes = record { below = below; elements = timed_elements changes }

-- some files of a hive hold this number
abbrev HasNumber : Store → (ℕ → List ℕ) → ℕ → ℕ → Type 0
HasNumber store files i k = (t : TreeMap) × Holds store (files (primary_file i)) (files (log_file i)) (t, k)

last_is : (has : ℕ → ℕ → Type 0) (hives number below : ℕ) (changes : List Element) → IsLastNumberOf has hives below (timed_elements changes) number → 0 < length changes → number ≡ below + length changes
last_is has hives number below [] last some = absurd (omega (arith, some))
last_is has hives number below (x ∷ xs) last some = last ∙ ap (λ n. below + n) (length-map (x ∷ xs) timed_element)

lead_to : (store : Store) (files : ℕ → List ℕ) (base below number : ℕ) (changes : List Element) (after hive : ℕ) (tree : TreeMap) → (0 < length changes → base ≡ below)
    → HiveRecovers (rules store.hives) (Holds store (files (primary_file hive)) (files (log_file hive))) (content below changes) hive number tree → ChangesLeadTo store files base changes after hive tree
lead_to store files base below number changes after hive tree first r = record {
  held = r.held;
  holds = r.holds_it;
  lead = λ le.
      let own = r.held.0 in
      let front = ops_of hive (changes_up_to after r.held.1 base changes) in
      let back = ops_of hive (changes_after after base changes) in
      let all : front ++ back ≡ law.ops_on hive (drop (r.held.1 - below) (timed_elements changes)) = sym (ops_in_parts hive after r.held.1 base changes le) ∙ ops_above hive r.held.1 base below changes first in
      let whole : replay tree_rules (front ++ back) own ≡ Some tree = ap (λ (ops : List TimedOp). replay tree_rules ops own) all ∙ sym (same_replay store.hives (law.ops_on hive (drop (r.held.1 - below) (timed_elements changes))) own) ∙ r.replayed in
      (applied tree_rules front own, replay_front tree_rules front back own tree whole, replay_back tree_rules front back own tree whole);
}

-- An opening recovered a number and trees from files. Changes were read of the journal, as one of some store. They are those
-- that the trees were recovered with.
module _ (files : ℕ → List ℕ) (store other : Store) (number : ℕ) (trees : List TreeMap) (changes : List Element) (read : Content TimedOp)
    (recovered : IsRecovered files store number trees) (same_store : other ≡ store) (reads : decoded (encodings other) (files journal_file) ≡ Some read)
    (read_is : read ≡ content read.below changes) where
  here : decoded (encodings store) (files journal_file) ≡ Some (content read.below changes)
  here = subst (λ s. decoded (encodings s) (files journal_file) ≡ Some read) same_store reads ∙ ap (λ (c : Content TimedOp). Some c) read_is

  found : recovered.recovers.journal ≡ content read.below changes
  found = same_Some recovered.recovers.journal (content read.below changes) (sym recovered.recovers.decoded ∙ here)

  last : 0 < length changes → number ≡ read.below + length changes
  last = last_is (HasNumber store files) (all_hives store) number read.below changes (subst (λ (c : Content TimedOp). IsLastNumberOf (HasNumber store files) (all_hives store) c.below c.elements number) found recovered.recovers.last)

  pub enough : length changes ≤ number
  enough = elim (cases_lt 0 (length changes)) as (λ z. length changes ≤ number) [
    | inl some ↦ omega (arith, last some)
    | inr none ↦ omega (arith, none)
  ]

  pub holds : (base : ℕ) → base + length changes ≡ number → AllByRecursion (Fits (all_hives other)) changes → JournalHolds files store base changes
  holds base is fit =
      let first : 0 < length changes → base ≡ read.below = (λ some. omega (arith, is, last some)) in
      record {
        trees = trees;
        recovered = subst (λ n. IsRecovered files store n trees) (sym is) recovered;
        below = read.below;
        decodes = here;
        first = first;
        fit = subst (λ s. AllByRecursion (Fits (all_hives s)) changes) same_store fit;
        lead = λ after hive le there. lead_to store files base read.below number changes after hive (tree_of trees hive) first
            (subst (λ (c : Content TimedOp). HiveRecovers (rules store.hives) (Holds store (files (primary_file hive)) (files (log_file hive))) c hive number (tree_of trees hive)) found (recovered.recovers.each hive there));
      }
