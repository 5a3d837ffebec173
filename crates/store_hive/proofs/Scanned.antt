-- What the changes of a journal, replayed as they are scanned, make of one hive's tree.
use Rattle.std.proofs.Common.{◌≡◌, inl, inr, ℕ, ◌<◌, List, ◌∷◌, [], ◌++◌, map, refl, sym, ◌∙◌, ap, subst, Option, Some, None}
use Rattle.std.specs.Prelude.{nat_lt}
use Rattle.std.specs.List.{filter}
use Rattle.std.proofs.lemmas.List.{map-append}
use Rattle.std.proofs.lemmas.List.Elements.{filter-append}
use Rattle.std.proofs.lemmas.Option.{none-some}
use Rattle.refusals.specs.declared.refusal.Refusal.TheVariants as refusal
use Rattle.reg_tree.specs.declared.element.Element.{Element}
use Rattle.crash_model.specs.Changes as law
use Rattle.crash_model.specs.Changes.{ops_on, replay}
use Rattle.crash_model.specs.Promises.{Content}
use Rattle.crash_model.specs.Recovery.{above}
use Rattle.crash_model.proofs.Replays.{ops_on-append, replay_on}
use Rattle.disk_model.specs.StoreFiles.{primary_file, log_file, journal_file}
use Rattle.change_codec.specs.ModelChanges.{TimedOp, tree_rules, timed_elements}
use Rattle.commit_journal.specs.Encoding.{decoded}
use Rattle.commit_journal.specs.Numbered.{NumberedChange, numbered, changes_in, timed_changes}
use Rattle.commit_journal.specs.Scans.{JournalBegins}
use Rattle.commit_journal.specs.Store.{Store, IsStore, all_hives, encodings}
use Rattle.engine_invariant.specs.Prefixes.{Holds}
use Rattle.recovery.specs.Reading.{IsOnlyStore, replayed_on}
use Rattle.recovery.specs.Replays.{ops_lacked}
use Rattle.recovery.specs.ReplayLaws.{lacked_append}
use Rattle.recovery.specs.Retained.{above_number}
use Rattle.recovery.proofs.Replays.{nowhere_on}
use Rattle.store_hive.specs.RefusedHives.{HiveIsWrong}
use Rattle.store_hive.specs.Replays.{ReplaysOnHive}
use Rattle.store_hive.specs.declared.hive_replay.HiveReplay.{HiveReplay}
use Rattle.store_hive.proofs.Lacked.{content_with, items_above, items_numbered, items_timed, ops_numbered}

module _ (begin after : HiveReplay) (taken : List NumberedChange) (took : ReplaysOnHive begin after taken) where
  -- all changes of a journal were replayed
  pub led : (base : ℕ) (es : List Element) → taken ≡ numbered base es → replayed_on (content_with base es) begin.hive (begin.tree, begin.number) ≡ Some after.tree
  led base es all =
      ap (λ (ops : List TimedOp). replay tree_rules ops begin.tree) (sym (ops_numbered begin.hive begin.number base es) ∙ ap (ops_lacked begin.hive begin.number) (sym all))
      ∙ took.tree

  -- a change that isn't replayed leads nowhere
  nowhere : (s : Content TimedOp) (change : NumberedChange) (more : List (ℕ × law.Element TimedOp)) → numbered s.below s.elements ≡ timed_changes (taken ++ change ∷ []) ++ more
      → replay tree_rules (ops_lacked after.hive after.number (change ∷ [])) after.tree ≡ None → replayed_on s begin.hive (begin.tree, begin.number) ≡ None
  nowhere s change more front none =
      let i = begin.hive in
      let k = begin.number in
      let illegal : replay tree_rules (ops_lacked i k (change ∷ [])) after.tree ≡ None
      = subst (λ n. replay tree_rules (ops_lacked n k (change ∷ [])) after.tree ≡ None) took.hive (subst (λ n. replay tree_rules (ops_lacked after.hive n (change ∷ [])) after.tree ≡ None) took.number none) in
      let first : replay tree_rules (ops_lacked i k (taken ++ change ∷ [])) begin.tree ≡ None
      = ap (λ (ops : List TimedOp). replay tree_rules ops begin.tree) (lacked_append i k taken (change ∷ []))
      ∙ replay_on tree_rules (ops_lacked i k taken) (ops_lacked i k (change ∷ [])) begin.tree after.tree took.tree ∙ illegal in
      let parts : above k s ≡ timed_elements (changes_in (above_number k (taken ++ change ∷ []))) ++ items_above k more
      = sym (items_numbered k s.below s.elements) ∙ ap (items_above k) front
      ∙ ap (map (λ (c : ℕ × law.Element TimedOp). c.1)) (filter-append (λ (c : ℕ × law.Element TimedOp). nat_lt k c.0) (timed_changes (taken ++ change ∷ [])) more)
      ∙ map-append (λ (c : ℕ × law.Element TimedOp). c.1) (filter (λ (c : ℕ × law.Element TimedOp). nat_lt k c.0) (timed_changes (taken ++ change ∷ []))) (filter (λ (c : ℕ × law.Element TimedOp). nat_lt k c.0) more)
      ∙ ap (λ (l : List (law.Element TimedOp)). l ++ items_above k more) (items_timed k (taken ++ change ∷ [])) in
      ap (λ (l : List (law.Element TimedOp)). replay tree_rules (ops_on i l) begin.tree) parts
      ∙ ap (λ (ops : List TimedOp). replay tree_rules ops begin.tree) (ops_on-append i (timed_elements (changes_in (above_number k (taken ++ change ∷ [])))) (items_above k more))
      ∙ nowhere_on tree_rules (ops_lacked i k (taken ++ change ∷ [])) (ops_on i (items_above k more)) begin.tree first

  module _ (files : ℕ → List ℕ) (store : Store) (is : IsStore store) (there : begin.hive < all_hives store) (only : IsOnlyStore (files journal_file) store)
      (holds : Holds store (files (primary_file begin.hive)) (files (log_file begin.hive)) (begin.tree, begin.number)) where
    pub wrong : (change : NumberedChange) → JournalBegins (files journal_file) (taken ++ change ∷ [])
        → replay tree_rules (ops_lacked after.hive after.number (change ∷ [])) after.tree ≡ None → HiveIsWrong files begin.hive refusal.JournalDamaged
    wrong change begin_with none = by_decoded (decoded (encodings store) (files journal_file)) refl
      where
        by_decoded : (o : Option (Content TimedOp)) → decoded (encodings store) (files journal_file) ≡ o → HiveIsWrong files begin.hive refusal.JournalDamaged
        by_decoded None e = inl (λ other its. by_other other its (decoded (encodings other) (files journal_file)) refl)
          where
            by_other : (other : Store) → IsStore other → (p : Option (Content TimedOp)) → decoded (encodings other) (files journal_file) ≡ p → p ≡ None
            by_other other its None d = refl
            by_other other its (Some s) d = absurd (none-some s (sym e ∙ ap (λ (x : Store). decoded (encodings x) (files journal_file)) (sym (only other s its d)) ∙ d))
        by_decoded (Some s) e =
            let b = begin_with store is s e in
            inr (record { store = store; journal = s; store_is = is; decodes = e; there = there }, (begin.tree, begin.number), holds, nowhere s change b.0 b.1 none)
