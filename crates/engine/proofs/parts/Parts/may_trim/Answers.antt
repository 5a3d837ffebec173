use Rattle.std.proofs.Common.{◌∙◌, inr, ℕ, List, sym, ap, slice_get}
use Rattle.std.proofs.lemmas.Bool.{true≢false}
use Rattle.engine.specs.EarlierChanges.{changes_before}
use Rattle.commit_journal.specs.Journals.{choice_of}
use Rattle.hive_flush.specs.declared.hive.HiveFile.{HiveFile}
use Rattle.engine.proofs.Idling.{no_trim, some_lacks}
use Rattle.engine.proofs.Journaling.{may_begin}
use Rattle.engine.proofs.parts.Parts.may_trim.Goals as goal

pub returns-clause-yes : goal.returns-clause-yes
returns-clause-yes g c = λ holds.
    let s = c.args.self.now in
    may_begin s.store.machine s.base (changes_before s.earlier) (choice_of s.journal) s.hives.items s.last_changes.last.items c.requires.sound.last_changes c.requires.sound.named (c.is_halfway.ensures.0 c.if-is_halfway.false) (λ none. c.if-last_number-eq0.false (c.last_number.ensures ∙ none))
    (λ i number hive there named. c.all_have.ensures.all holds i number hive (ap (λ (l : List HiveFile). slice_get l i) c.deref.ensures.value ∙ there) (ap (λ (l : List ℕ). slice_get l i) c.deref-2.ensures.value ∙ named))

pub returns-clause-no : goal.returns-clause-no
returns-clause-no g c = λ not.
    let s = c.args.self.now in
    let lacks = c.all_have.ensures.some not in
    record {
      no_trim = no_trim s.journal (λ trims. true≢false (sym (c.is_trimming.ensures.trims.1 trims) ∙ c.if-is_trimming.false)) (c.requires.sound.holds.journal_works c.requires.works);
      why = inr (inr (some_lacks s.store.machine s.base (changes_before s.earlier) s.last_changes.last.items c.requires.sound.last_changes s.hives.items (lacks.0, lacks.1, lacks.2, sym (ap (λ (l : List HiveFile). slice_get l lacks.0) c.deref.ensures.value) ∙ lacks.3, sym (ap (λ (l : List ℕ). slice_get l lacks.0) c.deref-2.ensures.value) ∙ lacks.4, lacks.5)));
    }
