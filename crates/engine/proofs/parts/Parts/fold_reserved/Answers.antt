use Rattle.std.proofs.Common.{◌++◌, ◌∙◌, List, map, refl, sym, ap, subst, arith}
use Rattle.refusals.specs.declared.refusal.Refusal.TheVariants.{Faulted}
use Rattle.reg_tree.specs.declared.element.Element.{Element}
use Rattle.store_model.specs.Machine.{Machine, refused_if}
use Rattle.store_model.specs.Steps.{Step}
use Rattle.store_model.specs.declared.event.Event.TheVariants as event
use Rattle.store_model.specs.declared.event.Reply.TheVariants as reply
use Rattle.commit_journal.specs.Journals.{choice_of}
use Rattle.commit_journal.specs.Numbered.{numbered}
use Rattle.recovery.specs.Retained.{numbered_changes}
use Rattle.engine_invariant.specs.Prefixes.{view_of}
use Rattle.engine.specs.EarlierChanges.{changes_before}
use Rattle.engine.specs.LastChangePerHive.{AreLastNaming}
use Rattle.engine.specs.Parts.{AreSound}
use Rattle.engine.specs.RetainedChanges.{RetainsWhatHivesLack}
use Rattle.engine.proofs.Folding.{naming_folds, retained_folds}
use Rattle.engine.proofs.parts.Parts.fold_reserved.Goals as goal

pub returns-clause-continues : goal.returns-clause-continues
returns-clause-continues g c =
    let s = c.args.self.now in
    let m = s.store.machine in
    let t = c.fold-recent.new.self in
    let number = c.last_number-number.result in
    let opened = changes_before s.earlier in
    let old = numbered_changes s.opened in
    let recent = c.fold-recent.result.items in
    let sound = c.requires.sound in
    let next = c.fold-recent.ensures.machine in
    let step : Step m event.Fold (reply.Folded number) t.machine = record {
      free = ap (λ b. refused_if b Faulted) c.requires.works;
      all_durable = c.requires.all_durable;
      told = c.last_number-number.ensures.number;
      next = next;
    } in
    let earlier = c.with-earlier.ensures in
    record {
      step = step;
      sound = record {
        holds = subst (λ (l : List Element). AreSound t s.base l s.journal s.hives.items) (sym earlier) (record {
          kept = c.folds_keep.ensures m t.machine number s.base opened (choice_of s.journal) (map view_of s.hives.items) sound.holds.kept step;
          placed = sound.holds.placed;
          some = sound.holds.some;
          many = sound.holds.many;
          named = ap (λ (m : Machine). m.bounds.hives) next ∙ sound.holds.named;
          whole = sound.holds.whole;
          journal_works = λ free. sound.holds.journal_works c.requires.works;
          hives_work = λ free. sound.holds.hives_work c.requires.works;
        });
        last_changes = subst (λ (l : List Element). AreLastNaming t.machine s.base l s.last_changes.last.items) (sym earlier) (naming_folds m t.machine s.base opened s.last_changes.last.items next sound.last_changes);
        named = sound.named;
        retained = subst (λ (l : List Element). RetainsWhatHivesLack t s.base l (numbered_changes c.append_reserved.new.self) s.hives.items) (sym earlier)
            (retained_folds s.store t s.base opened recent old (numbered_changes c.append_reserved.new.self) s.hives.items sound.holds.kept.begun c.requires.all_durable sound.holds.kept.kept.within.known sound.holds.kept.kept.history
            next c.fold-recent.ensures.retained c.fold-recent.ensures.changes (c.append_reserved.ensures ∙ ap (λ n. old ++ numbered n recent) c.retained-retained.ensures) sound.retained);
      };
      on_disk = λ f on. on;
      store = refl;
      call = record { later = omega arith; one = omega arith; past = λ k f le. refl; others = λ f none. refl };
      quiet = λ q. refl;
      failed = λ told. absurd cc;
      works = λ other. refl;
      faithful = λ f. f;
      life = (refl, earlier);
      journal_stays = λ nj nt. refl;
      hives_stay = λ i no. refl;
    }
