use Rattle.std.proofs.Common.{◌≡◌, ◌∙◌, ap, sym, subst, ℕ, refl, slice_get}
use Rattle.store_model.specs.Steps.{Step}
use Rattle.store_model.specs.Machine.{Machine}
use Rattle.store_model.specs.declared.event.Event.TheVariants as event
use Rattle.engine_invariant.specs.Answers.{reply_to}
use Rattle.crash_model.specs.StepAnswers.{Says}
use Rattle.crash_model.specs.Promises.{HiveSays}
use Rattle.hive_flush.specs.HiveStates.{FilesMatchHive, file_choice, memory_of, hive_number}
use Rattle.disk_model.specs.FileState.{FileState}
use Rattle.disk_model.specs.StoreFiles.{IsFileOfHive, primary_file, log_file}
use Rattle.engine.specs.EarlierChanges.{changes_before}
use Rattle.recovery.specs.Retained.{numbered_changes}
use Rattle.engine.specs.Events.{PartsStep}
use Rattle.engine.proofs.Sound.{at_place, flush_sound}
use Rattle.engine.proofs.Frames.{any_call, has_failed, step_opens, works_else, quiet_by, flush_still}
use Rattle.engine_invariant.proofs.HiveLists.{get_other, hive_writes, view_at}
use Rattle.engine_invariant.specs.Prefixes.{view_of}
use Rattle.engine.specs.declared.parts.Parts.{Parts}
use Rattle.engine.proofs.Advancing.{writes_at, writes_on}
use Rattle.std.proofs.lemmas.List.{length-set}
use Rattle.engine.proofs.RetainedChanges.{hand_flushes}
use Rattle.engine.proofs.Namings.{naming_flushes}
use Rattle.engine.proofs.Taking.{flush_goes}
use Rattle.engine.proofs.parts.Parts.flush_call.Goals as goal

pub returns-clause-continues : goal.returns-clause-continues
returns-clause-continues g c =
    let s = c.args.self.now in
    let call = c.step-come.ensures in
    let is = at_place s.hives.items c.args.place c.index_mut.result.now c.requires.there c.index_mut.ensures.value in
    let its : hive_number c.index_mut.result.now ≡ c.args.place = c.requires.sound.holds.placed.place c.args.place c.index_mut.result.now is in
    let goes = flush_goes s.store s.base (changes_before s.earlier) s.journal s.hives.items c.requires.sound.holds c.requires.works c.args.place c.index_mut.result.now is c.hive_steps_keep.ensures.step c.step-come.new.self c.step-come.result
    call.memory call.faulted call.says in
    let old : ℕ → FileState = g.D.Disk.state_at s.disk (g.D.Disk.clock s.disk) in
    let new : ℕ → FileState = g.D.Disk.state_at c.step-come.new.disk (g.D.Disk.clock c.step-come.new.disk) in
    subst (λ p. PartsStep g.D.Disk.state_at g.D.Disk.clock g.D.Disk.failures g.D.Disk.faithful (event.FlusherStep c.args.place) (reply_to c.step-come.result) s p) (sym c.note_fault.ensures.rest) (record {
      step = subst (λ (m : Machine). Step s.store.machine (event.FlusherStep c.args.place) (reply_to c.step-come.result) m) (sym c.note_fault.ensures.machine) goes.0;
      sound = record {
        holds = flush_sound s.store c.note_fault.new.self.store s.base (changes_before s.earlier) s.journal s.hives.items c.args.place c.index_mut.result.now c.step-come.new.self c.step-come.result c.requires.sound.holds c.requires.works is goes.1
            call.place call.store call.whole call.broken.0 c.note_fault.ensures.machine;
        last_changes = naming_flushes s.store.machine c.note_fault.new.self.store.machine s.base (changes_before s.earlier) s.last_changes.last.items c.step-come.result c.note_fault.ensures.machine c.requires.sound.last_changes;
        named = c.requires.sound.named ∙ sym (length-set s.hives.items c.args.place c.step-come.new.self);
        retained = hand_flushes s.store c.note_fault.new.self.store s.base (changes_before s.earlier) (numbered_changes s.opened) s.hives.items c.args.place c.index_mut.result.now c.step-come.new.self c.step-come.result is call.memory c.note_fault.ensures.machine c.note_fault.ensures.retained c.requires.sound.retained;
      };
      on_disk = λ f on. hive_writes s.journal s.hives.items c.args.place c.index_mut.result.now c.step-come.new.self old new is on
          (λ file none. call.call.others file (λ own. none (subst (λ n. IsFileOfHive n file) its own)))
          (subst (λ n. FilesMatchHive c.step-come.new.self (new (primary_file n)) (new (log_file n))) its (call.on f (subst (λ n. FilesMatchHive c.index_mut.result.now (old (primary_file n)) (old (log_file n))) (sym its) (on.each c.args.place c.index_mut.result.now is))));
      store = refl;
      call = any_call (IsFileOfHive (hive_number c.index_mut.result.now)) _ _ _ _ call.call;
      quiet = quiet_by (event.FlusherStep c.args.place) c.step-come.result _ _ refl (λ e. absurd (subst (λ r. Says (HiveSays (memory_of c.index_mut.result.now)) r (file_choice c.index_mut.result.now) (file_choice c.step-come.new.self)) e call.says)) (flush_still c.step-come.result _ _ call.refused (λ e. (call.no_change (call.faulted.0 e)).1));
      failed = has_failed c.step-come.result _ _ call.failures;
      works = works_else c.step-come.result _ _ call.failures;
      faithful = call.faithful;
      life = (refl, sym (step_opens c.step-come.result (changes_before s.earlier) s.store.machine.accepted));
      journal_stays = λ nj nt. refl;
      hives_stay = λ i no. get_other s.hives.items c.args.place i c.step-come.new.self (λ e. no (ap event.FlusherStep (sym e)));
    })

pub returns-clause-flushes : goal.returns-clause-flushes
returns-clause-flushes g c = λ was then at there made.
    let s = c.args.self.now in
    let call = c.step-come.ensures in
    let old = c.index_mut.result.now in
    let is = at_place s.hives.items c.args.place old c.requires.there c.index_mut.ensures.value in
    writes_at s.hives.items c.args.place (reply_to c.step-come.result) old c.step-come.new.self was then is at
    (sym (ap (λ (p : Parts _). slice_get p.hives.items c.args.place) c.note_fault.ensures.rest) ∙ there) c.requires.there
    (writes_on old c.step-come.new.self c.step-come.result call.says call.memory (c.requires.sound.holds.kept.own c.args.place (view_of old) (view_at s.hives.items c.args.place old is)) call.few call.falls call.left call.pages made)
