use Rattle.std.proofs.Common.{◌∙◌, ℕ, List, sym, ap, subst, arith, slice_get}
use Rattle.hive_flush.specs.declared.hive.HiveFile.{HiveFile}
use Rattle.store_model.specs.Machine.{Machine}
use Rattle.engine.specs.EarlierChanges.{changes_before}
use Rattle.recovery.specs.Retained.{numbered_changes}
use Rattle.engine.specs.LastChangePerHive.{AreLastNaming}
use Rattle.engine.proofs.Sound.{told_sound}
use Rattle.engine.proofs.RetainedChanges.{hand_lets_go}
use Rattle.engine.proofs.parts.Parts.discard_flushed.Goals as goal

pub returns-clause-sound : goal.returns-clause-sound
returns-clause-sound g c =
    let s = c.args.self.now in
    let t = c.discard_flushed.new.self in
    let same = c.discard_flushed.ensures.machine in
    record {
      holds = told_sound s.store t s.base (changes_before s.earlier) s.journal s.hives.items same c.requires.sound.holds;
      last_changes = subst (λ (m : Machine). AreLastNaming m s.base (changes_before s.earlier) s.last_changes.last.items) (sym same) c.requires.sound.last_changes;
      named = c.requires.sound.named;
      retained = hand_lets_go s.store t s.base (changes_before s.earlier) (numbered_changes s.opened) (numbered_changes c.discard_to.new.self) s.hives.items s.last_changes.last.items c.flushed_by_all-held.result same c.discard_flushed.ensures.retained
          c.discard_to.ensures (omega (arith, c.flushed_by_all-held.ensures.high, c.durable-durable.ensures.durable)) c.requires.sound.named c.requires.sound.last_changes
          (λ i m hive there named. c.flushed_by_all-held.ensures.held i m hive (ap (λ (l : List HiveFile). slice_get l i) c.deref.ensures.value ∙ there) (ap (λ (l : List ℕ). slice_get l i) c.deref-2.ensures.value ∙ named)) c.requires.sound.retained;
    }
