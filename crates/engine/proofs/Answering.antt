-- An engine answers as its parts do.
use Rattle.std.proofs.Common.{◌≡◌, ap, ℕ, false, map}
use Rattle.disk_model.specs.FileState.{FileState}
use Rattle.store_model.specs.declared.event.Event.{Event}
use Rattle.store_model.specs.declared.event.Reply.{Reply}
use Rattle.engine.specs.EarlierChanges.{changes_before}
use Rattle.commit_journal.specs.Journals.{choice_of, steps_left}
use Rattle.commit_journal.specs.declared.journal.Journal.{Journal}
use Rattle.engine_invariant.specs.Engines.{EngineAnswers}
use Rattle.engine_invariant.specs.Idle.{IdlesExactly}
use Rattle.engine_invariant.specs.Prefixes.{view_of}
use Rattle.engine_invariant.specs.Progress.{flush_of}
use Rattle.engine.specs.Events.{StepAdvances, PartsStep, parts_view}
use Rattle.engine.specs.declared.parts.Parts.{Parts}
use Rattle.engine.proofs.Advancing.{seen_same, steps_seen}

pub answered : {D : Type 0} (states : D → ℕ → ℕ → FileState) (clock failures : D → ℕ) (is_faithful : D → Type 0) (event : Event) (answer : Reply) (old new : Parts D) → PartsStep states clock failures is_faithful event answer old new → StepAdvances event answer old new
    → (old.store.machine.faulted ≡ false → IdlesExactly event answer old.store.machine old.base (changes_before old.earlier) (choice_of old.journal) (map view_of old.hives.items))
    → EngineAnswers event answer (parts_view clock failures old) (parts_view clock failures new)
answered {D = D} states clock failures is_faithful event answer old new on comes idle = record {
  step = on.step;
  later = on.call.later;
  one = on.call.one;
  quiet = λ q. ap clock (on.quiet q);
  failed = on.failed;
  works = on.works;
  idle = idle;
  nears_durable = comes.nears_durable;
  begins_trim = comes.begins_trim;
  ends_trim = comes.ends_trim;
  flushes = λ i was then before after is made not_idle at before_at there after_at.
      steps_seen old.hives.items new.hives.items i old.store.machine.durable answer was then before after at before_at there after_at (λ x y. comes.flushes i x y is made not_idle);
  life = on.life;
  journal_stays = λ nj nt. let same = on.journal_stays nj nt in (ap (λ (j : Journal). choice_of j) same, ap (λ (j : Journal). steps_left j) same);
  hives_stay = λ i no. let same = on.hives_stay i no in (seen_same view_of new.hives.items old.hives.items i same, seen_same flush_of new.hives.items old.hives.items i same);
}
