use Rattle.std.proofs.Common.{◌≡◌, ◌≤◌, ◌++◌, length}
use Rattle.std.specs.Prelude.{vec_capacity}
use Rattle.store_model.specs.Steps.{Run}
use Rattle.commit_journal.specs.Journals.{store_of}
use Rattle.engine_invariant.specs.Prefixes.{AreOnDisk, IsSafeAt}
use Rattle.engine_invariant.specs.Runs.{AnswersInTurn, RunsSafely}
use Rattle.engine.specs.Events.{parts_view}
use Rattle.engine.specs.Parts.{IsSound}
use Rattle.engine.proofs.parts.Parts.run.Given as goal

abbrev pub invariant-loop-event : goal.invariant-loop-event
invariant-loop-event g l = record {
  sound : IsSound l.self;
  on_disk : g.D.Disk.faithful l.self.disk → AreOnDisk l.self.journal l.self.hives.items (g.D.Disk.state_at l.self.disk (g.D.Disk.clock l.self.disk));
  store : store_of l.self.journal ≡ store_of l.fn.self.journal;
  run : Run l.fn.self.store.machine l.yielded l.replies.items l.self.store.machine;
  safely : g.D.Disk.faithful l.self.disk → RunsSafely (IsSafeAt (store_of l.fn.self.journal) (g.D.Disk.state_at l.self.disk)) (parts_view g.D.Disk.clock g.D.Disk.failures l.fn.self) l.yielded l.replies.items (parts_view g.D.Disk.clock g.D.Disk.failures l.self);
  answers : AnswersInTurn (parts_view g.D.Disk.clock g.D.Disk.failures l.fn.self) l.yielded l.replies.items (parts_view g.D.Disk.clock g.D.Disk.failures l.self);
  faithful : g.D.Disk.faithful l.self.disk → g.D.Disk.faithful l.fn.self.disk;
  parts : l.yielded ++ l.event-iterator.rest.items ≡ l.fn.events.items;
  room : length l.fn.events.items ≤ vec_capacity l.replies;
}
