use Rattle.std.proofs.Common.{◌∙◌, ap, sym, subst, length, List, [], ◌∷◌, ◌++◌, arith, refl, append_assoc, length-append}
use Rattle.store_model.specs.Steps.{Run}
use Rattle.store_model.specs.declared.event.Event.{Event}
use Rattle.store_model.specs.declared.event.Reply.{Reply}
use Rattle.commit_journal.specs.Store.{Store}
use Rattle.engine.specs.EarlierChanges.{changes_before}
use Rattle.commit_journal.specs.Journals.{store_of}
use Rattle.engine_invariant.specs.Prefixes.{IsSafeAt}
use Rattle.engine_invariant.specs.Runs.{AnswersInTurn, RunsSafely}
use Rattle.engine.specs.Events.{parts_view}
use Rattle.engine.proofs.Answering.{answered}
use Rattle.engine.proofs.RunLists.{run_on, run_long}
use Rattle.engine.proofs.parts.Parts.run.Goals as goal

pub push_reserved-requires : goal.push_reserved-requires
push_reserved-requires g c =
    let long = run_long _ _ _ _ c.loop-event.invariant.run in
    let parts = ap length (sym c.loop-event.invariant.parts ∙ ap (λ (l : List Event). c.loop-event.yielded ++ l) c.in-Some.ensures.steps.0) in
    omega (arith, long, parts, c.loop-event.invariant.room, length-append {A = Event})

pub loop-event-init : goal.loop-event-init
loop-event-init g c = let s = c.args.self.now in record {
  sound = c.requires.sound;
  on_disk = c.requires.on_disk;
  store = refl;
  run = subst (λ (l : List Reply). Run s.store.machine [] l s.store.machine) (sym c.in_ok-replies.ensures.items) refl;
  safely = λ f. subst (λ (l : List Reply). RunsSafely (IsSafeAt (store_of s.journal) (g.D.Disk.state_at s.disk)) (parts_view g.D.Disk.clock g.D.Disk.failures s) [] l (parts_view g.D.Disk.clock g.D.Disk.failures s)) (sym c.in_ok-replies.ensures.items)
      (refl, c.crashes_leave_prefixes.ensures.safe (store_of s.journal) s.store.machine s.base (changes_before s.earlier) s.journal s.hives.items (g.D.Disk.state_at s.disk) (g.D.Disk.clock s.disk) c.requires.sound.holds.kept refl c.requires.sound.holds.named c.requires.sound.holds.placed (c.requires.on_disk f));
  answers = subst (λ (l : List Reply). AnswersInTurn (parts_view g.D.Disk.clock g.D.Disk.failures s) [] l (parts_view g.D.Disk.clock g.D.Disk.failures s)) (sym c.in_ok-replies.ensures.items) (refl, tt);
  faithful = λ f. f;
  parts = c.into_iter-event-iterator.ensures.into_iter_gives.0;
  room = omega (arith, c.in_ok-replies.ensures.capacity, c.len.ensures);
}

pub loop-event-preserved : goal.loop-event-preserved
loop-event-preserved g c = let l = c.loop-event in let i = l.invariant in let e = c.event-reply.ensures.continues in let n = c.event-reply.new.self in
    let told = answered g.D.Disk.state_at g.D.Disk.clock g.D.Disk.failures g.D.Disk.faithful c.in-Some.event c.event-reply.result l.self n e c.event-reply.ensures.advances c.event-reply.ensures.idle in record {
      sound = e.sound;
      on_disk = λ f. e.on_disk f (i.on_disk (e.faithful f));
      store = e.store ∙ i.store;
      run = subst (λ (x : List Reply). Run c.args.self.now.store.machine (l.yielded ++ c.in-Some.event ∷ []) x n.store.machine) (sym c.push_reserved.ensures.items)
          (run_on c.args.self.now.store.machine l.self.store.machine n.store.machine l.yielded l.replies.items c.in-Some.event c.event-reply.result i.run e.step);
      safely = λ f. subst (λ (x : List Reply). RunsSafely (IsSafeAt (store_of c.args.self.now.journal) (g.D.Disk.state_at n.disk)) (parts_view g.D.Disk.clock g.D.Disk.failures c.args.self.now) (l.yielded ++ c.in-Some.event ∷ []) x (parts_view g.D.Disk.clock g.D.Disk.failures n)) (sym c.push_reserved.ensures.items)
          (c.safe_runs_go_on.ensures.continues (store_of c.args.self.now.journal) (g.D.Disk.state_at l.self.disk) (g.D.Disk.state_at n.disk) (parts_view g.D.Disk.clock g.D.Disk.failures c.args.self.now) (parts_view g.D.Disk.clock g.D.Disk.failures l.self) (parts_view g.D.Disk.clock g.D.Disk.failures n)
          l.yielded l.replies.items c.in-Some.event c.event-reply.result (i.safely (e.faithful f)) e.call.past told
          (subst (λ (s : Store). IsSafeAt s (g.D.Disk.state_at n.disk) (g.D.Disk.clock n.disk) n.store.machine) (e.store ∙ i.store)
          (c.crashes_leave_prefixes.ensures.safe (store_of n.journal) n.store.machine n.base (changes_before n.earlier) n.journal n.hives.items (g.D.Disk.state_at n.disk) (g.D.Disk.clock n.disk) e.sound.holds.kept refl e.sound.holds.named e.sound.holds.placed (e.on_disk f (i.on_disk (e.faithful f))))));
      answers = subst (λ (x : List Reply). AnswersInTurn (parts_view g.D.Disk.clock g.D.Disk.failures c.args.self.now) (l.yielded ++ c.in-Some.event ∷ []) x (parts_view g.D.Disk.clock g.D.Disk.failures n)) (sym c.push_reserved.ensures.items)
          (c.safe_runs_go_on.ensures.answers (parts_view g.D.Disk.clock g.D.Disk.failures c.args.self.now) (parts_view g.D.Disk.clock g.D.Disk.failures l.self) (parts_view g.D.Disk.clock g.D.Disk.failures n) l.yielded l.replies.items c.in-Some.event c.event-reply.result i.answers told);
      faithful = λ f. i.faithful (e.faithful f);
      parts = append_assoc l.yielded (c.in-Some.event ∷ []) _ ∙ ap (λ (x : List Event). l.yielded ++ x) (sym c.in-Some.ensures.steps.0) ∙ i.parts;
      room = omega (arith, c.loop-event.invariant.room, c.push_reserved.ensures.capacity);
    }
