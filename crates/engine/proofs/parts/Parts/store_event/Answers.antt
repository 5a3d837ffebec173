use Rattle.std.proofs.Common.{map, ◌∙◌, sym, subst, refl, arith}
use Rattle.std.proofs.lemmas.Bool.{true≢false}
use Rattle.store_model.specs.Steps.{Step}
use Rattle.engine.specs.EarlierChanges.{changes_before}
use Rattle.commit_journal.specs.Journals.{choice_of}
use Rattle.engine_invariant.specs.Prefixes.{view_of}
use Rattle.engine.proofs.NonSteps.{non_step_keeps, request_opens, requests_step_not}
use Rattle.engine.proofs.Idling.{non_step_idles}
use Rattle.engine.proofs.Advancing.{non_step_advances}
use Rattle.engine.proofs.parts.Parts.store_event.Goals as goal

pub returns-clause-continues : goal.returns-clause-continues
returns-clause-continues g c =
    let s = c.args.self.now in
    let m = s.store.machine in
    let n = c.event.new.self.machine in
    let step = c.event.ensures.step in
    record {
      step = step;
      sound = non_step_keeps c.events_keep.ensures c.only_steps_make_durable.ensures s c.event.new.self c.args.event c.event.result c.requires.sound c.requires.is_request step c.event.ensures.retained;
      on_disk = λ f on. on;
      store = refl;
      call = record { later = omega arith; one = omega arith; past = λ k f le. refl; others = λ f none. refl };
      quiet = λ q. refl;
      failed = λ told. absurd (true≢false (sym (c.only_steps_fail.ensures m n c.args.event (subst (λ r. Step m c.args.event r n) told step)) ∙ requests_step_not c.args.event c.requires.is_request));
      works = λ other. refl;
      faithful = λ f. f;
      life = (refl, sym (request_opens c.args.event c.event.result m n (changes_before s.earlier) m.accepted c.requires.is_request step));
      journal_stays = λ nj nt. refl;
      hives_stay = λ i no. refl;
    }

pub returns-clause-advances : goal.returns-clause-advances
returns-clause-advances g c = non_step_advances c.args.event c.event.result c.args.self.now (record c.args.self.now { store = c.event.new.self }) c.requires.is_request

pub returns-clause-idle : goal.returns-clause-idle
returns-clause-idle g c = let s = c.args.self.now in non_step_idles c.args.event c.event.result s.store.machine s.base (changes_before s.earlier) (choice_of s.journal) (map view_of s.hives.items) c.requires.is_request
