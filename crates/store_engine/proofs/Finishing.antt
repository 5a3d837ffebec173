-- An event that may accept a change makes no step and calls no device, as it is finished.
use Rattle.std.proofs.Common.{◌≡◌, ◌∙◌, ⊎_elim, true, false, List, refl, sym, subst, ap, arith, le_refl}
use Rattle.std.proofs.lemmas.Bool.{true≢false}
use Rattle.reg_tree.specs.declared.element.Element.{Element}
use Rattle.store_model.specs.Machine.{Machine}
use Rattle.store_model.specs.Steps.{Step, is_step, may_accept}
use Rattle.store_model.specs.declared.event.Event.{Event}
use Rattle.store_model.specs.declared.event.Event.TheVariants as event
use Rattle.store_model.specs.declared.event.Reply.{Reply}
use Rattle.store_model.specs.declared.event.Reply.TheVariants as reply
use Rattle.store_model.proofs.Failing.{only_steps_fail}
use Rattle.engine_invariant.specs.Engines.{EngineAnswers, EngineView, opened_after}
use Rattle.engine_invariant.specs.Idle.{IdlesExactly}

-- neither answer says that the history was folded
opens_alone : (old new : Machine) (asked : Event) (answer : Reply) (opened accepted : List Element) → may_accept asked ≡ true → Step old asked answer new → opened_after answer opened accepted ≡ opened
opens_alone old new (event.Write session moment op) (reply.Folded number) opened accepted accepts step = absurd step
opens_alone old new (event.CommitAccept session tx moment) (reply.Folded number) opened accepted accepts step = absurd step
opens_alone old new (event.Write session moment op) _ opened accepted accepts step = refl
opens_alone old new (event.CommitAccept session tx moment) _ opened accepted accepts step = refl
opens_alone old new _ answer opened accepted accepts step = absurd cc

no_step : (asked : Event) → may_accept asked ≡ true → is_step asked ≡ false
no_step (event.Write session moment op) accepts = refl
no_step (event.CommitAccept session tx moment) accepts = refl
no_step _ accepts = absurd cc

idles : (asked : Event) (answer : Reply) (old : EngineView) → may_accept asked ≡ true → IdlesExactly asked answer old.machine old.base old.opened old.journal old.hives
idles (event.Write session moment op) answer old accepts = tt
idles (event.CommitAccept session tx moment) answer old accepts = tt
idles _ answer old accepts = absurd cc

pub finished : (asked : Event) (answer : Reply) (old : EngineView) (next : Machine) → may_accept asked ≡ true → Step old.machine asked answer next → EngineAnswers asked answer old (record old { machine = next })
finished asked answer old next accepts step =
    let quiet : is_step asked ≡ false = no_step asked accepts in
    let unlike : (other : Event) → is_step other ≡ true → asked ≡ other → ⊥ = λ other steps same. true≢false (sym steps ∙ (sym (ap is_step same) ∙ quiet)) in
    record {
      step = step;
      later = le_refl old.clock;
      one = omega arith;
      quiet = λ _. refl;
      failed = λ told. absurd (true≢false (sym (only_steps_fail old.machine next asked (subst (λ (r : Reply). Step old.machine asked r next) told step)) ∙ quiet));
      works = λ _. refl;
      idle = λ _. idles asked answer old accepts;
      nears_durable = λ is _ _. absurd (unlike event.JournalStep refl is);
      begins_trim = λ is _ _ _. absurd (unlike event.TrimStep refl is);
      ends_trim = λ is _ _. absurd (⊎_elim (unlike event.JournalStep refl) (unlike event.TrimStep refl) is);
      flushes = λ i was then before after is _ _ _ _ _ _. absurd (unlike (event.FlusherStep i) refl is);
      life = (refl, sym (opens_alone old.machine next asked answer old.opened old.machine.accepted accepts step));
      journal_stays = λ _ _. (refl, refl);
      hives_stay = λ _ _. (refl, refl);
    }
