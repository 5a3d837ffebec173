use Rattle.std.proofs.Common.{◌≡◌, ◌∙◌, ◌==◌, ◌&&◌, Some, ap, inl, inr, refl, subst, sym}
use Rattle.std.proofs.lemmas.Result.{err_from_is_err_and}
use Rattle.refusals.specs.declared.refusal.Refusal.TheVariants.{NoMemory}
use Rattle.store_model.specs.declared.event.Event.TheVariants as event
use Rattle.ktm_calls.specs.Denials.{IsOpened}
use Rattle.ktm_calls.specs.Moments.{NumberedSight}
use Rattle.ktm_calls.specs.declared.registry.Denied.TheVariants as denied
use Rattle.ktm_calls.proofs.Seen.{lacks_nothing, seen_self}
use Rattle.registry_lines.specs.Heard.{GoesOn}
use Rattle.registry_lines.specs.Interpreters.{script_of}
use Rattle.registry_lines.specs.Scripts.{Script, IsNotFaulted, MayNotEnter}
use Rattle.registry_lines.proofs.Sessions.{keeps_sessions, makes_current, names_current, stays_current, unless}
use Rattle.registry_lines.proofs.script.Script.enter.Goals as goal

-- the session is the current one
pub returns-then-is_current-clause-ok : goal.returns-then-is_current-clause-ok
returns-then-is_current-clause-ok g c =
    let old = script_of c.args.self.now in
    let session = c.check_not_faulted.new.session in
    let same = c.check_not_faulted.ensures.goes_on.number in
    let is = sym c.is_current.ensures ∙ c.if-is_current.true in
    inr (inl (refl, stays_current old c.args.number session same is, names_current old c.args.number session same is, c.in_ok-check_not_faulted.ensures.sound))

pub returns-in_err-check_not_faulted-clause-refused : goal.returns-in_err-check_not_faulted-clause-refused
returns-in_err-check_not_faulted-clause-refused g c =
    let old = script_of c.args.self.now in
    let new : Script = record old { session = c.check_not_faulted.new.session } in
    let failed = err_from_is_err_and c.from_residual.result c.from_residual.ensures.1 in
    rw (failed.1, failed.2) (inr (inr (keeps_sessions old new refl c.check_not_faulted.ensures.goes_on (λ n. refl), _, c.in_err-check_not_faulted.ensures.refused, refl)))

-- there is no room for the session that was the current one
pub returns-then-is_err-clause-refused : goal.returns-then-is_err-clause-refused
returns-then-is_err-clause-refused g c =
    let O = g.O.Origin in
    let S = g.O.Start in
    let old = script_of c.args.self.now in
    let room = script_of c.make_room.new.self in
    let first = event.StartSession 0 in
    let stays : room.session ≡ old.session = ap (λ (s : Script). s.session) c.make_room.ensures.rest in
    let rest : room ≡ record old { session = room.session; others = room.others } = c.make_room.ensures.rest ∙ ap (λ (s : NumberedSight). record old { session = s; others = room.others }) (sym stays) in
    let goes = subst (λ (s : NumberedSight). GoesOn old.session s) (sym stays) (record { number = refl; seen = seen_self old.session.seen }) in
    let refused = subst (λ (s : NumberedSight). MayNotEnter S.sole S.start O.trees O.number O.hives old.session.seen s.seen NoMemory) (sym stays) (first, tt, denied.NoMemory, lacks_nothing S.sole old.session.seen first, refl) in
    inr (inr (keeps_sessions old room rest goes c.make_room.ensures.same, NoMemory, refused, refl))

-- the session isn't reached
pub returns-in_err-handle-clause-refused : goal.returns-in_err-handle-clause-refused
returns-in_err-handle-clause-refused g c =
    let O = g.O.Origin in
    let S = g.O.Start in
    let old = script_of c.args.self.now in
    let room = script_of c.make_room.new.self in
    let near = script_of c.reach.new.self in
    let stays : room.session ≡ old.session = ap (λ (s : Script). s.session) c.make_room.ensures.rest in
    let rest : near ≡ record old { session = near.session; others = near.others } = c.reach.ensures.rest ∙ ap (λ (s : Script). record s { session = near.session; others = near.others }) c.make_room.ensures.rest in
    let goes = subst (λ (s : NumberedSight). GoesOn s near.session) stays c.reach.ensures.goes_on in
    let why = c.in_err-handle.field-0.0 in
    let refused = subst (λ (s : NumberedSight). MayNotEnter S.sole S.start O.trees O.number O.hives s.seen near.session.seen why) stays c.in_err-handle.ensures.refused in
    let failed = err_from_is_err_and c.from_residual-in_err-handle.result c.from_residual-in_err-handle.ensures.1 in
    rw (failed.1, failed.2) (inr (inr (keeps_sessions old near rest goes (λ n. c.in_err-handle.ensures.same n ∙ c.make_room.ensures.same n), why, refused, refl)))

-- the session is entered
pub returns-clause-ok : goal.returns-clause-ok
returns-clause-ok g c =
    let O = g.O.Origin in
    let S = g.O.Start in
    let wanted = c.args.number in
    let handle = c.in_ok-handle.handle in
    let old = script_of c.args.self.now in
    let room = script_of c.make_room.new.self in
    let near = script_of c.reach.new.self in
    let new = script_of c.make_current.new.self in
    let keeps = c.make_room.ensures.same in
    let stays : room.session ≡ old.session = ap (λ (s : Script). s.session) c.make_room.ensures.rest in
    let rest : near ≡ record old { session = near.session; others = near.others } = c.reach.ensures.rest ∙ ap (λ (s : Script). record s { session = near.session; others = near.others }) c.make_room.ensures.rest in
    let goes = subst (λ (s : NumberedSight). GoesOn s near.session) stays c.reach.ensures.goes_on in
    let makes = makes_current old room new wanted handle keeps near rest goes.number c.in_ok-handle.ensures.taken c.make_current.ensures in
    let is : new.session ≡ record near.session { number = handle } = ap (λ (s : Script). s.session) c.make_current.ensures.rest in
    let among = unless (old.is_open && (wanted == old.current)) (Some old.session.number) (old.others wanted) (sym c.is_current.ensures ∙ c.if-is_current.false) ∙ sym (keeps wanted) in
    elim c.in_ok-handle.ensures.reached [
      | inl opened ↦ inl (
        refl,
        makes,
        among ∙ opened.0,
        opened.1,
        subst (λ (s : NumberedSight). IsOpened S.sole S.start O.trees O.number O.hives old.session.seen s opened.1) (sym is)
            (subst (λ (s : NumberedSight). IsOpened S.sole S.start O.trees O.number O.hives s.seen (record { number = handle; seen = near.session.seen }) opened.1) stays opened.2),
      )
      | inr was ↦ inr (inl (
        refl,
        makes,
        among ∙ was.0 ∙ ap (λ (s : NumberedSight). Some s.number) (sym is),
        subst (λ (s : NumberedSight). IsNotFaulted S.sole S.start O.trees O.number O.hives old.session.seen s.seen) (sym is)
            (subst (λ (s : NumberedSight). IsNotFaulted S.sole S.start O.trees O.number O.hives s.seen near.session.seen) stays was.1),
      ))
    ]
