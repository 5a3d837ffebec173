-- What a call of the registry answers, as the reply to a line.
use Rattle.std.proofs.Common.{Bool, ◌≡◌, ◌∙◌, ℕ, List, [], ◌∷◌, ◌++◌, Option, Some, Result, Ok, Err, inl, inr, refl, sym, ap, subst}
use Rattle.std.specs.Prelude.{IfErr, IfOk, IfSome, OnOk}
use Rattle.std.proofs.lemmas.List.{append-nil}
use mathlib.Core.List.{IsPrefix}
use Rattle.refusals.specs.declared.refusal.Refusal.{Refusal}
use Rattle.refusals.specs.declared.refusal.Refusal.TheVariants.{Faulted, NoMemory, NoSuchHandle}
use Rattle.reg_tree.specs.Maps.{TreeMap}
use Rattle.histories.specs.Asked.{asked_in}
use Rattle.engine_invariant.specs.Engines.{EngineView}
use Rattle.histories.specs.Points.{HistoryEntry, entry_of}
use Rattle.histories.proofs.Asked.{asked_one}
use Rattle.published_trees.specs.declared.rule.TheConstants.{MOST_READERS}
use Rattle.store_model.specs.declared.event.Event.{Event}
use Rattle.store_model.specs.declared.event.Event.TheVariants.{Begin}
use Rattle.store_model.specs.declared.event.Reply.{Reply}
use Rattle.store_model.specs.declared.event.Reply.TheVariants as answer
use Rattle.ktm_calls.specs.Denials.{IsDenied, IsRefusal, denial_of, refusal_in}
use Rattle.ktm_calls.specs.Kinds.{Told}
use Rattle.ktm_calls.specs.Moments.{NumberedSight, SeesMore, Sight, Tells}
use Rattle.ktm_calls.proofs.Seen.{seen_self}
use Rattle.ktm_calls.specs.declared.registry.Denied.{Denied}
use Rattle.ktm_calls.specs.declared.registry.Denied.TheVariants as denied
use Rattle.reply_lines.specs.declared.reply.ReplyLine.{ReplyLine}
use Rattle.script_runner.specs.Scripts.{reply_of}
use Rattle.store_model.specs.declared.handle.Tx.{Tx}
use Rattle.registry_lines.specs.Heard.{Hears, IsHeard, Rests, denied_reply, told_reply}
use Rattle.registry_lines.specs.Scripts.{EntersSession, Script, FlushesThen, IsLabelled, IsNotFaulted, MayNotEnter, MayProbe, RefusesFold}

module _ (sole : Bool) (origin : EngineView) (trees : List TreeMap) (number hives : ℕ) (old new : NumberedSight) (event : Event) where
  -- a denied call is heard
  pub heard_denied : (why : Denied) → IsDenied sole origin trees number hives old.seen new.seen event why → IsHeard sole origin trees number hives old event (denied_reply why) new
  heard_denied denied.NoMemory d = inl (refl, d)
  heard_denied (denied.Told told) d = inr (told, d.0, refl)

  -- a call whose answer is what was told is heard
  pub heard : (r : Result Told Denied) → IfOk r (λ t. Tells sole origin trees number hives old.seen new.seen event t) → IfErr r (IsDenied sole origin trees number hives old.seen new.seen event) → IsHeard sole origin trees number hives old event (told_reply r) new
  heard (Ok told) t d = inr (told, t, refl)
  heard (Err why) t d = heard_denied why d

-- a reply that has a refusal is that refusal
refused_so : (r : Reply) (why : Refusal) → refusal_in r ≡ Some why → r ≡ answer.Refused why
refused_so (answer.Refused told) why e = ap answer.Refused (subst (λ (o : Option Refusal). IfSome o (λ w. told ≡ w)) e refl)
refused_so _ why e = absurd cc

-- one reply has one refusal
one_refusal : (a b : Refusal) → answer.Refused a ≡ answer.Refused b → a ≡ b
one_refusal a b e = subst (λ (r : Reply). IfSome (refusal_in r) (λ w. a ≡ w)) e refl

-- what was asked for at most, of a question whether the store is faulted
module _ (sole : Bool) (origin : EngineView) (trees : List TreeMap) (number hives : ℕ) (was is : Sight) (id : List ℕ) where
  told_probes : (told : Told) → Tells sole origin trees number hives was is (Begin MOST_READERS id) told → MayProbe sole was is
  told_probes told t so =
      let x = entry_of (Begin MOST_READERS id) told.reply t.stands.after in
      inr (id, told.reply, t.stands.after, ap asked_in t.stands.there ∙ (asked_one t.stands.past x refl ∙ ap (λ (w : List HistoryEntry). w ++ x ∷ []) (t.alone so)))

  denied_probes : (why : Denied) → IsDenied sole origin trees number hives was is (Begin MOST_READERS id) why → MayProbe sole was is
  denied_probes denied.NoMemory d so = elim (d.alone so) [ inl none ↦ inl none | inr one ↦ inr (id, answer.Refused NoMemory, one.0, one.1) ]
  denied_probes (denied.Told told) d so = told_probes told d.0 so

  pub probes : (r : Result Told Denied) → IfOk r (λ t. Tells sole origin trees number hives was is (Begin MOST_READERS id) t) → IfErr r (IsDenied sole origin trees number hives was is (Begin MOST_READERS id)) → MayProbe sole was is
  probes (Ok told) t d = told_probes told t
  probes (Err why) t d = denied_probes why d

  -- a store that is asked so and answers anything but that it is faulted
  pub told_sound : (told : Told) → Tells sole origin trees number hives was is (Begin MOST_READERS id) told → ¬ (IsRefusal told.reply) → IsNotFaulted sole origin trees number hives was is
  told_sound told t granted = (id, told, t, λ e. granted (subst IsRefusal (sym e) tt))

  pub denied_sound : (why : Denied) → denial_of why ≡ Some NoSuchHandle → IsDenied sole origin trees number hives was is (Begin MOST_READERS id) why → IsNotFaulted sole origin trees number hives was is
  denied_sound denied.NoMemory e d = absurd cc
  denied_sound (denied.Told told) e d = (id, told, d.0, λ f. absurd (cc (one_refusal NoSuchHandle Faulted (sym (refused_so told.reply NoSuchHandle e) ∙ f))))

-- what is asked in a session, and the line's reply tells
module _ (sole : Bool) (origin : EngineView) (trees : List TreeMap) (number hives : ℕ) (old new : NumberedSight) (event : Event) where
  pub hears : (r : Result Told Denied) (reported : ReplyLine) → reported ≡ told_reply r → SeesMore old.seen new.seen → new.number ≡ old.number → IfOk r (λ t. Tells sole origin trees number hives old.seen new.seen event t) → IfErr r (IsDenied sole origin trees number hives old.seen new.seen event) → Hears sole origin trees number hives old event reported new
  hears r reported said seen same told denied = (record { number = same; seen = seen }, subst (λ s. IsHeard sole origin trees number hives old event s new) (sym said) (heard sole origin trees number hives old new event r told denied))

  pub hears_denied : (why : Denied) (reported : ReplyLine) → reported ≡ denied_reply why → SeesMore old.seen new.seen → new.number ≡ old.number → IsDenied sole origin trees number hives old.seen new.seen event why → Hears sole origin trees number hives old event reported new
  hears_denied why reported said seen same denied = (record { number = same; seen = seen }, subst (λ s. IsHeard sole origin trees number hives old event s new) (sym said) (heard_denied sole origin trees number hives old new event why denied))

  pub hears_one : (told : Told) (reported : ReplyLine) → reported ≡ reply_of told.reply → SeesMore old.seen new.seen → new.number ≡ old.number → Tells sole origin trees number hives old.seen new.seen event told → Hears sole origin trees number hives old event reported new
  hears_one told reported said seen same tells = (record { number = same; seen = seen }, inr (told, tells, said))

-- a label that names a transaction is asked about it
pub labelled : (named : Option Tx) (tx : Tx) (asks : Tx → Type 0) (old : Script) (reported : ReplyLine) (new : Script) → named ≡ Some tx → asks tx → IsLabelled named asks old reported new
labelled named tx asks old reported new is asked = subst (λ (o : Option Tx). IsLabelled o asks old reported new) (sym is) asked

-- what a call of the registry answers is heard by whoever asked
pub heard_so : (sole : Bool) (origin : EngineView) (trees : List TreeMap) (number hives : ℕ) (old new : NumberedSight) (event : Event) (r : Result Told Denied) (reported : ReplyLine) → reported ≡ told_reply r → IfOk r (λ t. Tells sole origin trees number hives old.seen new.seen event t) → IfErr r (IsDenied sole origin trees number hives old.seen new.seen event)
    → IsHeard sole origin trees number hives old event reported new
heard_so sole origin trees number hives old new event r reported said t d = subst (λ s. IsHeard sole origin trees number hives old event s new) (sym said) (heard sole origin trees number hives old new event r t d)

-- a fold that is refused has flushed what was accepted, or was refused that
pub fold_refused : (sole : Bool) (origin : EngineView) (trees : List TreeMap) (number hives : ℕ) (old new : Script) (reported : ReplyLine) → RefusesFold sole origin trees number hives old reported new → (flushed : ReplyLine) × FlushesThen sole origin trees number hives old flushed new
fold_refused sole origin trees number hives old new reported (inl (flushes, refused)) = (reported, (new, flushes, (record { number = refl; seen = seen_self new.session.seen }, (λ so. inl refl), refl)))
fold_refused sole origin trees number hives old new reported (inr (mid, (flushed, flushes, granted), on, why, may, told)) = (flushed, (mid, flushes, on))

-- a history that was seen no further
pub same_history : {A : Type 0} {old new : List A} → new ≡ old → IsPrefix old new
same_history {old = old} same = ([], append-nil old ∙ sym same)

-- a session rests whose history was seen no further
pub rests : (sole : Bool) (old new : NumberedSight) → new.number ≡ old.number → IsPrefix old.seen.list new.seen.list → new.seen.history ≡ old.seen.history → new.seen.asked ≡ old.seen.asked → Rests sole old new
rests sole old new number list history asked = record { number = number; seen = record { more = record { list = list; history = same_history history }; same = asked; alone = λ so. ap asked_in history } }

-- what an answer says if it is one
pub on_ok : {A E : Type 0} (r : Result A E) (P Q : Type 0) → (P → Q) → OnOk r P → OnOk r Q
on_ok (Ok a) P Q so h = so h
on_ok (Err e) P Q so h = tt
