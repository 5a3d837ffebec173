-- Changes that are told one question after another.
use Rattle.std.proofs.Common.{◌≡◌, ◌∙◌, ◌<◌, ℕ, zero, suc, Bool, List, [], ◌∷◌, ◌++◌, Ok, Option, inr, refl, sym, ap, subst}
use Rattle.std.specs.Io.KnownBytes.{Appends, Keeps}
use Rattle.refusals.specs.declared.refusal.Refusal.TheVariants.{NoMemory}
use Rattle.reg_names.specs.Names.{path_of}
use Rattle.reg_tree.specs.Maps.{TreeMap}
use Rattle.reg_tree.specs.declared.element.Element.{Element}
use Rattle.reply_lines.specs.declared.reply.ReplyLine.{ReplyLine}
use Rattle.reply_lines.specs.declared.reply.ReplyLine.TheVariants.{Refused}
use Rattle.engine_invariant.specs.Engines.{EngineView}
use Rattle.ktm_calls.proofs.Seen.{seen_self, seen_trans}
use Rattle.registry_lines.specs.Scripts.{AsksNothing, Flushes, InSession, Script}
use Rattle.served_replies.specs.ServedReplies.{served_texts}
use Rattle.served_replies.specs.declared.reply.ServedReply.{ServedReply}
use Rattle.served_replies.specs.declared.reply.ServedReply.TheVariants as told
use Rattle.script_syntax.specs.declared.line.KeyRef.{KeyRef}
use Rattle.store_server.specs.OwnLines.{Watches, last_seen}
use Rattle.store_server.specs.Following.{AsksFlushes, FollowsOn, MayFlush}
use Rattle.store_server.specs.Steps.{IsFollowStep}
use Rattle.store_server.specs.declared.following.FollowStep.TheVariants as step
use Rattle.store_server.specs.declared.subject.Subject.{Subject}
use Rattle.store_server.specs.declared.subject.Subject.TheVariants.{Key}
use Rattle.store_server.proofs.Texts.{append_texts, kept_before}

-- nothing was asked for
pub asks_nothing_self : (script : Script) → AsksNothing script script
asks_nothing_self script = record { goes_on = record { number = refl; seen = seen_self script.session.seen }; quiet = refl; rest = refl }

same_rest : (a b c : Script) → InSession a b → InSession b c → InSession a c
same_rest a b c e f = f ∙ ap (λ (s : Script). record s { session = c.session }) e

pub asks_nothing_twice : (a b c : Script) → AsksNothing a b → AsksNothing b c → AsksNothing a c
asks_nothing_twice a b c x y = record {
  goes_on = record { number = y.goes_on.number ∙ x.goes_on.number; seen = seen_trans a.session.seen b.session.seen c.session.seen x.goes_on.seen y.goes_on.seen };
  quiet = y.quiet ∙ x.quiet;
  rest = same_rest a b c x.rest y.rest;
}

module _ (sole : Bool) (origin : EngineView) (trees : List TreeMap) (number hives : ℕ) where
  -- flushes were asked for, and then others
  pub flush_more : (m n : ℕ) (a b c : Script) → AsksFlushes sole origin trees number hives m a b → AsksFlushes sole origin trees number hives n b c → MayFlush sole origin trees number hives a c
  flush_more zero zero a b c x y = (0, asks_nothing_twice a b c x y)
  flush_more zero (suc n) a b c x (first, flushed, last, quiet, flushes, rest) = (suc n, (first, flushed, last, asks_nothing_twice a b first x quiet, flushes, rest))
  flush_more (suc m) n a b c (first, flushed, last, quiet, flushes, rest) y =
      let more = flush_more m n last b c rest y in
      (suc more.0, (first, flushed, last, quiet, flushes, more.1))

  pub may_flush_twice : (a b c : Script) → MayFlush sole origin trees number hives a b → MayFlush sole origin trees number hives b c → MayFlush sole origin trees number hives a c
  may_flush_twice a b c x y = flush_more x.0 y.0 a b c x.1 y.1

  pub no_flush : (a b : Script) → AsksNothing a b → MayFlush sole origin trees number hives a b
  no_flush a b quiet = (0, quiet)

  pub one_flush : (a b : Script) (flushed : ReplyLine) → Flushes sole origin trees number hives a flushed b → MayFlush sole origin trees number hives a b
  one_flush a b flushed flushes = (1, (a, flushed, b, asks_nothing_self a, flushes, asks_nothing_self b))

  -- a session followed from here on, after it had asked for nothing but flushes
  pub follows_later : (subject : Subject) (old mid : Script) (at : ℕ) (chunks : List (List Element)) (replies : List ServedReply) (new : Script) → MayFlush sole origin trees number hives old mid → FollowsOn sole origin trees number hives subject mid at chunks replies new → FollowsOn sole origin trees number hives subject old at chunks replies new
  follows_later subject old mid at [] replies new asks (last, more, ends, are) = (last, may_flush_twice old mid new asks more, ends, are)
  follows_later subject old mid at (changes ∷ chunks) replies new asks (next, front, rest, more, durable, tells, follows, are) = (next, front, rest, may_flush_twice old mid next asks more, durable, tells, follows, are)

  -- no more could be told for want of memory
  pub follows_none : (subject : Subject) (old : Script) (at : ℕ) (new : Script) → MayFlush sole origin trees number hives old new → FollowsOn sole origin trees number hives subject old at [] (told.Line (Refused NoMemory) ∷ []) new
  follows_none subject old at new asks = (told.Line (Refused NoMemory), asks, refl, refl)

  -- a key is watched, and no change could be told for want of memory
  pub watches_none : (old mid new : Script) (key_ref : KeyRef) (path : List (List ℕ)) → path_of key_ref.path ≡ Ok path → key_ref.hive < hives → AsksNothing old mid → MayFlush sole origin trees number hives mid new
      → Watches sole origin trees number hives old key_ref (told.Watching (last_seen number mid) ∷ told.Line (Refused NoMemory) ∷ []) new
  watches_none old mid new key_ref path is within quiet asks = inr (path, mid, [], told.Line (Refused NoMemory) ∷ [], is, within, quiet, follows_none (Key key_ref.hive path) mid (last_seen number mid) new asks, refl)

  module _ (subject : Subject) where
    -- what was told from a number on, and written
    abbrev pub HasTold : Script → ℕ → Option (List ℕ) → Script → Option (List ℕ) → Type 0
    HasTold old at was new is = (chunks : List (List Element)) × (told : List ServedReply) × FollowsOn sole origin trees number hives subject old at chunks told new × Appends was is (served_texts hives told)

    -- changes were told, and then those after them
    pub told_more : (old mid : Script) (at next : ℕ) (was then : Option (List ℕ)) → AsksNothing old mid → IsFollowStep origin number hives subject at mid.session.seen was then (step.Told next) → (new : Script) (is : Option (List ℕ)) → HasTold mid next then new is → HasTold old at was new is
    told_more old mid at next was then quiet (changes, front, durable, tells, e, wrote) new is (chunks, rest, follows, more) =
        (changes ∷ chunks, front ++ rest, (mid, front, rest, no_flush old mid quiet, durable, tells, subst (λ n. FollowsOn sole origin trees number hives subject mid n chunks rest new) e follows, refl), append_texts hives was then is front rest wrote more)

    -- why no more is told was told
    pub told_last : (old mid : Script) (at : ℕ) (was then : Option (List ℕ)) (last : ServedReply) → AsksNothing old mid → IsFollowStep origin number hives subject at mid.session.seen was then (step.Ended last) → (is : Option (List ℕ)) → Appends then is (served_texts hives (last ∷ [])) → HasTold old at was mid is
    told_last old mid at was then last quiet (ends, keeps) is wrote = ([], last ∷ [], (last, no_flush old mid quiet, ends, refl), kept_before was then is (served_texts hives (last ∷ [])) keeps wrote)

    -- that no later one was durable was told
    pub told_all : (old mid then : Script) (at : ℕ) (was there flushed : Option (List ℕ)) → AsksNothing old mid → IsFollowStep origin number hives subject at mid.session.seen was there step.UpToDate → then ≡ mid → Keeps there flushed → (is : Option (List ℕ)) → Appends flushed is (served_texts hives (told.Followed at ∷ [])) → HasTold old at was then is
    told_all old mid then at was there flushed quiet (durable, keeps) same kept is wrote =
        let text = served_texts hives (told.Followed at ∷ []) in
        subst (λ s. HasTold old at was s is) (sym same) ([], told.Followed at ∷ [], (told.Followed at, no_flush old mid quiet, (refl, durable), refl), kept_before was there is text keeps (kept_before there flushed is text kept wrote))

    -- nothing was told, and then some were, perhaps after flushes
    pub told_later : (old mid then : Script) (at : ℕ) (was there flushed : Option (List ℕ)) → AsksNothing old mid → IsFollowStep origin number hives subject at mid.session.seen was there step.UpToDate → MayFlush sole origin trees number hives mid then → Keeps there flushed → (new : Script) (is : Option (List ℕ)) → HasTold then at flushed new is → HasTold old at was new is
    told_later old mid then at was there flushed quiet (durable, keeps) asks kept new is (chunks, rest, follows, more) =
        let all = may_flush_twice old mid then (no_flush old mid quiet) asks in
        (chunks, rest, follows_later subject old then at chunks rest new all follows, kept_before was there is (served_texts hives rest) keeps (kept_before there flushed is (served_texts hives rest) kept more))
