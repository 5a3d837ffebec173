-- What a session is told of durable changes, one question after another.
use Rattle.std.specs.Prelude.{◌≡◌, ◌⊎◌, ◌+◌, ◌-◌, ℕ, zero, suc, Bool, List, [], ◌∷◌, ◌++◌, length, take, drop, Option, Some, None, Any}
use Rattle.refusals.specs.declared.refusal.Refusal.TheVariants.{NoMemory}
use Rattle.reg_names.specs.Names.{Begins, folded_path}
use Rattle.reg_tree.specs.Maps.{TreeMap}
use Rattle.reg_tree.specs.Operations.{hive_of, spelled_path}
use Rattle.reg_tree.specs.declared.element.Element.{Element}
use Rattle.reg_tree.specs.declared.op.Op.{Op}
use Rattle.reply_lines.specs.declared.reply.ReplyLine.{ReplyLine}
use Rattle.reply_lines.specs.declared.reply.ReplyLine.TheVariants.{Refused}
use Rattle.engine_invariant.specs.Engines.{EngineView}
use Rattle.ktm_calls.specs.Moments.{Sight}
use Rattle.ktm_calls.specs.Snapshots.{AreDurableAfter, MayNotFollow}
use Rattle.ktm_calls.specs.declared.durable_changes.FollowRefusal.TheVariants.{Ahead, Discarded}
use Rattle.registry_lines.specs.Scripts.{AsksNothing, Flushes, Script}
use Rattle.served_replies.specs.declared.reply.ServedReply.{ServedReply}
use Rattle.served_replies.specs.declared.reply.ServedReply.TheVariants as told
use Rattle.store_server.specs.declared.subject.Subject.{Subject}
use Rattle.store_server.specs.declared.subject.Subject.TheVariants.{All, Key}

-- an operation is on a key, or below it
abbrev pub MeetsKey : ℕ → List (List ℕ) → Op → Type 0
MeetsKey hive path op = (hive_of op ≡ hive) × Begins (folded_path path) (folded_path (spelled_path op))

-- one of some operations is
abbrev pub AnyMeetsKey : ℕ → List (List ℕ) → List Op → Type 0
AnyMeetsKey hive path ops = Any (λ op. MeetsKey hive path op) ops

-- What is told of a change, by its number: the lines that make it; or that it meets a key, if it does, and else nothing.
abbrev pub TellsOne : Subject → ℕ → Element → Option ServedReply → Type 0
TellsOne All number change one = one ≡ Some (told.Change number change)
TellsOne (Key hive path) number change one =
    ((one ≡ Some (told.Changed number)) × AnyMeetsKey hive path change.ops) ⊎ ((one ≡ None) × ¬ (AnyMeetsKey hive path change.ops))

-- a reply, if there is one, before others
abbrev pub before : Option ServedReply → List ServedReply → List ServedReply
before None rest = rest
before (Some reply) rest = reply ∷ rest

-- what is told of changes, the first of which has the number after this one, in their order
abbrev pub TellsSubject : Subject → ℕ → List Element → List ServedReply → Type 0
TellsSubject subject after [] replies = replies ≡ []
TellsSubject subject after (change ∷ changes) replies =
    (one : Option ServedReply) × (rest : List ServedReply) × TellsOne subject (after + 1) change one × TellsSubject subject (after + 1) changes rest × (replies ≡ before one rest)

-- How it ends, if all changes up to a number were told: no later one was durable then; or they can't be told, but those
-- after another number; or there was no memory.
abbrev pub EndsFollowing : EngineView → ℕ → ℕ → Sight → ServedReply → Type 0
EndsFollowing origin number at seen (told.Followed last) = (last ≡ at) × AreDurableAfter origin number at seen []
EndsFollowing origin number at seen (told.NotFound after) = MayNotFollow origin number at seen (Ahead after) ⊎ MayNotFollow origin number at seen (Discarded after)
EndsFollowing origin number at seen (told.Line reply) = reply ≡ Refused NoMemory
EndsFollowing origin number at seen _ = ⊥

-- nothing was asked for, but so many times that all that was accepted be made durable
abbrev pub AsksFlushes : Bool → EngineView → List TreeMap → ℕ → ℕ → ℕ → Script → Script → Type 0
AsksFlushes sole origin trees number hives zero old new = AsksNothing old new
AsksFlushes sole origin trees number hives (suc count) old new =
    (first : Script) × (flushed : ReplyLine) × (last : Script) × AsksNothing old first × Flushes sole origin trees number hives first flushed last
    × AsksFlushes sole origin trees number hives count last new

abbrev pub MayFlush : Bool → EngineView → List TreeMap → ℕ → ℕ → Script → Script → Type 0
MayFlush sole origin trees number hives old new = (count : ℕ) × AsksFlushes sole origin trees number hives count old new

-- From old, the changes after a number were told: the first durable ones, then those after them, and so on, each as it was
-- durable. Nothing was asked for but flushes.
abbrev pub FollowsOn : Bool → EngineView → List TreeMap → ℕ → ℕ → Subject → Script → ℕ → List (List Element) → List ServedReply → Script → Type 0
FollowsOn sole origin trees number hives subject old at [] replies new =
    (last : ServedReply) × MayFlush sole origin trees number hives old new × EndsFollowing origin number at new.session.seen last × (replies ≡ last ∷ [])
FollowsOn sole origin trees number hives subject old at (changes ∷ more) replies new =
    (mid : Script) × (front : List ServedReply) × (rest : List ServedReply) × MayFlush sole origin trees number hives old mid × AreDurableAfter origin number at mid.session.seen changes × TellsSubject subject at changes front
    × FollowsOn sole origin trees number hives subject mid (at + length changes) more rest new × (replies ≡ front ++ rest)

-- These are the first changes after a number, each once and in their order, as one saw them whose list begins after `number`.
abbrev pub AreFirstAfter : ℕ → ℕ → Sight → List Element → Type 0
AreFirstAfter number after seen changes = changes ≡ take (length changes) (drop (after - number) seen.list)

-- What was told of changes after a number, all in all: the first ones, each once and in their order, and how it ended.
abbrev pub IsFollowed : EngineView → ℕ → Subject → ℕ → Sight → List ServedReply → Type 0
IsFollowed origin number subject after seen replies =
    (changes : List Element) × (front : List ServedReply) × (last : ServedReply) × AreFirstAfter number after seen changes × TellsSubject subject after changes front
    × EndsFollowing origin number (after + length changes) seen last × (replies ≡ front ++ last ∷ [])
