-- What is answered to the lines that only a session of a served store takes.
use Rattle.std.specs.Prelude.{◌≡◌, ◌⊎◌, ◌+◌, ◌<◌, ◌≤◌, ℕ, Bool, true, List, [], ◌∷◌, ◌++◌, length, Ok, Err, Some}
use Rattle.refusals.specs.declared.refusal.Refusal.{Refusal}
use Rattle.refusals.specs.declared.refusal.Refusal.TheVariants.{NoMemory, NotFound}
use Rattle.reg_names.specs.Names.{path_of}
use Rattle.reg_tree.specs.Maps.{TreeMap}
use Rattle.reg_tree.specs.Sequences.{after_elements}
use Rattle.reg_tree.specs.declared.element.Element.{Element}
use Rattle.reply_lines.specs.declared.reply.ReplyLine.{ReplyLine}
use Rattle.reply_lines.specs.declared.reply.ReplyLine.TheVariants.{Refused}
use Rattle.script_runner.specs.Plays.{is_refusal}
use Rattle.script_syntax.specs.Lines.{line_of}
use Rattle.script_syntax.specs.declared.line.KeyRef.{KeyRef}
use Rattle.script_syntax.specs.declared.line.Line.TheVariants as line
use Rattle.script_syntax.specs.declared.served_line.ServedLine.{ServedLine}
use Rattle.script_syntax.specs.declared.served_line.ServedLine.TheVariants.{Backup, Follow, Watch, Stats}
use Rattle.commit_journal.specs.Store.{Store}
use Rattle.recovery.specs.Created.{new_store}
use Rattle.engine_invariant.specs.Engines.{EngineView}
use Rattle.histories.specs.Histories.{end_of}
use Rattle.registry_lines.specs.Scripts.{AsksNothing, Flushes, IsFlushed, Script}
use Rattle.served_replies.specs.declared.reply.ServedReply.{ServedReply}
use Rattle.served_replies.specs.declared.reply.ServedReply.TheVariants as told
use Rattle.store_server.specs.Following.{FollowsOn}
use Rattle.store_server.specs.Served.{AnswersBytes}
use Rattle.store_server.specs.declared.subject.Subject.TheVariants.{All, Key}

-- the number of the last change that a session has seen, whose list begins after a number
abbrev pub last_seen : ℕ → Script → ℕ
last_seen number script = number + length script.session.seen.list

-- A copy of this store is left that has the changes that a session has seen, and no others. Calls name as many hives of it
-- as of the store.
abbrev pub SavesSeen : (Store → ℕ → List TreeMap → Type 0) → Store → ℕ → List TreeMap → ℕ → Script → Type 0
SavesSeen saves store hives trees number script = saves (new_store store.id store.layout hives) (last_seen number script) (after_elements trees script.session.seen.list)

-- A copy of the store is made as of all that was accepted by then, once it is durable. Or that is refused: the look at the
-- store, for want of memory; the flush; or the copy.
abbrev pub BacksUp : (Store → ℕ → List TreeMap → Type 0) → Store → Bool → EngineView → List TreeMap → ℕ → ℕ → Script → List ServedReply → Script → Type 0
BacksUp saves store sole origin trees number hives old replies new =
    (AsksNothing old new × (replies ≡ told.Line (Refused NoMemory) ∷ []))
    ⊎ ((mid : Script) × (flushed : ReplyLine) × AsksNothing old mid × Flushes sole origin trees number hives mid flushed new × (is_refusal flushed ≡ true) × (replies ≡ told.Line flushed ∷ []))
    ⊎ ((mid : Script) × (why : Refusal) × AsksNothing old mid × IsFlushed sole origin trees number hives mid new × (replies ≡ told.Line (Refused why) ∷ []))
    ⊎ ((mid : Script) × AsksNothing old mid × IsFlushed sole origin trees number hives mid new × SavesSeen saves store hives trees number mid × (replies ≡ told.Saved (last_seen number mid) ∷ []))

-- why a key isn't watched: its path isn't one, there is no such hive, or no memory
abbrev pub MayNotWatch : ℕ → KeyRef → Refusal → Type 0
MayNotWatch hives key_ref why = (why ≡ NoMemory) ⊎ (path_of key_ref.path ≡ Err why) ⊎ ((why ≡ NotFound) × (hives ≤ key_ref.hive))

-- Of the changes after the last one of now, those are told that meet the key. Or that is refused.
abbrev pub Watches : Bool → EngineView → List TreeMap → ℕ → ℕ → Script → KeyRef → List ServedReply → Script → Type 0
Watches sole origin trees number hives old key_ref replies new =
    ((why : Refusal) × MayNotWatch hives key_ref why × AsksNothing old new × (replies ≡ told.Line (Refused why) ∷ []))
    ⊎ ((path : List (List ℕ)) × (mid : Script) × (changes : List (List Element)) × (rest : List ServedReply) × (path_of key_ref.path ≡ Ok path) × (key_ref.hive < hives) × AsksNothing old mid
    × FollowsOn sole origin trees number hives (Key key_ref.hive path) mid (last_seen number mid) changes rest new × (replies ≡ told.Watching (last_seen number mid) ∷ rest))

-- How full the store is at the end of what a session has seen then, whose history began here and whose list begins after a
-- number: the numbers of the last change and of the last durable one, and the used bytes of the journal's room. Any
-- numbers of clients may be told beside it. Nothing is asked for.
abbrev pub TellsStats : EngineView → ℕ → Script → List ServedReply → Script → Type 0
TellsStats origin number old replies new =
    AsksNothing old new × (clients : ℕ) × (waiting : ℕ) × (replies ≡ told.Stats (last_seen number new) (end_of origin new.session.seen.history).machine.durable (end_of origin new.session.seen.history).machine.room clients waiting ∷ [])

-- from old such a line is answered by these replies, and leaves new
abbrev pub AnswersOwn : (Store → ℕ → List TreeMap → Type 0) → Store → Bool → EngineView → List TreeMap → ℕ → ℕ → Script → ServedLine → List ServedReply → Script → Type 0
AnswersOwn saves store sole origin trees number hives old (Backup name) replies new = BacksUp saves store sole origin trees number hives old replies new
AnswersOwn saves store sole origin trees number hives old (Follow after) replies new = (changes : List (List Element)) × FollowsOn sole origin trees number hives All old after changes replies new
AnswersOwn saves store sole origin trees number hives old (Watch key_ref) replies new = Watches sole origin trees number hives old key_ref replies new
AnswersOwn saves store sole origin trees number hives old Stats replies new = TellsStats origin number old replies new

-- from old these bytes are a line, which is answered so: by one reply, if scripts have it
abbrev pub AnswersTold : (Store → ℕ → List TreeMap → Type 0) → Store → Bool → EngineView → List TreeMap → ℕ → ℕ → Script → List ℕ → List ServedReply → Script → Type 0
AnswersTold saves store sole origin trees number hives old bytes replies new =
    ((reply : ReplyLine) × AnswersBytes sole origin trees number hives old bytes reply new × (replies ≡ told.Line reply ∷ []))
    ⊎ ((own : ServedLine) × (line_of bytes ≡ Some (line.Served own)) × AnswersOwn saves store sole origin trees number hives old own replies new)

-- From old these lines were answered in turn, each in the state that the last one left, by these replies, those of one line
-- after those of another; and new is left.
abbrev pub AnswersLines : (Store → ℕ → List TreeMap → Type 0) → Store → Bool → EngineView → List TreeMap → ℕ → ℕ → Script → List (List ℕ) → List ServedReply → Script → Type 0
AnswersLines saves store sole origin trees number hives old [] replies new = (new ≡ old) × (replies ≡ [])
AnswersLines saves store sole origin trees number hives old (bytes ∷ lines) replies new =
    (mid : Script) × (front : List ServedReply) × (rest : List ServedReply) × AnswersTold saves store sole origin trees number hives old bytes front mid
    × AnswersLines saves store sole origin trees number hives mid lines rest new × (replies ≡ front ++ rest)
