-- What is printed to one who follows a store at rest, and answered.
use Rattle.std.specs.Prelude.{◌≡◌, ◌⊎◌, ℕ, List, Option}
use Rattle.std.specs.Io.KnownBytes.{Appends}
use Rattle.refusals.specs.declared.refusal.Refusal.{Refusal}
use Rattle.reg_tree.specs.declared.element.Element.{Element}
use Rattle.hive_files.specs.Frames.{RefusalHasCause}
use Rattle.commit_journal.specs.Store.{Store}
use Rattle.recovery.specs.Recovered.{IsNoStore}
use Rattle.reply_lines.specs.Replies.{reply_line}
use Rattle.reply_lines.specs.declared.reply.ReplyLine.TheVariants as reply
use Rattle.reply_lines.specs.declared.status.Status.{Status}
use Rattle.reply_lines.specs.declared.status.Status.TheVariants as status
use Rattle.served_replies.specs.ServedReplies.{served_texts}
use Rattle.served_replies.specs.declared.reply.ServedReply.{ServedReply}
use Rattle.store_changes.specs.Followed.{JournalHolds, TellsChanges}

-- The text was added of what is told of a journal's changes after a number, in a store whose calls name so many hives.
abbrev pub PrintsChanges : ℕ → ℕ → List Element → ℕ → Option (List ℕ) → Option (List ℕ) → Status → Type 0
PrintsChanges named base changes after old new its_status =
    (replies : List ServedReply) × TellsChanges base changes after replies its_status × Appends old new (served_texts named replies)

-- The changes after a number were told, or why they aren't. They are those that the store's journal holds, if the disk is
-- faithful. Or the files are refused as those of a store, which was told alone.
abbrev pub FollowsStore : Type 0 → Type 0 → (ℕ → List ℕ) → ℕ → Option (List ℕ) → Option (List ℕ) → Status → Type 0
FollowsStore failed faithful files after old new its_status =
    ((store : Store) × (base : ℕ) × (changes : List Element) × (faithful → JournalHolds files store base changes) × PrintsChanges store.hives base changes after old new its_status)
    ⊎ ((why : Refusal) × RefusalHasCause failed (IsNoStore faithful files) why × Appends old new (reply_line (reply.Refused why)) × (its_status ≡ status.Refused))
