-- A store as it is made, and what is reported of it.
use Rattle.std.specs.Prelude.{◌≡◌, ◌⊎◌, ◌+◌, ℕ, List, [], ◌∷◌, ◌++◌, length, Option, Result, Ok, Err}
use Rattle.std.specs.Io.KnownBytes.{Appends}
use Rattle.refusals.specs.declared.refusal.Refusal.{Refusal}
use Rattle.refusals.specs.declared.refusal.Refusal.TheVariants.{DiskFault}
use Rattle.reg_tree.specs.Fresh.{fresh_tree}
use Rattle.reg_tree.specs.Maps.{TreeMap}
use Rattle.reply_lines.specs.Replies.{reply_line}
use Rattle.reply_lines.specs.declared.reply.ReplyLine.{ReplyLine}
use Rattle.reply_lines.specs.declared.reply.ReplyLine.TheVariants as reply
use Rattle.reply_lines.specs.declared.status.Status.{Status}
use Rattle.reply_lines.specs.declared.status.Status.TheVariants as status
use Rattle.disk_model.specs.FileState.{FileState}
use Rattle.disk_model.specs.Crash.{LeavesHonest}
use Rattle.commit_journal.specs.declared.store_layout.Layout.TheVariants.{WithOutcomes}
use Rattle.engine_invariant.specs.Prefixes.{IsPrimaryOf}
use Rattle.recovery.specs.Created.{StoreIsCreated, new_store}
use Rattle.recovery.specs.Recovered.{IsRecovered, seen_in}

-- A store of these trees is durable on the disk under an id: all of its files are synced. Calls name the hives of the
-- trees. The tree of a new hive follows them, for the outcomes of commits. Whatever a crash leaves of the files, with
-- honest first sectors, recovers all these trees at number 0, as does what a read gives.
pub record IsNewStore (id : List ℕ) (trees : List TreeMap) (state : ℕ → FileState) : Type 0 where
  pub made : StoreIsCreated id WithOutcomes trees state
  pub recovers : (files : ℕ → List ℕ) → LeavesHonest (IsPrimaryOf (length trees + 1)) state files → IsRecovered files (new_store id WithOutcomes (length trees)) 0 (trees ++ fresh_tree ∷ [])
  pub seen : IsRecovered (seen_in state) (new_store id WithOutcomes (length trees)) 0 (trees ++ fresh_tree ∷ [])

-- why no store is made: the device failed, or there is another reason, and the disk is as it was
abbrev pub IsNotMade : Type 0 → Type 0 → (Refusal → Type 0) → Refusal → Type 0
IsNotMade failed same reason why = ((why ≡ DiskFault) × failed) ⊎ (reason why × same)

-- the reply to whoever asked for a store: that it is made, or why not
abbrev pub creation_reply : Result (List TreeMap) Refusal → ReplyLine
creation_reply (Ok trees) = reply.Done
creation_reply (Err why) = reply.Refused why

-- the status of the reply
abbrev pub creation_status : Result (List TreeMap) Refusal → Status
creation_status (Ok trees) = status.Clean
creation_status (Err why) = status.Refused

-- what was written is the line of the reply, and this status is its status
abbrev pub OutcomeIsWritten : Option (List ℕ) → Option (List ℕ) → Result (List TreeMap) Refusal → Status → Type 0
OutcomeIsWritten before after outcome status = Appends before after (reply_line (creation_reply outcome)) × (status ≡ creation_status outcome)
