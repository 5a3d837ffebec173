-- What a log's first sector says (regf format, new transaction log), and which entries it has then.
use Rattle.std.specs.Prelude.{◌≡◌, ℕ, ◌==◌, nat_le, nat_lt, not, Bool, ◌&&◌, if◌then◌else◌, List, [], length, take}
use Rattle.std.specs.List.{list_all}
use Rattle.base_block.specs.Layout.{block_at}
use Rattle.base_block.specs.declared.block.BaseBlock.{BaseBlock}
use Rattle.hive_log_entries.specs.Logs.{EntriesAre}
use Rattle.hive_log_entries.specs.declared.entry_end.LogEnd.{LogEnd}
use Rattle.hive_recovery.specs.declared.log.LogHead.{LogHead}
use Rattle.hive_recovery.specs.declared.log.LogHead.TheVariants.{Empty, NoLetters, WrongSum, OtherType, OtherVersion, Entries}

-- the first sector, or what there is of it, is zeros
abbrev pub is_blank : List ℕ → Bool
is_blank log = list_all (λ byte. byte == 0) (take 512 log)

-- the versions and the format that are read: 1.3 to 1.5, format 1
abbrev pub is_read_version : BaseBlock → Bool
is_read_version block = (block.major == 1) && nat_le 3 block.minor && nat_le block.minor 5 && (block.format == 1)

-- what a log's base block says: its letters are tested first, then its sum, its type and its versions
abbrev pub head_of_block : BaseBlock → LogHead
head_of_block block =
    if not (block.signature.0 == 0x6667_6572) then NoLetters
    else (if not block.sum_is_right then WrongSum
    else (if not (block.file_type.0 == 6) then OtherType block.file_type
    else (if not (is_read_version block) then OtherVersion
    else Entries)))

-- what a log's first sector says
unfoldable pub log_head : List ℕ → LogHead
log_head log =
    if is_blank log then Empty
    else (if nat_lt (length log) 512 then WrongSum
    else head_of_block (block_at (take 512 log)))

-- a log has these entries, which end at a place for a cause; or none, if its first sector doesn't say that entries follow
abbrev pub HasEntries : List ℕ → LogHead → List (List ℕ) → ℕ → LogEnd → Type 0
HasEntries log Entries entries ended_at end = EntriesAre log entries ended_at end
HasEntries log Empty entries ended_at end = entries ≡ []
HasEntries log NoLetters entries ended_at end = entries ≡ []
HasEntries log WrongSum entries ended_at end = entries ≡ []
HasEntries log (OtherType kind) entries ended_at end = entries ≡ []
HasEntries log OtherVersion entries ended_at end = entries ≡ []
