-- The calls of a record.
use Rattle.std.specs.Prelude.{ℕ, Bool, List, [], ◌∷◌, ◌++◌}
use Rattle.new_file.specs.Calls.{Call, looked, created, written, synced, linked, renamed, removed, kept}
use Rattle.new_file.specs.declared.record.Asked.{Asked}
use Rattle.new_file.specs.declared.record.Asked.TheVariants as asked
use Rattle.new_file.specs.declared.record.Bytes.{Bytes}
use Rattle.new_file.specs.declared.record.Bytes.TheVariants as bytes
use Rattle.new_file.specs.declared.record.Record.{Record}
use Rattle.new_file.specs.declared.record.Record.TheVariants as record'

-- the bytes of a call, in their order
abbrev pub bytes_in : Bytes → List ℕ
bytes_in bytes.None = []
bytes_in (bytes.Then' shape before byte) = bytes_in before ++ byte ∷ []

-- what was asked, as a call that was done or not
abbrev pub call_of : Asked → Bool → Call
call_of asked.Look done = looked done
call_of asked.Create done = created done
call_of (asked.Write its) done = written (bytes_in its.value) done
call_of asked.Sync done = synced done
call_of asked.Link done = linked done
call_of asked.Rename done = renamed done
call_of asked.RemovePart done = removed done
call_of asked.SyncFolder done = kept done

-- the calls of a record, the last one first
abbrev pub calls_in : Record → List Call
calls_in record'.Begun = []
calls_in (record'.Then' shape before its done) = call_of its done ∷ calls_in before
