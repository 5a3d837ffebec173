-- What answers say of the list that a session has seen then.
use Rattle.std.specs.Prelude.{◌≡◌, ℕ, ◌-◌, ◌<◌, ◌≤◌, ◌⊎◌, Bool, true, false, List, Ok, Err, Some, slice_get, ⊤}
use Rattle.refusals.specs.declared.refusal.Refusal.{Refusal}
use Rattle.refusals.specs.declared.refusal.Refusal.TheVariants as refusal
use Rattle.reg_tree.specs.Maps.{TreeMap}
use Rattle.reg_tree.specs.Operations.{hive_of}
use Rattle.reg_tree.specs.Judgement.{legal}
use Rattle.reg_tree.specs.Sequences.{after_elements}
use Rattle.reg_tree.specs.declared.element.Element.{Element}
use Rattle.reg_tree.specs.declared.op.Op.{Op}
use Rattle.reg_tree.specs.declared.op.Legality.TheVariants.{Opened}
use Rattle.store_model.specs.Machine.{change}
use Rattle.store_model.specs.declared.event.Reply.{Reply}
use Rattle.store_model.specs.declared.event.Reply.TheVariants as reply

-- the change of a number is in a list that begins after a number
abbrev pub IsAt : ℕ → List Element → ℕ → Element → Type 0
IsAt before list number element = (before < number) × (slice_get list (number - before - 1) ≡ Some element)

-- a refusal that is about an operation on trees, and not about the store, the session or room
abbrev pub is_of_operation : Refusal → Bool
is_of_operation refusal.NoMemory = false
is_of_operation refusal.Faulted = false
is_of_operation refusal.NoSuchHandle = false
is_of_operation refusal.HistoryFull = false
is_of_operation refusal.JournalFull = false
is_of_operation _ = true

-- the operation is refused so on these trees, or names none of the first `hives` hives
abbrev pub IsIllegal : ℕ → List TreeMap → Op → Refusal → Type 0
IsIllegal hives now op why = (legal now op ≡ Err why) ⊎ ((why ≡ refusal.NotFound) × (hives ≤ hive_of op))

-- An accepted write is at its number in the list. One that opened a key, or was refused as an operation, is so on the
-- trees after the list. Calls may name `hives` hives.
abbrev pub WriteStands : List TreeMap → ℕ → ℕ → List Element → ℕ → Op → Reply → Type 0
WriteStands trees before hives list moment op (reply.Accepted levels number) = IsAt before list number (change moment op)
WriteStands trees before hives list moment op reply.Opened = legal (after_elements trees list) op ≡ Ok Opened
WriteStands trees before hives list moment op (reply.Refused why) = is_of_operation why ≡ true → IsIllegal hives (after_elements trees list) op why
WriteStands trees before hives list moment op _ = ⊥

-- at this number is a change of this moment
abbrev pub HasMoment : ℕ → List Element → ℕ → ℕ → Type 0
HasMoment before list number moment = (element : Element) × IsAt before list number element × (element.moment ≡ moment)

-- a commit with a number above 0 is at that number in the list
abbrev pub CommitStands : ℕ → List Element → ℕ → Reply → Type 0
CommitStands before list moment (reply.Awaits number) = 0 < number → HasMoment before list number moment
CommitStands before list moment (reply.Refused why) = ⊤
CommitStands before list moment _ = ⊥

-- a flush waits for a number that is not below this one
abbrev pub FlushesAll : ℕ → Reply → Type 0
FlushesAll least (reply.Awaits number) = least ≤ number
FlushesAll least (reply.Refused why) = ⊤
FlushesAll least _ = ⊥
