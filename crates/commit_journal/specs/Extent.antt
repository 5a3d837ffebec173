-- What a journal keeps of its durable content, or of the content that will be durable.
use Rattle.std.specs.Prelude.{◌≡◌, ℕ, ◌+◌, ◌≤◌}
use Rattle.crash_model.specs.Promises.{Content, top}
use Rattle.change_codec.specs.ModelChanges.{TimedOp}
use Rattle.commit_journal.specs.Store.{room_of}

-- The numbers are those of the content: the last element's (0 if there is none), and the used room, which is 65 and the
-- room of the elements. The gate that isn't open lies within that room.
pub record ExtentMatches (gate last used : ℕ) (s : Content TimedOp) : Type 0 where
  pub last_is : last ≡ top 0 s
  pub used_is : used ≡ 65 + room_of s.elements
  pub within : gate + 1 ≤ used
