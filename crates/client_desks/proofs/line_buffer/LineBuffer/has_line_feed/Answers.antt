use Rattle.std.proofs.Common.{◌≡◌, ℕ, List, refl, true, false, Some, None}
use Rattle.std.specs.Prelude.{Option, Bool, IsTrue, MatchOption, ◌↔◌}
use Rattle.std.specs.Option.{is_some}
use Rattle.std.specs.List.{Contains}
use Rattle.client_frames.specs.Heads.{Lacks}
use Rattle.client_desks.specs.Lines.{IsLineFeedAt}
use Rattle.client_desks.proofs.LineFeeds.{contains_first, contains_none}
use Rattle.client_desks.proofs.line_buffer.LineBuffer.has_line_feed.Goals as goal

told : (found : Option ℕ) (told : Bool) (bytes : List ℕ) → MatchOption found (Lacks 10 bytes) (IsLineFeedAt bytes) → told ≡ is_some found → IsTrue told ↔ Contains bytes 10
told None b bytes lacks e = rw e ((λ t. let no : false ≡ true = t in cc), λ h. absurd (contains_none bytes lacks h))
told (Some at) b bytes is e = rw e ((λ t. contains_first at bytes is), λ h. refl)

pub returns : goal.returns
returns c = told c.line_feed.result c.is_some.result c.args.self.now c.line_feed.ensures c.is_some.ensures
