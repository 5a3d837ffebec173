-- What came of one question for durable changes.
use Rattle.std.specs.Prelude.{◌≡◌, ◌+◌, ℕ, List, [], length, Option}
use Rattle.std.specs.Io.KnownBytes.{Appends, Keeps}
use Rattle.reg_tree.specs.declared.element.Element.{Element}
use Rattle.engine_invariant.specs.Engines.{EngineView}
use Rattle.ktm_calls.specs.Moments.{Sight}
use Rattle.ktm_calls.specs.Snapshots.{AreDurableAfter}
use Rattle.served_replies.specs.ServedReplies.{served_texts}
use Rattle.served_replies.specs.declared.reply.ServedReply.{ServedReply}
use Rattle.store_server.specs.Following.{EndsFollowing, TellsSubject}
use Rattle.store_server.specs.declared.following.FollowStep.{FollowStep}
use Rattle.store_server.specs.declared.following.FollowStep.TheVariants.{Ended, Told, UpToDate}
use Rattle.store_server.specs.declared.subject.Subject.{Subject}

-- Changes after a number were told, up to another one, as one saw them. Or there was none; or it is to end so. Nothing was
-- written then.
abbrev pub IsFollowStep : EngineView → ℕ → ℕ → Subject → ℕ → Sight → Option (List ℕ) → Option (List ℕ) → FollowStep → Type 0
IsFollowStep origin number hives subject at seen was is (Told next) =
    (changes : List Element) × (told : List ServedReply) × AreDurableAfter origin number at seen changes × TellsSubject subject at changes told × (next ≡ at + length changes) × Appends was is (served_texts hives told)
IsFollowStep origin number hives subject at seen was is UpToDate = AreDurableAfter origin number at seen [] × Keeps was is
IsFollowStep origin number hives subject at seen was is (Ended last) = EndsFollowing origin number at seen last × Keeps was is
