use Rattle.std.proofs.Common.{◌≡◌, get_or, length}
use Rattle.std.specs.Prelude.{nat_lt}
use Rattle.std.specs.List.{list_any}
use Rattle.change_codec.specs.Changes.{hives_of}
use Rattle.recovery.proofs.replay.Replay.is_lacked.Given as goal

-- none of the hives before lacks it
abbrev pub invariant-loop-hive : goal.invariant-loop-hive
invariant-loop-hive l = list_any (λ h. nat_lt (get_or l.self.numbers.items h 0) l.number) (hives_of l.change) ≡ list_any (λ h. nat_lt (get_or l.self.numbers.items h 0) l.number) l.hives

abbrev pub decreases-loop-hive : goal.decreases-loop-hive
decreases-loop-hive l = length l.hives
