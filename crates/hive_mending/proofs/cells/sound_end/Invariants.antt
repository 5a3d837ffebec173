use Rattle.std.proofs.Common.{◌≡◌, ◌-◌, ◌%◌, ◌≤◌, List}
use Rattle.hive_mending.specs.declared.gap.Gap.{Gap}
use Rattle.hive_mending.specs.Mending.{MendsCells}
use Rattle.hive_mending.proofs.cells.sound_end.Given as goal

abbrev pub invariant-loop-at : goal.invariant-loop-at
invariant-loop-at l =
    record {
      after : l.first ≤ l.at;
      within : l.at ≤ l.end;
      eights : l.at % 8 ≡ 0;
      mends : (gaps : List Gap) → MendsCells l.bytes l.bytes gaps gaps l.end l.first l.at;
    }

abbrev pub decreases-loop-at : goal.decreases-loop-at
decreases-loop-at l = l.end - l.at
