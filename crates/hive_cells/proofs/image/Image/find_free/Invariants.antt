use Rattle.std.proofs.Common.{◌≡◌, ◌≤◌, ◌-◌, length}
use Rattle.hive_cells.specs.Starts.{AreBounds, AllBelow}
use Rattle.hive_cells.proofs.image.Image.find_free.Given as goal

abbrev pub invariant-loop-page : goal.invariant-loop-page
invariant-loop-page l =
    record {
      within : l.from ≤ l.pages;
      bytes : l.self-inside.bytes ≡ l.initial.self-inside.bytes;
      starts : l.self-inside.starts ≡ l.initial.self-inside.starts;
      spare : l.self-inside.spare ≡ l.initial.self-inside.spare;
      long : length l.self-inside.free ≡ length l.initial.self-inside.free;
      bounds : AreBounds l.self-inside.bytes.items l.self-inside.free;
      below : AllBelow l.self-inside.free 0 l.from l.size;
    }

abbrev pub decreases-loop-page : goal.decreases-loop-page
decreases-loop-page l = l.pages - l.from
