use Rattle.std.proofs.Common.{◌≡◌, ◌≤◌, ◌-◌, ◌%◌, ◌++◌, take, length}
use Rattle.dirt_log.specs.LogEncoding.{pages_from}
use Rattle.dirt_log.proofs.steps.put_pages.Given as goal

abbrev pub invariant-loop-end : goal.invariant-loop-end
invariant-loop-end l =
    record {
      room : length l.buffer ≡ 65536;
      inside : l.end ≤ 65536;
      whole : l.end % 512 ≡ 0;
      bytes : take l.end l.buffer ++ pages_from l.image l.vector l.page ≡ take l.at l.fn.buffer ++ pages_from l.image l.vector l.from;
    }

abbrev pub decreases-loop-end : goal.decreases-loop-end
decreases-loop-end l = 65536 - l.end
