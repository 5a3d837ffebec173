use Rattle.std.proofs.Common.{◌≡◌, ◌+◌, ◌*◌, length, ap, arith}
use Rattle.hive_writer.specs.WriterSteps.{calls_behind_log}
use Rattle.hive_writer.proofs.Moved.{few_behind}
use Rattle.dirty_vector.specs.Pages.{dirty_count}
use Rattle.dirt_log.specs.LogEncoding.{pages_at, bytes_behind}
use Rattle.dirt_log.proofs.PageBytes.{length_log}
use Rattle.hive_writer.proofs.laws.step_bounds.Goals as goal

pub returns : goal.returns
returns c = record {
  flush = λ image sector pages size long most.
      let whole : length (bytes_behind image pages sector) ≡ pages_at pages.bins_size + 512 * dirty_count pages = length_log image pages sector size long in
      omega (arith, whole, most, few_behind (dirty_count pages));
  unchanged = λ image sector pages size long most none.
      let whole : length (bytes_behind image pages sector) ≡ pages_at pages.bins_size + 512 * dirty_count pages = length_log image pages sector size long in
      omega (arith, whole, most, none, ap calls_behind_log none);
  repair = λ total pages. omega arith;
}
