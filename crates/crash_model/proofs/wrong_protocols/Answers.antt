use Rattle.crash_model.proofs.WrongExamples.{flushes_pending, trims_after_one, trims_by_first, trims_by_memory, empty_breaks, replaying_all_breaks, flushes_under_less, batches_skipping, counts_early}
use Rattle.crash_model.proofs.wrong_protocols.Goals as goal

pub returns : goal.returns
returns g = record {
  absorbs_pending = flushes_pending;
  trims_after_one = trims_after_one;
  trims_by_first = trims_by_first;
  trims_by_memory = trims_by_memory;
  empty_element = empty_breaks;
  replays_what_is_held = replaying_all_breaks;
  flushes_under_less = flushes_under_less;
  batch_skips = batches_skipping;
  counts_early = counts_early;
}
