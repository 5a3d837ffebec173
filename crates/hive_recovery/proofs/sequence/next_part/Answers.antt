use Rattle.std.proofs.Common.{◌++◌, length, refl, sym, ◌∙◌, ap}
use Rattle.std.proofs.lemmas.Option.{slice_get_read}
use Rattle.hive_recovery.specs.Limits.{usable}
use Rattle.hive_recovery.specs.Sequences.{left_from}
use Rattle.hive_recovery.proofs.Runs.{left_last}
use Rattle.hive_recovery.proofs.sequence.next_part.Goals as goal

pub returns-then-begins_with-clause-last : goal.returns-then-begins_with-clause-last
returns-then-begins_with-clause-last c =
    let number = c.args.reach.from.0 in
    let found = left_last number (usable c.args.reach.to c.index-logs-index.result) in
    record {
      log = c.index-logs-index.result;
      before = found.0;
      there = (c.logs.index, refl, slice_get_read c.args.logs.now (length c.args.logs.now) c.logs.index c.index-logs-index.result refl c.logs-test.true c.index-logs-index.is);
      end = found.1 ∙ ap (λ left. found.0 ++ left) (sym (c.entries_left-left.ensures ∙ ap (left_from number) c.usable.ensures));
    }
