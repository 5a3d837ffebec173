use Rattle.std.proofs.Common.{◌∙◌, ap, sym}
use Rattle.base_block.specs.declared.fields.SequenceNumber.{SequenceNumber}
use Rattle.base_block.specs.Numbers.{number_after}
use Rattle.hive_log_entries.specs.Entries.{number_of}
use Rattle.hive_recovery.proofs.Orders.{behind_more}
use Rattle.hive_recovery.proofs.sequence.number_after.Goals as goal

pub entries-preserved : goal.entries-preserved
entries-preserved c =
    c.next-next.ensures
    ∙ ap (λ (n : SequenceNumber). number_after n.0) c.number.ensures
    ∙ ap (λ entry. number_after (number_of entry).0) c.entry-item.is
    ∙ sym (behind_more c.args.other.0 c.args.entries.now c.entries.entry-index c.entry-item.result c.entries-test.true)
