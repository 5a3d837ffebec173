use Rattle.std.proofs.Common.{append_assoc}
use Rattle.hive_records.proofs.encoder.put_key_node.Goals as goal

pub returns : goal.returns
returns c =
    rw (c.in_ok-put_name.ensures, c.in_ok-put_u16-2.ensures, c.in_ok-put_u16.ensures, c.stored_len.ensures, c.in_ok-put_node_bounds.ensures, c.in_ok-put_node_head.ensures, c.stored_flags.ensures)
    (simp append_assoc)
