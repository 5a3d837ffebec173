use Rattle.std.proofs.Common.{append_assoc}
use Rattle.hive_records.proofs.encoder.put_node_head.Goals as goal

pub returns : goal.returns
returns c =
    rw (c.in_ok-put_u32-10.ensures, c.in_ok-put_u32-9.ensures, c.in_ok-put_u32-8.ensures, c.in_ok-put_u32-7.ensures, c.in_ok-put_u32-6.ensures, c.in_ok-put_u32-5.ensures, c.in_ok-put_u32-4.ensures, c.in_ok-put_u32-3.ensures, c.in_ok-put_u32-2.ensures, c.in_ok-put_u32.ensures, c.in_ok-put_u64.ensures, c.in_ok-put_u16-2.ensures, c.in_ok-put_u16.ensures)
    (simp append_assoc)
