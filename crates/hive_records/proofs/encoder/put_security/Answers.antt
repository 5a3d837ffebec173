use Rattle.std.proofs.Common.{append_assoc}
use Rattle.hive_records.proofs.encoder.put_security.Goals as goal

pub returns : goal.returns
returns c =
    rw (c.in_ok-extend_from_slice.ensures.items, c.in_ok-put_u32-4.ensures, c.in_ok-put_u32-3.ensures, c.in_ok-put_u32-2.ensures, c.in_ok-put_u32.ensures, c.in_ok-put_u16-2.ensures, c.in_ok-put_u16.ensures)
    (simp append_assoc)
