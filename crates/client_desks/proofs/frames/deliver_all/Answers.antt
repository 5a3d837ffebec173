use Rattle.std.proofs.Common.{sym, ◌∙◌}
use Rattle.client_desks.specs.Deliveries.{IsToPlaceBelow}
use Rattle.client_desks.proofs.Deliveries.{if_no_error, read_more}
use Rattle.client_desks.proofs.frames.deliver_all.Goals as goal

pub frames-preserved : goal.frames-preserved
frames-preserved g c =
    read_more c.args.desks.now (g.B.Read.remaining c.args.reader.now) (g.B.Read.remaining c.frames.reader) (g.B.Read.remaining c.read_frame.new.reader) c.in-Ok.frame c.frames.invariant
    (if_no_error c.deliver.result (IsToPlaceBelow c.args.desks.now c.in-Ok.frame) c.deliver.ensures (sym c.is_err.ensures.value ∙ c.if-is_err.false))
    c.in-Ok.ensures.frame
