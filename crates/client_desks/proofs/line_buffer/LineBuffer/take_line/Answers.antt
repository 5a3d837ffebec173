use Rattle.client_desks.proofs.LineFeeds.{takes_whole}
use Rattle.client_desks.proofs.line_buffer.LineBuffer.take_line.Goals as goal

pub returns-in_ok-move_line-in-Some-clause-taken : goal.returns-in_ok-move_line-in-Some-clause-taken
returns-in_ok-move_line-in-Some-clause-taken c =
    takes_whole c.in-Some.at c.args.self.now c.move_line.new.line.items c.move_line.new.self c.in-Some.ensures c.if-at-le-LINE_BYTES.true c.in_ok-move_line-in-Some.ensures.moved c.in_ok-move_line-in-Some.ensures.others
