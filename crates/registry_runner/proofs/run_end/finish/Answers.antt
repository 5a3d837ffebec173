use Rattle.registry_runner.proofs.Ending.{told_all}
use Rattle.registry_runner.proofs.run_end.finish.Goals as goal

pub returns-clause-reported : goal.returns-clause-reported
returns-clause-reported g c =
    let contents = g.W.Write.contents in
    told_all c.args.flush c.args.left c.args.played c.write_flush_reply-played.result c.write_undone.result (contents c.args.writer.now) (contents c.write_flush_reply-played.new.writer) (contents c.write_undone.new.writer)
    c.write_flush_reply-played.ensures.played c.write_undone.ensures.played c.write_flush_reply-played.ensures.reported c.write_undone.ensures.reported
