use Rattle.std.proofs.Common.{refl, rules}
use Rattle.regtx.proofs.run.Goals as goal

-- the disk may go to another thread, the runtime and the backups may be seen by one, and the folder may be opened
pub serve_store-replied-requires : goal.serve_store-replied-requires
serve_store-replied-requires g c κs = (c.type_bounds.send-D, (c.type_bounds.sync-R, (search rules, ((refl, tt), c.requires.opens.at (c.in-Serve.folder, tt)))))

pub run_script-replied-requires : goal.run_script-replied-requires
run_script-replied-requires g c κs = (c.type_bounds.send-D, (c.type_bounds.sync-R, ((refl, tt), c.requires.opens.at (c.in-Run.folder, tt))))
