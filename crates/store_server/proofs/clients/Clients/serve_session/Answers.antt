use Rattle.std.proofs.Common.{[], refl}
use Rattle.registry_lines.specs.Interpreters.{script_of}
use Rattle.store_server.proofs.clients.Clients.serve_session.Goals as goal

pub returns-then-is_err : goal.returns-then-is_err
returns-then-is_err g c = record { flushed = c.flush-flushed.result; mid = script_of c.flush-flushed.new.self; flushes = c.flush-flushed.ensures; lines = []; replies = []; answered = (refl, refl) }

pub returns-in_default : goal.returns-in_default
returns-in_default g c = record { flushed = c.flush-flushed.result; mid = script_of c.flush-flushed.new.self; flushes = c.flush-flushed.ensures; lines = []; replies = []; answered = (refl, refl) }
