use Rattle.std.proofs.Common.{◌≡◌, [], sym}
use Rattle.std.proofs.lemmas.List.{append-nil}
use Rattle.std.proofs.lemmas.Result.{err_from_is_err_and}
use Rattle.ktm_calls.proofs.locked.Locked.write_whole.Goals as goal

pub returns-in_err-made-clause-stops : goal.returns-in_err-made-clause-stops
returns-in_err-made-clause-stops g c =
    let failed = err_from_is_err_and c.from_residual-in_err-made.result c.from_residual-in_err-made.ensures.1 in
    rw (failed.1, failed.2) (record {
      first = c.args.ops.items;
      rest = [];
      parts = sym (append-nil c.args.ops.items);
      written = c.write_ops.new.mine;
      writes = c.in_ok-write_ops.ensures.written;
      denied = c.in_err-made.ensures.denied;
    })
