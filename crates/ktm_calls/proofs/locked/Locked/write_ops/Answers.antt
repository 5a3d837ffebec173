use Rattle.std.proofs.Common.{◌≡◌, ◌∙◌, ◌++◌, ◌∷◌, [], length, ap, arith, sym, append_assoc}
use Rattle.std.specs.Vec.Iter.{into_iter_items}
use Rattle.ktm_calls.proofs.Seen.{seen_trans}
use Rattle.ktm_calls.proofs.WholeWrites.{written_more}
use Rattle.ktm_calls.proofs.locked.Locked.write_ops.Goals as goal

pub loop-op-preserved : goal.loop-op-preserved
loop-op-preserved g c =
    let left = into_iter_items c.next.new.self in
    let was = c.loop-op.invariant in
    let all : into_iter_items c.into_iter-op-iterator.result ≡ c.loop-op.yielded ++ c.in-Some.op ∷ left = was.all ∙ ap (λ xs. c.loop-op.yielded ++ xs) c.in-Some.ensures.steps.0 in
    record {
      all = all ∙ sym (append_assoc c.loop-op.yielded (c.in-Some.op ∷ []) left);
      long = omega (arith, was.long, c.in-Some.ensures.steps.1, ap length c.in-Some.ensures.steps.0);
      seen = seen_trans _ _ _ was.seen c.write_next.ensures.seen;
      same = c.write_next.ensures.all;
      room = c.in_ok-write_next.ensures.room;
      written = written_more g.O.Start.sole g.O.Start.start g.O.Origin.trees g.O.Origin.number g.O.Origin.hives c.args.session c.args.tx c.args.moment c.loop-op.yielded c.in-Some.op c.args.mine.now c.loop-op.mine c.write_next.new.mine was.written c.in_ok-write_next.ensures.written;
    }
