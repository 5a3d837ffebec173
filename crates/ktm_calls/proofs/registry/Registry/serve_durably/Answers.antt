use Rattle.std.proofs.Common.{◌∙◌, ap, inl, inr, ℕ}
use Rattle.std.proofs.lemmas.Result.{err_from_is_err_and}
use Rattle.ktm_calls.specs.Moments.{NumberedSight}
use Rattle.ktm_calls.proofs.Seen.{seen_trans}
use Rattle.ktm_calls.proofs.Shapes.{refused_unless}
use Rattle.ktm_calls.proofs.registry.Registry.serve_durably.Goals as goal

pub returns-in_default-clause-denied : goal.returns-in_default-clause-denied
returns-in_default-clause-denied g c = inl (rw (← c.session.view_is) c.in_default.ensures.lacked)

pub returns-in_default-reply : goal.returns-in_default-reply
returns-in_default-reply g c = record {
  seen = rw (← c.session.view_is) c.in-Ok.ensures.seen;
  number = ap (λ (m : NumberedSight). m.number) c.session.view_is;
  told = tt;
  denied = inl (
    rw (← c.session.view_is) c.in-Ok.ensures.told,
    refused_unless c.in-Ok.told.reply
        (c.requires.awaited (g.E.StoreEngine.state c.deref_mut.result.now.engine).machine (g.E.StoreEngine.state c.serve-answer.new.self.engine).machine c.in-Ok.told.reply c.in-Ok.ensures.step)
        (λ (n : ℕ) e. c.in_default-reply.not-Awaits n (c.reply.ensures ∙ e)),
  );
}

pub returns-in_err-receipt-clause-denied : goal.returns-in_err-receipt-clause-denied
returns-in_err-receipt-clause-denied g c =
    let failed = err_from_is_err_and c.from_residual.result c.from_residual.ensures.1 in
    rw (failed.1, failed.2) (inr (record {
      mid = c.serve-answer.new.mine;
      told = c.in-Ok.told;
      own = rw (← c.session.view_is) c.in-Ok.ensures.told;
      later = c.in_err-receipt.ensures.seen;
      awaited = c.in-Awaits.awaited;
      answer = cc (c.reply.ensures, c.in-Awaits.is);
      denied = c.in_err-receipt.ensures.denied;
    }))

pub returns-in_err-receipt-clause-seen : goal.returns-in_err-receipt-clause-seen
returns-in_err-receipt-clause-seen g c = rw (← c.session.view_is) (seen_trans _ _ _ c.in-Ok.ensures.seen c.in_err-receipt.ensures.seen.more)

pub returns-clause-seen : goal.returns-clause-seen
returns-clause-seen g c = rw (← c.session.view_is) (seen_trans _ _ _ c.in-Ok.ensures.seen c.in_ok-receipt.ensures.seen.more)
