use Rattle.std.proofs.Common.{sym, subst}
use Rattle.transactions.specs.Entries.{transaction_of}
use Rattle.transactions.specs.Tables.{IsPending}
use Rattle.transactions.proofs.TableChanges.{may_end}
use Rattle.transactions.proofs.table.TxTable.commit_ops.Goals as goal

pub returns-in-Some-clause-ok : goal.returns-in-Some-clause-ok
returns-in-Some-clause-ok c = subst (λ one. IsPending one c.deref.result.now c.in-Some.entry.now.length) c.in-Some.ensures.found
    record { active = may_end (transaction_of c.in-Some.entry.now) (sym c.if-is_active.ensures); given = c.deref.ensures.value; long = λ moment. c.in-Some.ensures.counted }
