use Rattle.std.proofs.Common.{rules}
use Rattle.hive_load_parts.proofs.KeySteps.{no_descriptor}
use Rattle.hive_load_parts.proofs.Lending.{keeps_none, keeps_as, nil_lent}
use Rattle.hive_load_parts.proofs.keys.descriptor.Goals as goal

pub returns-then-at-eq-NIL-clause-reads : goal.returns-then-at-eq-NIL-clause-reads
returns-then-at-eq-NIL-clause-reads c = λ cells shows marks. no_descriptor c.args.at cells marks c.in_ok-new.field-0 (search (rules, c.if-at-eq-NIL.true)) c.in_ok-new.ensures

pub returns-then-at-eq-NIL-clause-keeps : goal.returns-then-at-eq-NIL-clause-keeps
returns-then-at-eq-NIL-clause-keeps c = λ cells shows. keeps_as c.args.known.now c.args.known.now _ _ (nil_lent c.args.at cells (search (rules, c.if-at-eq-NIL.true))) (keeps_none c.args.known.now)
