use Rattle.std.proofs.Common.{ap, sym, subst, ◌∙◌}
use Rattle.reg_names.specs.Names.{is_path}
use Rattle.transactions.proofs.ShortOnes.{IsNamed, one_short}
use Rattle.transactions.proofs.short.change_is_short.Goals as goal

pub returns-in-CreateKey : goal.returns-in-CreateKey
returns-in-CreateKey c = one_short c.args.op.now (ap is_path (sym c.path.ensures) ∙ c.names.ensures.may) (subst IsNamed (sym c.in-CreateKey.is) tt)

pub returns-in-DeleteKey : goal.returns-in-DeleteKey
returns-in-DeleteKey c = one_short c.args.op.now (ap is_path (sym c.path.ensures) ∙ c.names.ensures.may) (subst IsNamed (sym c.in-DeleteKey.is) tt)

pub returns-in-SetValue : goal.returns-in-SetValue
returns-in-SetValue c = one_short c.args.op.now (ap is_path (sym c.path.ensures) ∙ c.names.ensures.may) (subst IsNamed (sym c.in-SetValue.is) c.name.ensures.may)

pub returns-in-DeleteValue : goal.returns-in-DeleteValue
returns-in-DeleteValue c = one_short c.args.op.now (ap is_path (sym c.path.ensures) ∙ c.names.ensures.may) (subst IsNamed (sym c.in-DeleteValue.is) c.name-in-DeleteValue.ensures.may)
