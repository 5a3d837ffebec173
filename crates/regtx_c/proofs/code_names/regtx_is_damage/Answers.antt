-- A refusal that is in the table is damage if its number is one of damage.
use Rattle.std.proofs.Common.{sym}
use Rattle.regtx_c.proofs.Numbered.{damage_found}
use Rattle.regtx_c.proofs.code_names.regtx_is_damage.Goals as goal

pub returns-in-Some : goal.returns-in-Some
returns-in-Some c = damage_found c.args.code c.in-Some.why (sym c.in-Some.ensures) c.is_damage.result c.is_damage.ensures
