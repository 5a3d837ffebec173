use Rattle.std.proofs.Common.{ℕ, ◌<◌, ◌^◌, sym, subst, arith}
use Rattle.std.proofs.lemmas.Grind.{get_or_default_zero}
use Rattle.std.proofs.lemmas.List.Elements.{recursion_from_All}
use Rattle.hive_edit.proofs.ValueInserts.{name_short}
use Rattle.hive_edit.proofs.value_insert.is_short.Goals as goal

pub returns : goal.returns
returns c = λ is. (recursion_from_All (λ (u : ℕ). u < 2 ^ 16) c.args.units.now (λ k d h. subst (λ (z : ℕ). z < 2 ^ 16) (sym (get_or_default_zero c.args.units.now k d h)) (c.type_inv.units k).fits), name_short c.args.units.now (grind (arith, is)))
