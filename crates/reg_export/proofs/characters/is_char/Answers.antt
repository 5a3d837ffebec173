use Rattle.std.proofs.Common.{sym, ap, subst, ◌∙◌}
use Rattle.reg_export.specs.declared.characters.First.{First}
use Rattle.reg_export.specs.NameTests.{are_chars}
use Rattle.reg_export.specs.Characters.{IsFirst, units_in}
use Rattle.reg_export.proofs.Singles.{pair_is_char}
use Rattle.reg_export.proofs.characters.is_char.Goals as goal

pub returns-in-Pair : goal.returns-in-Pair
returns-in-Pair c = sym (ap (λ (first : First). are_chars (units_in first)) c.in-Pair.is ∙ pair_is_char _ _ (subst IsFirst c.in-Pair.is c.requires))

pub returns-in-Single : goal.returns-in-Single
returns-in-Single c = c.is_single_char.ensures ∙ sym (ap (λ (first : First). are_chars (units_in first)) c.in-Single.is)
