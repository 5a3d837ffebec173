-- The name of a refusal that is in the table is the one of its number.
use Rattle.std.proofs.Common.{ℕ, List, sym, subst}
use Rattle.regtx_c.specs.CodeNames.{IsCodeName}
use Rattle.regtx_c.proofs.Numbered.{name_of_found}
use Rattle.regtx_c.proofs.code_names.code_name.Goals as goal

pub returns-in-Some : goal.returns-in-Some
returns-in-Some c =
    let right = name_of_found c.args.code c.in-Some.why (sym c.in-Some.ensures) in
    subst (λ (name : List ℕ). IsCodeName c.args.code name) (sym c.name_of.ensures) right
