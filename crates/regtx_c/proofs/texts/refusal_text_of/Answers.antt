-- The text of a refusal that is in the table is the one of its number.
use Rattle.std.proofs.Common.{ℕ, List, sym, subst}
use Rattle.std.proofs.lemmas.Result.{IfOk-weaker}
use Rattle.regtx_c.specs.Texts.{IsTextOf}
use Rattle.regtx_c.proofs.Numbered.{text_of_found}
use Rattle.regtx_c.proofs.texts.refusal_text_of.Goals as goal

pub returns : goal.returns
returns c =
    let code = c.args.code in
    let right = text_of_found code c.args.why c.requires in
    IfOk-weaker c.format.result _ _ (λ text same. subst (λ (bytes : List ℕ). IsTextOf code bytes) (sym same) right) c.format.ensures.ok
