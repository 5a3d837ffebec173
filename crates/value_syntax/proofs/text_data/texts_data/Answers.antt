use Rattle.std.proofs.Common.{ap, sym, ◌∙◌, ◌∷◌, ◌++◌, []}
use Rattle.std.specs.List.{flat_map}
use Rattle.std.specs.Prelude.{chars}
use Rattle.std.proofs.lemmas.Bool.{eqb-true, eqb-false}
use Rattle.value_syntax.specs.Data.{char_bytes, with_zeros}
use Rattle.value_syntax.proofs.Separators.{some_texts, no_texts}
use Rattle.value_syntax.proofs.text_data.texts_data.Goals as goal

pub returns-then-is_empty : goal.returns-then-is_empty
returns-then-is_empty c =
    c.in_ok-extend_from_slice.ensures.items ∙ ap (λ bytes. bytes ++ 0 ∷ 0 ∷ []) c.new-bytes.ensures.items ∙ no_texts c.args.text.now (eqb-true _ _ (sym c.if-is_empty.ensures))

pub returns : goal.returns
returns c =
    let text = c.args.text.now in
    c.in_ok-extend_from_slice-2.ensures.items
    ∙ ap (λ bytes. bytes ++ 0 ∷ 0 ∷ 0 ∷ 0 ∷ []) (c.in_ok-push_texts.ensures ∙ ap (λ bytes. bytes ++ flat_map char_bytes (with_zeros (chars text))) c.new-bytes.ensures.items)
    ∙ some_texts text c.utf8.text (eqb-false _ _ (sym c.if-is_empty.ensures))
