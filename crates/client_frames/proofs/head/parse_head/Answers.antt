use Rattle.std.proofs.Common.{sym, ◌∙◌}
use Rattle.std.specs.Cmp.Lexicographic.{same_text, other_text}
use Rattle.client_frames.proofs.HeadTexts.{data_result, no_place, word_result}
use Rattle.client_frames.proofs.head.parse_head.Goals as goal

pub returns-then-eq : goal.returns-then-eq
returns-then-eq c =
    data_result c.parse_data_head.result c.args.text.now c.in-Some.word.now c.in-Some.rest.now c.in-Some.ensures.0 c.in-Some.ensures.1 (same_text _ _ c.if-eq.ensures ∙ c.as_slice.ensures) c.parse_data_head.ensures

pub returns-in_err-place : goal.returns-in_err-place
returns-in_err-place c =
    rw c.from_residual.ensures (no_place c.args.text.now c.in-Some.word.now c.in-Some.rest.now c.in-Some.ensures.0 c.in-Some.ensures.1 (λ e. other_text _ _ c.if-eq.ensures (e ∙ sym c.as_slice.ensures)) c.in_err-place.ensures)

pub returns : goal.returns
returns c =
    word_result c.parse_word.result c.args.text.now c.in-Some.word.now c.in-Some.rest.now c.in_ok-place.place c.in-Some.ensures.0 c.in-Some.ensures.1 (λ e. other_text _ _ c.if-eq.ensures (e ∙ sym c.as_slice.ensures)) c.in_ok-place.ensures.0 c.in_ok-place.ensures.1 c.parse_word.ensures
