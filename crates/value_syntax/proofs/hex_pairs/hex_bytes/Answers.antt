use Rattle.std.proofs.Common.{◌≡◌, ℕ, List, ◌∷◌, [], map, length, sym, ap, ◌∙◌, lit<, Some, Bor}
use Rattle.std.specs.Prelude.{◌==◌}
use Rattle.std.specs.List.{slice_split}
use Rattle.std.proofs.lemmas.List.{map-append}
use Rattle.std.proofs.lemmas.Iterator.Splits.{YieldsList-from_str_split}
use Rattle.std.proofs.lemmas.Iterator.Consumers.{YieldsList-end, YieldsList-turn}
use Rattle.value_syntax.specs.Data.{all_pair_bytes, pair_bytes, hex_bytes}
use Rattle.value_syntax.proofs.Pairs.{one_more, none_at, not_empty, handed_on}
use Rattle.value_syntax.proofs.hex_pairs.hex_bytes.Goals as goal

pub returns-in_err-push_pairs : goal.returns-in_err-push_pairs
returns-in_err-push_pairs c =
    let text = c.args.text.now in
    let parts = slice_split (λ b. b == 44) text in
    let part = c.in-Some.part.now in
    let way = YieldsList-from_str_split 44 text (lit< tt) (cc) (cc) (cc) in
    let turn = YieldsList-turn way c.loop-part.yielded _ c.loop-part.yielded_by _ _ c.in-Some.part c.in-Some.is c.next.ensures.steps in
    handed_on (λ made. made.items) c.from_residual.result c.in_err-push_pairs.field-0.0 (pair_bytes c.as_bytes.result.now) (hex_bytes text) c.from_residual.ensures.1
    (λ none. sym (not_empty text (sym c.if-is_empty.ensures)) ∙ none_at parts (length c.loop-part.yielded) part turn.0 (ap pair_bytes (sym turn.1 ∙ sym c.as_bytes.ensures.value) ∙ none))
    c.in_err-push_pairs.ensures

pub loop-part-preserved : goal.loop-part-preserved
loop-part-preserved c =
    let added = c.in_ok-push_pairs.ensures in
    let before = map (λ (part : Bor (List ℕ)). part.now) c.loop-part.yielded in
    let bytes : pair_bytes c.in-Some.part.now ≡ Some added.0 = ap pair_bytes (sym c.as_bytes.ensures.value) ∙ added.1 in
    ap all_pair_bytes (map-append (λ (part : Bor (List ℕ)). part.now) c.loop-part.yielded (c.in-Some.part ∷ []))
    ∙ one_more before c.in-Some.part.now c.loop-part.bytes.items added.0 c.loop-part.invariant bytes ∙ ap (λ list. Some list) (sym added.2)

pub returns : goal.returns
returns c =
    let text = c.args.text.now in
    let way = YieldsList-from_str_split 44 text (lit< tt) (cc) (cc) (cc) in
    let end = YieldsList-end way c.loop-part.yielded _ c.loop-part.yielded_by _ _ c.in-None.is c.next.ensures.steps in
    sym (not_empty text (sym c.if-is_empty.ensures)) ∙ ap all_pair_bytes (sym end.0) ∙ c.loop-part.invariant
