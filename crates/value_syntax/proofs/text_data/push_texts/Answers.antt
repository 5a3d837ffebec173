use Rattle.std.proofs.Common.{sym, ap, ◌∙◌, map-id, ◌++◌, []}
use Rattle.std.specs.List.{flat_map}
use Rattle.std.proofs.lemmas.List.{append-nil}
use Rattle.std.proofs.lemmas.Iterator.{YieldsList-from_chars}
use Rattle.std.proofs.lemmas.Iterator.Consumers.{YieldsList-end}
use Rattle.value_syntax.specs.Data.{char_bytes, with_zeros}
use Rattle.value_syntax.proofs.Separators.{at_end, one_more}
use Rattle.value_syntax.proofs.text_data.push_texts.Goals as goal

pub loop-c-preserved : goal.loop-c-preserved
loop-c-preserved c = λ rest. one_more c.loop-c.bytes.items c.push_next.new.bytes.items c.loop-c.yielded rest c.loop-c.is_held c.in_ok-is_held.is_held c.in-Some.c c.in_ok-is_held.ensures c.args.bytes.now.items c.loop-c.invariant

pub returns : goal.returns
returns c =
    let end = YieldsList-end (YieldsList-from_chars c.args.text.now c.utf8.text cc) c.loop-c.yielded _ c.loop-c.yielded_by _ _ c.in-None.is c.next.ensures.steps in
    c.in_ok-push_held.ensures ∙ sym (at_end c.loop-c.bytes.items c.loop-c.is_held) ∙ c.loop-c.invariant []
    ∙ ap (λ cs. c.args.bytes.now.items ++ flat_map char_bytes (with_zeros cs)) (append-nil c.loop-c.yielded ∙ sym (map-id c.loop-c.yielded) ∙ end.0)
