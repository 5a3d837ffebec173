use Rattle.std.proofs.Common.{sym, ap, ◌∙◌, map-id, ◌++◌}
use Rattle.std.specs.List.{flat_map}
use Rattle.std.proofs.lemmas.Iterator.{YieldsList-from_chars}
use Rattle.std.proofs.lemmas.Iterator.Consumers.{YieldsList-end}
use Rattle.value_syntax.specs.Data.{char_bytes}
use Rattle.value_syntax.proofs.text_data.push_text.Goals as goal

pub returns : goal.returns
returns c =
    let end = YieldsList-end (YieldsList-from_chars c.args.text.now c.utf8.text cc) c.loop-c.yielded _ c.loop-c.yielded_by _ _ c.in-None.is c.next.ensures.steps in
    c.loop-c.invariant ∙ ap (λ cs. c.args.bytes.now.items ++ flat_map char_bytes cs) (sym (map-id c.loop-c.yielded) ∙ end.0)
