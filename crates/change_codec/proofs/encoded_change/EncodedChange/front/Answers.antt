use Rattle.std.proofs.Common.{◌∙◌, take, sym, ap, subst}
use Rattle.std.proofs.lemmas.List.{take-take}
use Rattle.change_codec.specs.Changes.{EncodesOneChange, change_in}
use Rattle.change_codec.proofs.encoded_change.EncodedChange.front.Goals as goal

pub invariant_of-result : goal.invariant_of-result
invariant_of-result c = (c.requires.few, subst EncodesOneChange (sym (ap (take c.args.len) c.copy_from_slice.ensures.after ∙ take-take c.args.len 38 c.args.bytes.now c.requires.few)) c.requires.change)

pub returns : goal.returns
returns c = ap change_in (ap (take c.args.len) c.copy_from_slice.ensures.after ∙ take-take c.args.len 38 c.args.bytes.now c.requires.few)
