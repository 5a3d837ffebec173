use Rattle.std.proofs.Common.{◌∙◌, ap, length, List, ℕ}
use Rattle.change_codec.proofs.Lengths.{element_length}
use Rattle.change_codec.proofs.encoded_change.EncodedChange.text_len.Goals as goal

pub returns : goal.returns
returns c = ap (λ (l : List ℕ). length l) c.bytes.ensures.encoding ∙ element_length c.args.self.now
