use Rattle.std.proofs.Common.{◌∙◌, ap, subst}
use Rattle.change_codec.specs.Encoding.{element_bytes, Fits}
use Rattle.change_codec.specs.ChangeBytes.{bytes_of}
use Rattle.change_codec.proofs.ChangeBytes.{is_encoding, fits_within}
use Rattle.change_codec.proofs.encoded_change.EncodedChange.bytes.Goals as goal

pub returns-clause-encoding : goal.returns-clause-encoding
returns-clause-encoding c = c.bytes.ensures ∙ (is_encoding (bytes_of c.self.inside.repr) c.self.invariant.1).0 ∙ ap element_bytes c.self.view_is

pub returns-clause-fits : goal.returns-clause-fits
returns-clause-fits c = λ hives there.
    let fits : Fits 256 c.args.self.now = subst (Fits 256) c.self.view_is (is_encoding (bytes_of c.self.inside.repr) c.self.invariant.1).1 in
    fits_within hives 256 c.args.self.now fits there
