use Rattle.std.proofs.Common.{◌∷◌, ◌++◌, [], take, arith}
use Rattle.std.proofs.KnownBytes.{Consumes-trans}
use Rattle.std.proofs.lemmas.List.{length_push, length-take-le}
use Rattle.client_frames.proofs.Cuts.{lacks_append}
use Rattle.client_frames.proofs.Inputs.{long_text}
use Rattle.client_frames.proofs.frame_reader.read_text.Goals as goal

pub returns-in-Some-2-clause-refused : goal.returns-in-Some-2-clause-refused
returns-in-Some-2-clause-refused g c =
    let known = g.R.Read.remaining c.args.reader.now in
    let mid = g.R.Read.remaining c.bytes.reader in
    let after = g.R.Read.remaining c.next_byte.new.reader in
    let front = take c.bytes.len c.bytes.text in
    let byte = c.in-Some.byte in
    long_text known after (front ++ byte ∷ []) (Consumes-trans known mid after front (byte ∷ []) c.bytes.invariant.bytes (rw c.in-Some.is at c.in_ok-next_byte.ensures.byte)) (omega (arith, length_push front byte, length-take-le c.bytes.len c.bytes.text c.bytes.invariant.within, c.bytes.invariant.size, c.requires, c.if-len-text.false)) (lacks_append 10 front (byte ∷ []) c.bytes.invariant.lacks (c.in-Some.byte-test.1, tt))
