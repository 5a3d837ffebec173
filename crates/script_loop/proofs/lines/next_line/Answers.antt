use Rattle.std.proofs.Common.{◌≡◌, ◌++◌, length, subst, arith}
use Rattle.std.specs.Prelude.{IfSome}
use Rattle.std.specs.Io.BufRead.{take_through}
use Rattle.script_loop.proofs.LineEnds.{takes_line}
use Rattle.script_loop.proofs.lines.next_line.Goals as goal

pub returns-in-Ok-clause-line : goal.returns-in-Ok-clause-line
returns-in-Ok-clause-line g c =
    let known = g.R.Read.remaining c.args.reader.now in
    let items = c.read_until.new.buf.items in
    let taken = subst (λ old. IfSome known (λ bytes. items ≡ old ++ take_through 10 bytes)) c.clear.ensures.items c.in-Ok.ensures.bytes in
    let long : length items ≡ c.in-Ok.field-0 = omega (arith, c.in-Ok.ensures.ok, c.clear.ensures.len, c.read_until.new.buf.ok.0) in
    takes_line known (g.R.Read.remaining c.read_until.new.self) items c.strip_end.new.line.items c.in-Ok.field-0 taken c.in-Ok.ensures.rest long c.in-Ok.field-0-test.1 c.strip_end.ensures
