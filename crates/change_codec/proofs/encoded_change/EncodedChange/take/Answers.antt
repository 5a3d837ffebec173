use Rattle.std.proofs.Common.{◌∙◌, ◌-◌, ◌≤◌, ℕ, arith, ap, sym, length, Some}
use Rattle.reg_tree.specs.declared.element.Element.{Element}
use Rattle.change_codec.specs.Encoding.{element_at}
use Rattle.change_codec.proofs.ChangeBytes.{cut, no_longer}
use Rattle.change_codec.proofs.encoded_change.EncodedChange.take.Goals as goal

pub overflow_sub-len : goal.overflow_sub-len
overflow_sub-len c = let got = c.in-Some.ensures in no_longer c.from.result (omega (arith, c.from.ensures, c.ranges.hives.fits)) c.args.bytes.now got.0 c.in-Some.rest.now got.1

pub copied-requires-clause-change : goal.copied-requires-clause-change
copied-requires-clause-change c =
    let got = c.in-Some.ensures in
    let few : c.from.result ≤ 256 = omega (arith, c.from.ensures, c.ranges.hives.fits) in
    (cut c.from.result few c.args.bytes.now got.0 c.in-Some.rest.now got.1 (length c.args.bytes.now - length c.in-Some.rest.now)
    (omega (arith, no_longer c.from.result few c.args.bytes.now got.0 c.in-Some.rest.now got.1))).0

pub returns : goal.returns
returns c =
    let got = c.in-Some.ensures in
    let few : c.from.result ≤ 256 = omega (arith, c.from.ensures, c.ranges.hives.fits) in
    let is = (cut c.from.result few c.args.bytes.now got.0 c.in-Some.rest.now got.1 (length c.args.bytes.now - length c.in-Some.rest.now)
    (omega (arith, no_longer c.from.result few c.args.bytes.now got.0 c.in-Some.rest.now got.1))).1 in
    ap (λ (n : ℕ). element_at n c.args.bytes.now) (sym c.from.ensures) ∙ got.1 ∙ ap (λ (e : Element). Some (e, c.in-Some.rest.now)) (sym is ∙ sym c.in_ok-copied.ensures)
