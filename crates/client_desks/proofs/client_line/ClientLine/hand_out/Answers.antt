use Rattle.std.proofs.Common.{◌≡◌, ◌≤◌, ◌+◌, List, ℕ, length, take, drop, sym, ◌∙◌, ap, arith}
use Rattle.std.proofs.lemmas.List.{take_rest, length-drop}
use Rattle.client_desks.specs.Lines.{LineRest}
use Rattle.client_desks.proofs.Handing.{handed_out, rest_later}
use Rattle.client_desks.proofs.client_line.ClientLine.hand_out.Goals as goal

pub returns-clause-bytes : goal.returns-clause-bytes
returns-clause-bytes c =
    let i = c.self.inside in
    let n = c.min-count.result in
    let part : c.copy_from_slice.new.self ≡ take n (drop i.handed_out i.bytes.items) = (rw c.deref.ensures.value at c.copy_from_slice.ensures.after) ∙ ap (λ (l : List ℕ). take n l) (take_rest i.bytes.items i.handed_out) in
    let within : n ≤ length (drop i.handed_out i.bytes.items) = omega (arith, length-drop i.handed_out i.bytes.items, c.min-count.ensures) in
    ap (λ (l : LineRest). l.rest) (sym c.self.view_is) ∙ handed_out i.handed_out n i.bytes.items c.copy_from_slice.new.self (drop n c.args.buf.now) part within

pub invariant_of-self : goal.invariant_of-self
invariant_of-self c =
    let i = c.self.inside in
    let within : i.handed_out + c.min-count.result ≤ length i.bytes.items = omega (arith, c.min-count.ensures) in
    (within, rest_later i.handed_out c.min-count.result i.bytes.items c.self.invariant.1)
