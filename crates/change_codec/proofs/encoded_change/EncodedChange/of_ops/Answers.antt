use Rattle.std.proofs.Common.{◌∙◌, ◌++◌, List, ℕ, ap}
use Rattle.reg_tree.specs.declared.element.Element.{Element}
use Rattle.change_codec.specs.Encoding.{element_bytes}
use Rattle.change_codec.proofs.ChangeBytes.{stands_for}
use Rattle.change_codec.proofs.encoded_change.EncodedChange.of_ops.Goals as goal

pub kept-requires : goal.kept-requires
kept-requires c =
    let e : Element = record { moment = c.args.moment; ops = c.args.ops.now ++ c.args.more.now } in
    let wrote = c.in_ok-write_change.ensures in
    (stands_for e c.write_change.new.bytes.items wrote.all (wrote.encoding ∙ ap (λ (l : List ℕ). l ++ element_bytes e) c.in_ok-bytes.ensures.items)).0

pub returns : goal.returns
returns c =
    let e : Element = record { moment = c.args.moment; ops = c.args.ops.now ++ c.args.more.now } in
    let wrote = c.in_ok-write_change.ensures in
    c.kept.ensures ∙ (stands_for e c.write_change.new.bytes.items wrote.all (wrote.encoding ∙ ap (λ (l : List ℕ). l ++ element_bytes e) c.in_ok-bytes.ensures.items)).1
