use Rattle.std.proofs.Common.{◌∙◌, ap, subst, Result, Ok, Err}
use Rattle.std.specs.Prelude.{IfOk}
use Rattle.reg_tree.specs.declared.element.Element.{Element}
use Rattle.change_codec.specs.Readers.{repeat}
use Rattle.change_codec.specs.Encoding.{op_at}
use Rattle.change_codec.specs.Changes.{HasOps, change_in}
use Rattle.change_codec.proofs.encoded_change.EncodedChange.ops_on.Goals as goal

-- what follows from a fact of the value, if there is one
weaker : {T E : Type 0} (P Q : T → Type 0) (r : Result T E) → ((x : T) → P x → Q x) → IfOk r P → IfOk r Q
weaker P Q (Ok x) f h = f x h
weaker P Q (Err e) f h = h

pub returns : goal.returns
returns c =
    let is = ap change_in c.bytes.ensures ∙ c.self.view_is in
    let has = subst (λ (e : Element). HasOps (repeat c.ops_in-count.result.0 (op_at 256) c.ops_in-count.result.1.now) e.ops) is c.ops_in-count.ensures in
    weaker _ _ c.take_ops_on.result (λ x made. made c.args.self.now.ops has) c.take_ops_on.ensures
