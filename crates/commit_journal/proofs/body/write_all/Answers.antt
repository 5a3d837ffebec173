use Rattle.std.proofs.Common.{◌∙◌, ◌++◌, ◌∷◌, [], List, ℕ, take, length, ◌<◌, ap, sym, arith}
use Rattle.std.specs.List.{flat_map}
use Rattle.std.proofs.lemmas.List.{flat_map_more, take_more}
use Rattle.reg_tree.specs.declared.element.Element.{Element}
use Rattle.change_codec.specs.Encoding.{element_bytes}
use Rattle.change_codec.proofs.Taken.{all_more}
use Rattle.commit_journal.specs.Handed.{FitsIfThere}
use Rattle.commit_journal.proofs.body.write_all.Goals as goal

pub loop-element-preserved : goal.loop-element-preserved
loop-element-preserved c =
    let xs = c.args.elements.now in
    let i = c.loop-element.element-index in
    let x = c.element-item.result in
    let lt : i < length xs = omega arith in
    let upto = ap (λ (y : Element). take i xs ++ y ∷ []) c.element-item.is ∙ sym (take_more xs i x lt) in
    record {
      encoding = c.in_ok-extend_from_slice.ensures.items ∙ ap (λ (t : List ℕ). c.loop-element.bytes.items ++ t) c.bytes.ensures.encoding ∙ ap (λ (b : List ℕ). b ++ element_bytes x) c.loop-element.invariant.encoding
          ∙ flat_map_more element_bytes c.args.bytes.now.items (take i xs) x ∙ ap (λ (l : List Element). c.args.bytes.now.items ++ flat_map element_bytes l) upto;
      fit = all_more FitsIfThere xs i x lt c.element-item.is c.loop-element.invariant.fit (record { fits = c.bytes.ensures.fits });
    }
