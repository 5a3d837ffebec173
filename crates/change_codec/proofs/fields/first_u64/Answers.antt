use Rattle.std.proofs.Common.{◌-◌, ◌≡◌, ℕ, ◌<◌, List, length, take, drop, get_or, Some, sym, ap, ◌∙◌, arith, length-drop}
use Rattle.std.proofs.lemmas.List.{take_all}
use Rattle.change_codec.proofs.Taken.{number_whole}
use Rattle.change_codec.proofs.fields.first_u64.Goals as goal

pub returns : goal.returns
returns c =
    let bytes = c.args.bytes.now in
    let small : (k : ℕ) → k < length bytes → get_or bytes k 0 < 256 = λ k lt. let h = c.type_inv.bytes k in omega (arith, h) in
    let whole : take (length bytes - 8) (drop 8 bytes) ≡ drop 8 bytes = take_all (length bytes - 8) (drop 8 bytes) (omega (arith, length-drop 8 bytes)) in
    number_whole 8 bytes (omega arith) small
    ∙ ap (λ (n : ℕ). Some (n, drop 8 bytes)) (sym c.read_u64.ensures)
    ∙ ap (λ (l : List ℕ). Some (c.read_u64.result, l)) (sym whole)
