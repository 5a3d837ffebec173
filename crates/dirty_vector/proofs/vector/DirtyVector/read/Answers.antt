use Rattle.std.proofs.Common.{List, ℕ, inl, ap, ◌∙◌, arith}
use Rattle.std.specs.Vec.{with_items}
use Rattle.std.proofs.lemmas.List.{with_items_is}
use Rattle.dirty_vector.specs.Marks.{is_marked}
use Rattle.dirty_vector.proofs.Sets.{made_read}
use Rattle.dirty_vector.proofs.vector.DirtyVector.read.Goals as goal

pub returns : goal.returns
returns c =
    let v = c.in_ok-words.words in
    let ws = c.read_bitmap.new.words in
    let same = with_items_is v ws (omega arith) in
    inl (made_read c.args.bins_size v.items (with_items v ws).items c.args.bitmap.now c.in_ok-words.ensures.ok (λ p. ap (λ (xs : List ℕ). is_marked xs p) same ∙ c.read_bitmap.ensures p))
