use Rattle.std.proofs.Common.{◌≡◌, ◌%◌, ◌-◌, ◌++◌, List, ℕ, length, take, ap, ◌∙◌, arith, refl}
use Rattle.std.specs.Vec.{vec_len}
use Rattle.std.proofs.Math.ListN.{replicate}
use Rattle.std.proofs.lemmas.List.{with_items_is}
use Rattle.dirt_log.specs.WholeLog.{IsCovered, repaired}
use Rattle.dirt_log.proofs.Replaced.{resized_same}
use Rattle.dirt_log.proofs.reader.DirtLog.apply_to.Goals as goal

pub returns-clause-ok : goal.returns-clause-ok
returns-clause-ok c =
    let v = c.args.self.now.vector in
    let pages = c.args.self.now.pages.now in
    let old = c.args.image.now.items in
    let resized = c.resize.new.self in
    let whole : v.bins_size % 512 ≡ 0 = omega (arith, c.bins_size.ensures.value, c.bins_size.ensures.whole) in
    let covered : IsCovered (length old) v = λ page inside off. omega (arith, c.if-not-covers.ensures.0 refl page inside off, c.len.ensures) in
    let filler : List ℕ = replicate (c.bins_size.result - vec_len c.args.image.now) 0 in
    with_items_is resized c.put_logged.new.image (omega arith)
    ∙ c.put_logged.ensures
    ∙ ap (λ (xs : List ℕ). repaired xs v pages) c.deref_mut.ensures.value
    ∙ resized_same old resized.items v pages filler (c.in_ok-resize.ensures.items ∙ ap (λ (n : ℕ). take n old ++ filler) c.bins_size.ensures.value) whole covered
