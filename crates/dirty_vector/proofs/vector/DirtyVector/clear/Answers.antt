use Rattle.std.proofs.Common.{◌≡◌, ℕ, length, ap, sym, ◌∙◌, arith}
use Rattle.std.specs.Prelude.{replicate}
use Rattle.std.specs.Vec.{vec_len}
use Rattle.dirty_vector.proofs.Sets.{made_clean}
use Rattle.dirty_vector.proofs.vector.DirtyVector.clear.Goals as goal

pub returns : goal.returns
returns c =
    let long : length c.fill.new.self.items ≡ vec_len c.self.inside.words = omega (arith, c.fill.ensures.len, c.fill.new.self.ok.0) in
    made_clean c.self.inside.bins_size c.self.inside.words.items c.fill.new.self.items c.args.self.now c.self.view_is
    (c.fill.ensures.items (λ y e. e) ∙ ap (λ (n : ℕ). replicate n 0) (sym long))
