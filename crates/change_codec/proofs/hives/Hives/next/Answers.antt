use Rattle.std.proofs.Common.{◌∙◌, ◌-◌, ◌∷◌, ℕ, ap, sym, arith}
use Rattle.change_codec.specs.Changes.{hives_in}
use Rattle.change_codec.proofs.ChangeBytes.{one_hive, last_hive}
use Rattle.change_codec.proofs.hives.Hives.next.Goals as goal

pub returns : goal.returns
returns c =
    let left = c.self.inside.left in
    let got = c.in-Some.ensures in
    sym c.self.view_is ∙ one_hive got.0 left (left - 1) c.self.inside.bytes.now c.in-Some.rest.now (omega (arith, c.if-self-eq0.false)) got.1 c.self.invariant
    ∙ ap (λ (h : ℕ). h ∷ hives_in (left - 1) c.in-Some.rest.now) got.2

pub returns-then-self-eq1 : goal.returns-then-self-eq1
returns-then-self-eq1 c = sym c.self.view_is ∙ last_hive c.self.inside.left c.self.inside.bytes.now c.hive_in.result c.if-self-eq1.true c.self.invariant c.hive_in.ensures
