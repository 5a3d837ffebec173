-- The image encodes the tree, which is within the limits, since it was emitted and every tree is shallow.
use Rattle.std.proofs.Common.{◌≡◌, ⊎_elim, Ok, Err, Result, arith}
use Rattle.std.proofs.lemmas.Bool.{cases_lt}
use Rattle.refusals.specs.declared.refusal.Refusal.{Refusal}
use Rattle.refusals.specs.declared.refusal.Refusal.TheVariants.{TooLarge}
use Rattle.reg_tree.specs.Maps.{weight}
use Rattle.regtx_c.proofs.files.image_of.Goals as goal

never : {T : Type 0} (x : T) (e : Refusal) → ◌≡◌ {A = Result T Refusal} (Ok x) (Err e) → ⊥
never x e same = absurd cc

pub returns-clause-stands : goal.returns-clause-stands
returns-clause-stands c =
    let tree = c.args.tree.now in (
      c.in-Ok.ensures.stands 5 (omega arith),
      record {
        light = ⊎_elim (λ over. absurd (never c.in-Ok.emitted TooLarge (c.in-Ok.ensures.heavy over))) (λ within. within) (cases_lt 16_777_216 (weight tree));
        shallow = λ path key there. (c.root.ensures.encodable.rows path key there).shallow;
      },
    )
