use Rattle.std.proofs.Common.{◌≡◌, length, ⊎_elim, arith, Ok, Err, Result}
use Rattle.std.specs.Prelude.{◌%◌}
use Rattle.std.proofs.lemmas.Result.{err_from_is_err_and}
use Rattle.refusals.specs.declared.refusal.Refusal.{Refusal}
use Rattle.std.proofs.lemmas.Bool.{and_from, cases_lt, eq-eqb, le-leb}
use Rattle.refusals.specs.declared.refusal.Refusal.TheVariants.{TooLarge}
use Rattle.reg_tree.specs.Maps.{weight}
use Rattle.hive_flush.proofs.Legal.{emit_told}
use Rattle.hive_flush.proofs.application.encoded_tree.Goals as goal

never : {T : Type 0} (x : T) (e : Refusal) → ◌≡◌ {A = Result T Refusal} (Ok x) (Err e) → ⊥
never x e same = absurd cc

pub returns-in_err-emitted-clause-refused : goal.returns-in_err-emitted-clause-refused
returns-in_err-emitted-clause-refused c =
    let p = err_from_is_err_and c.from_residual.result c.from_residual.ensures.1 in
    rw (p.1, p.2) (emit_told _ _ _ c.requires.most c.in_err-emitted.ensures.refused)

pub returns-clause-size : goal.returns-clause-size
returns-clause-size c =
    let bytes = c.in_ok-emitted.emitted.image.bytes in
    let n = length bytes in
    and_from _ _ (and_from _ _ (eq-eqb (n % 4096) 0 c.tiles.ensures.tiles.pages) (le-leb 4096 n (omega (arith, c.requires.least, c.in_ok-emitted.ensures.least)))) (le-leb n 67108864 c.in_ok-emitted.ensures.limit)

pub returns-clause-stands : goal.returns-clause-stands
returns-clause-stands c =
    let tree = c.args.tree.now in (
      c.in_ok-emitted.ensures.stands 5 (omega arith),
      record {
        light = ⊎_elim (λ over. absurd (never c.in_ok-emitted.emitted TooLarge (c.in_ok-emitted.ensures.heavy over))) (λ within. within) (cases_lt 16_777_216 (weight tree));
        shallow = λ path key there. (c.root.ensures.encodable.rows path key there).shallow;
      },
    )
