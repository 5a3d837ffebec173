use Rattle.std.proofs.Common.{◌≡◌, ◌-◌, ℕ, true, ◌∙◌, ◌&&◌, sym, ap, arith, rules, get_or, Some}
use Rattle.std.specs.Prelude.{nat_lt}
use Rattle.std.proofs.lemmas.Option.{slice_get-get_or}
use Rattle.hive_salvage.specs.Salvage.{have_one_name}
use Rattle.hive_salvage.proofs.siblings.is_repeated.Goals as goal

later : (place : ℕ) → (place ≡ 0 → ⊥) → nat_lt 0 place ≡ true
later place h = search (rules, h)

pub returns : goal.returns
returns c =
    let one = slice_get-get_or c.args.siblings.now (c.args.place - 1) c.index-siblings-place.result (omega (arith, c.requires)) in
    let other = slice_get-get_or c.args.siblings.now c.args.place c.index-siblings-place-2.result c.requires in
    c.are_alike.ensures ∙ sym ((λ i. nat_lt 0 c.args.place && have_one_name (one i) (other i)) ∙ ap (λ b. b && have_one_name (Some (get_or c.args.siblings.now (c.args.place - 1) c.index-siblings-place.result)) (Some (get_or c.args.siblings.now c.args.place c.index-siblings-place-2.result))) (later c.args.place c.if-place-eq0.false))
